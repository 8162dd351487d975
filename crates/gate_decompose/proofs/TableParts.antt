-- A table makes what its rows, the Or above them and its Not make.
use Rattle.std.proofs.Common.{◌≡◌, sym, ap, subst, ◌∙◌, ℕ, ◌+◌, ◌<◌, Bool, true, false, cond, List, [], ◌∷◌, ◌++◌, length, map, All, append_assoc, length-append}
use Rattle.std.proofs.lemmas.List.{map-append, length-map}
use Rattle.gate_decompose.specs.declared.expression.Item.{Item}
use Rattle.gate_decompose.specs.declared.gates.Node.{Node}
use Rattle.gate_decompose.specs.declared.gates.Ref.{Ref}
use Rattle.gate_decompose.specs.declared.operator.Operator.TheVariants.{Or as or_operator}
use Rattle.gate_decompose.specs.GateNodes.{Left, NamedNode, NodeName, NotOf, Operand, Turn, above_nodes, folded, folded_not, inside_nodes, is_fixed, node_of, not_nodes, ref_of, rows_nodes, standing}
use Rattle.gate_decompose.specs.RowItems.{table_made}
use Rattle.gate_decompose.specs.RowsMade.{MakesRows, rows_come_to}
use Rattle.gate_decompose.specs.TermNodes.{AreNumbered, IsMade, Makes, all_joined, item_of, placed, under_not}
use Rattle.gate_decompose.specs.Terms.{Not, row_term, rows_term}
use Rattle.gate_decompose.proofs.JoinedItems.{numbered_back, numbered_front}
use Rattle.gate_decompose.proofs.PlacedRows.{above_joined, inside_placed}
use Rattle.gate_decompose.proofs.TermShapes.{row_is}
use Rattle.network.specs.NetworkData.{NetTableData}

-- nodes that come after others
after : (names : List NodeName) (old mid new : List Node) (r : Ref) (xs ys : List NamedNode) (comes : Operand) → mid ≡ old ++ map (λ (n : NamedNode). node_of names n.joint) xs
    → Makes names mid new r (record { nodes = ys; comes_to = comes }) → AreNumbered names (length old) (xs ++ ys) → IsMade names old new r (record { nodes = xs ++ ys; comes_to = comes })
after names old mid new r xs ys comes here makes numbered =
    let f : NamedNode → Node = λ n. node_of names n.joint in
    let count : length mid ≡ length old + length xs = ap length here ∙ length-append old (map f xs) ∙ ap (λ n. length old + n) (length-map xs f) in
    let is = makes (subst (λ n. AreNumbered names n ys) (sym count) (numbered_back names (length old) xs ys numbered)) in
    record {
      nodes = is.nodes ∙ ap (λ ns. ns ++ map f ys) here ∙ append_assoc old (map f xs) (map f ys) ∙ ap (λ ns. old ++ ns) (sym (map-append f xs ys));
      comes_to = is.comes_to;
    }

module _ (names : List NodeName) (of : ℕ → Operand) (number : ℕ) (t : NetTableData) (bound : ℕ) (below : All (λ s. s < bound) t.inputs) where
  -- the rows and the Or above them
  rows_made : (way : List Turn) (old mid new : List Node) (items : List Item) (part : Ref) → MakesRows names of number way t old mid items
      → ((ops : List (Operand × Bool)) → items ≡ map (item_of names) ops → Makes names mid new part (all_joined or_operator number ops way))
      → Makes names old new part (record { nodes = rows_nodes of number way (rows_term t); comes_to = folded of number way (rows_term t) })
  rows_made way old mid new items part makes_rows makes_or = λ numbered.
      let inside = inside_nodes of number way (rows_term t) in
      let above = above_nodes of number way (rows_term t) in
      let same = inside_placed of number (row_term t.inputs) (λ row. (row_is bound t.inputs row below).0) t.rows way in
      let rows = makes_rows (subst (AreNumbered names (length old)) same (numbered_front names (length old) inside above numbered)) in
      after names old mid new part inside above (folded of number way (rows_term t)) (rows.nodes ∙ ap (λ ns. old ++ map (λ (n : NamedNode). node_of names n.joint) ns) (sym same))
      (subst (Makes names mid new part) (sym (above_joined of number (row_term t.inputs) (λ row. (row_is bound t.inputs row below).0) t.rows way)) (makes_or (rows_come_to of number t.inputs (placed t.rows way)) rows.items))
      numbered

  pub on_made : (old mid new : List Node) (items : List Item) (part : Ref) → t.on ≡ true → MakesRows names of number [] t old mid items
      → ((ops : List (Operand × Bool)) → items ≡ map (item_of names) ops → Makes names mid new part (all_joined or_operator number ops []))
      → Makes names old new part (table_made of number t)
  on_made old mid new items part on makes_rows makes_or =
      subst (λ b. Makes names old new part (record {
        nodes = cond b (rows_nodes of number [] (rows_term t)) (rows_nodes of number (Left ∷ []) (rows_term t) ++ not_nodes of number [] (rows_term t));
        comes_to = folded of number [] (cond b (rows_term t) (Not (rows_term t)));
      })) (sym on) (rows_made [] old mid new items part makes_rows makes_or)

  pub off_made : (old mid end new : List Node) (items : List Item) (part r : Ref) → t.on ≡ false → MakesRows names of number (Left ∷ []) t old mid items
      → ((ops : List (Operand × Bool)) → items ≡ map (item_of names) ops → Makes names mid end part (all_joined or_operator number ops (Left ∷ [])))
      → ((name : NodeName) (a : Operand) → part ≡ ref_of names a → Makes names end new r (under_not name a))
      → Makes names old new r (table_made of number t)
  off_made old mid end new items part r off makes_rows makes_or makes_not =
      subst (λ b. Makes names old new r (record {
        nodes = cond b (rows_nodes of number [] (rows_term t)) (rows_nodes of number (Left ∷ []) (rows_term t) ++ not_nodes of number [] (rows_term t));
        comes_to = folded of number [] (cond b (rows_term t) (Not (rows_term t)));
      })) (sym off) turned
    where
      turned : Makes names old new r (record {
        nodes = rows_nodes of number (Left ∷ []) (rows_term t) ++ not_nodes of number [] (rows_term t);
        comes_to = folded of number [] (Not (rows_term t));
      })
      turned numbered =
          let rows = rows_nodes of number (Left ∷ []) (rows_term t) in
          let a = folded of number (Left ∷ []) (rows_term t) in
          let name : NodeName = record { table = number; way = [] } in
          let before = rows_made (Left ∷ []) old mid end items part makes_rows makes_or (numbered_front names (length old) rows (standing (is_fixed a) name (NotOf a)) numbered) in
          after names old end new r rows (standing (is_fixed a) name (NotOf a)) (folded_not name a) before.nodes (makes_not name a before.comes_to) numbered
