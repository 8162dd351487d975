-- Items under an operator by their halves, and what is made of them.
use Rattle.std.proofs.Common.{◌≡◌, sym, ap, ap₂, subst, ◌∙◌, ℕ, suc, ◌+◌, ◌-◌, ◌≤◌, ◌<◌, Bool, true, false, ◌||◌, List, [], ◌∷◌, ◌++◌, length, map, take, drop, get_or, arith, append_assoc, length-append}
use Rattle.std.specs.Int.{div_ceil}
use Rattle.std.proofs.lemmas.List.{map-append, length-map, take-map, drop-map, take_rest}
use Rattle.dom_base.proofs.Lists.{slice_get-append, slice_get-behind}
use Rattle.gate_decompose.specs.declared.expression.Item.{Item}
use Rattle.gate_decompose.specs.declared.gates.Node.{Node}
use Rattle.gate_decompose.specs.declared.gates.Ref.{Ref}
use Rattle.gate_decompose.specs.declared.operator.Operator.{Operator}
use Rattle.gate_decompose.specs.GateNodes.{Fixed, Left, NamedNode, NodeName, Operand, Right, Turn, is_fixed, node_of, ref_of, standing}
use Rattle.gate_decompose.specs.TermNodes.{AreNumbered, IsMade, Makes, TermNodes, all_joined, dropped_by, item_nodes, item_of, joint_by, joined_parts, no_nodes, two_parts, under_not}
use Rattle.sp_network.specs.Balanced.{first_half}
use Rattle.sp_network.proofs.BalancedExpressions.{balanced-map}

pub turned_item : (names : List NodeName) (table : ℕ) (way : List Turn) (a : Operand) (plus : Bool) (item : Item) (old new : List Node) (r : Ref)
    → item ≡ item_of names (a, plus) → item.plus ≡ false → ((name : NodeName) → item.part ≡ ref_of names a → Makes names old new r (under_not name a))
    → Makes names old new r (item_nodes table (a, plus) way)
turned_item names table way a true item old new r e minus made = let plus : item.plus ≡ true = ap (λ (x : Item). x.plus) e in absurd (cc)
turned_item names table way a false item old new r e minus made = made (record { table = table; way = way }) (ap (λ (x : Item). x.part) e)

-- items under an operator by their halves
pub all_joined-halves : (operator : Operator) (table : ℕ) (items : List (Operand × Bool)) (way : List Turn) → 2 ≤ length items
    → all_joined operator table items way
    ≡ joined_parts operator table (all_joined operator table (take (first_half (length items)) items)) (all_joined operator table (drop (first_half (length items)) items)) way
all_joined-halves operator table items way many =
    ap (λ (f : List Turn → TermNodes). f way) (balanced-map (joined_parts operator table) (λ way. no_nodes (Fixed (dropped_by operator))) (item_nodes table) items many)

-- nodes that are numbered, in two parts
pub numbered_front : (names : List NodeName) (n : ℕ) (xs ys : List NamedNode) → AreNumbered names n (xs ++ ys) → AreNumbered names n xs
numbered_front names n xs ys h = λ i x e. h i x (slice_get-append xs ys i x e)

pub numbered_back : (names : List NodeName) (n : ℕ) (xs ys : List NamedNode) → AreNumbered names n (xs ++ ys) → AreNumbered names (n + length xs) ys
numbered_back names n xs ys h = λ i x e. h (length xs + i) x (slice_get-behind xs ys i ∙ e) ∙ omega arith

-- how many nodes there are then
made_length : (names : List NodeName) (old new : List Node) (r : Ref) (part : TermNodes) → IsMade names old new r part → length new ≡ length old + length part.nodes
made_length names old new r part is =
    ap length is.nodes ∙ length-append old (map (λ (n : NamedNode). node_of names n.joint) part.nodes) ∙ ap (λ k. length old + k) (length-map part.nodes (λ (n : NamedNode). node_of names n.joint))

-- a part, another, and the operator over both
pub two_made : (names : List NodeName) (name : NodeName) (operator : Operator) (l r : TermNodes) (old mid end new : List Node) (left right whole : Ref)
    → Makes names old mid left l → Makes names mid end right r
    → ((a b : Operand) → left ≡ ref_of names a → right ≡ ref_of names b → Makes names end new whole (two_parts operator name (no_nodes a) (no_nodes b)))
    → Makes names old new whole (two_parts operator name l r)
two_made names name operator l r old mid end new left right whole makes_left makes_right makes_whole = λ numbered.
    let own = standing (is_fixed l.comes_to || is_fixed r.comes_to) name (joint_by operator l.comes_to r.comes_to) in
    let f : NamedNode → Node = λ n. node_of names n.joint in
    let both = numbered_front names (length old) (l.nodes ++ r.nodes) own numbered in
    let x = makes_left (numbered_front names (length old) l.nodes r.nodes both) in
    let y = makes_right (subst (λ n. AreNumbered names n r.nodes) (sym (made_length names old mid left l x)) (numbered_back names (length old) l.nodes r.nodes both)) in
    let count : length end ≡ length old + length (l.nodes ++ r.nodes) =
    made_length names mid end right r y ∙ ap (λ k. k + length r.nodes) (made_length names old mid left l x) ∙ (let both_count = length-append l.nodes r.nodes in omega arith) in
    let z = makes_whole l.comes_to r.comes_to x.comes_to y.comes_to (subst (λ n. AreNumbered names n own) (sym count) (numbered_back names (length old) (l.nodes ++ r.nodes) own numbered)) in
    let here : end ≡ old ++ map f (l.nodes ++ r.nodes) = y.nodes ∙ ap (λ xs. xs ++ map f r.nodes) x.nodes ∙ append_assoc old (map f l.nodes) (map f r.nodes) ∙ ap (λ xs. old ++ xs) (sym (map-append f l.nodes r.nodes)) in
    record {
      nodes = z.nodes ∙ ap (λ xs. xs ++ map f own) here ∙ append_assoc old (map f (l.nodes ++ r.nodes)) (map f own) ∙ ap (λ xs. old ++ xs) (sym (map-append f (l.nodes ++ r.nodes) own));
      comes_to = z.comes_to;
    }

-- items, where both halves are made
pub halves_made : (names : List NodeName) (table : ℕ) (way : List Turn) (operator : Operator) (operands : List (Operand × Bool)) (items : List Item) (h : ℕ)
    (old mid end new : List Node) (left right whole : Ref) → 2 ≤ length items → h ≡ div_ceil (length items) 2 → items ≡ map (item_of names) operands
    → ((w : List Turn) (ops : List (Operand × Bool)) → take h items ≡ map (item_of names) ops → Makes names old mid left (all_joined operator table ops w))
    → ((w : List Turn) (ops : List (Operand × Bool)) → take (length items - h) (drop h items) ≡ map (item_of names) ops → Makes names mid end right (all_joined operator table ops w))
    → ((name : NodeName) (a b : Operand) → left ≡ ref_of names a → right ≡ ref_of names b → Makes names end new whole (two_parts operator name (no_nodes a) (no_nodes b)))
    → Makes names old new whole (all_joined operator table operands way)
halves_made names table way operator operands items h old mid end new left right whole many half are makes_left makes_right makes_whole =
    let count : length items ≡ length operands = ap length are ∙ length-map operands (item_of names) in
    let m : ℕ = first_half (length operands) in
    let same : h ≡ m = half ∙ ap (λ n. div_ceil n 2) count ∙ rounded (length operands) in
    let front : take h items ≡ map (item_of names) (take m operands) = ap₂ (λ n xs. take n xs) same are ∙ take-map (item_of names) m operands in
    let back : take (length items - h) (drop h items) ≡ map (item_of names) (drop m operands) =
    take_rest items h ∙ ap₂ (λ n xs. drop n xs) same are ∙ drop-map (item_of names) m operands in
    subst (λ part. Makes names old new whole part) (sym (all_joined-halves operator table operands way (omega (arith, many, count))))
    (two_made names (record { table = table; way = way }) operator (all_joined operator table (take m operands) (Left ∷ way)) (all_joined operator table (drop m operands) (Right ∷ way)) old mid end new left right whole
    (makes_left (Left ∷ way) (take m operands) front) (makes_right (Right ∷ way) (drop m operands) back) (makes_whole (record { table = table; way = way })))
  where
    rounded : (n : ℕ) → div_ceil n 2 ≡ first_half n
    rounded n = omega arith

-- the one item
pub one_made : (names : List NodeName) (table : ℕ) (way : List Turn) (operator : Operator) (operands : List (Operand × Bool)) (items : List Item) (d : Item) (old new : List Node) (whole : Ref)
    → 1 ≤ length items → length items < 2 → items ≡ map (item_of names) operands
    → ((a : Operand) (plus : Bool) → get_or items 0 d ≡ item_of names (a, plus) → Makes names old new whole (item_nodes table (a, plus) way))
    → Makes names old new whole (all_joined operator table operands way)
one_made names table way operator [] items d old new whole some few are makes = let none : length items ≡ 0 = ap length are in absurd (omega arith)
one_made names table way operator ((a, plus) ∷ []) items d old new whole some few are makes = makes a plus (ap (λ xs. get_or xs 0 d) are)
one_made names table way operator (x ∷ y ∷ more) items d old new whole some few are makes =
    let count : length items ≡ suc (suc (length (map (item_of names) more))) = ap length are in absurd (omega arith)
