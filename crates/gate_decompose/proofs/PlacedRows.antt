-- Rows at their ways down a table's term, and that a table makes what its rows and the Or above them make.
use Rattle.std.proofs.Common.{◌≡◌, refl, sym, ap, ap₂, subst, ◌∙◌, ℕ, zero, suc, ◌+◌, ◌≤◌, ◌<◌, Bool, true, false, List, [], ◌∷◌, ◌++◌, length, map, flat_map, take, drop, get_or, arith, add-one, append-nil, append_assoc, length-append, length-drop, length-take, take-append-drop}
use Rattle.std.proofs.Math.Seq.{drop-append_seam, take-append_seam, take-suc}
use Rattle.std.proofs.lemmas.Grind.{flat_map-append}
use Rattle.std.proofs.lemmas.List.{map-append, length-map, take_all}
use Rattle.blif_ast.specs.declared.letter.Letter.{Letter}
use Rattle.gate_decompose.specs.declared.expression.Item.{Item}
use Rattle.gate_decompose.specs.declared.gates.Node.{Node}
use Rattle.gate_decompose.specs.declared.gates.Ref.{Ref}
use Rattle.gate_decompose.specs.declared.operator.Operator.TheVariants.{Or as or_operator}
use Rattle.network.specs.NetworkData.{NetTableData}
use Rattle.gate_decompose.specs.GateNodes.{Left, NamedNode, NodeName, Operand, Right, Turn, above_nodes, folded, inside_nodes, node_of, row_nodes}
use Rattle.gate_decompose.specs.RowItems.{above_made, row_made}
use Rattle.gate_decompose.specs.RowsMade.{AreRowsMade, MakesRows, nodes_of_rows, rows_come_to}
use Rattle.gate_decompose.specs.TermNodes.{AreNumbered, IsMade, Makes, all_joined, item_of, placed, two_parts}
use Rattle.gate_decompose.specs.Terms.{And, Constant, Not, Or, Signal, Term, row_term}
use Rattle.gate_decompose.proofs.JoinedItems.{all_joined-halves, numbered_back, numbered_front}
use Rattle.gate_decompose.proofs.TermShapes.{NoOr}
use Rattle.sp_network.specs.Balanced.{balanced, first_half}
use Rattle.sp_network.proofs.BalancedExpressions.{balanced-map, by_halves}

placed-halves : {X : Type 0} (xs : List X) (way : List Turn) → 2 ≤ length xs
    → placed xs way ≡ placed (take (first_half (length xs)) xs) (Left ∷ way) ++ placed (drop (first_half (length xs)) xs) (Right ∷ way)
placed-halves {X} xs way many =
    ap (λ (f : List Turn → List (List Turn × X)). f way)
    (balanced-map (λ (l r : List Turn → List (List Turn × X)) way. l (Left ∷ way) ++ r (Right ∷ way)) (λ way. []) (λ (x : X) (way : List Turn). (way, x) ∷ []) xs many)

-- each item is there, in order
placed-items : {X : Type 0} (xs : List X) (way : List Turn) → map (λ (p : List Turn × X). p.1) (placed xs way) ≡ xs
placed-items [] way = refl
placed-items {X} (x ∷ xs) way =
    by_halves (λ ys. (w : List Turn) → map (λ (p : List Turn × X). p.1) (placed ys w) ≡ ys) (λ y w. refl)
    (λ ys many front back w.
    let h : ℕ = first_half (length ys) in
    ap (map (λ (p : List Turn × X). p.1)) (placed-halves ys w many)
    ∙ map-append (λ (p : List Turn × X). p.1) (placed (take h ys) (Left ∷ w)) (placed (drop h ys) (Right ∷ w))
    ∙ ap₂ (λ us vs. us ++ vs) (front (Left ∷ w)) (back (Right ∷ w))
    ∙ take-append-drop h ys)
    (length (x ∷ xs)) (x ∷ xs) (omega arith) (omega arith) way

pub placed-count : {X : Type 0} (xs : List X) (way : List Turn) → length (placed xs way) ≡ length xs
placed-count {X} xs way = sym (length-map (placed xs way) (λ (p : List Turn × X). p.1)) ∙ ap length (placed-items xs way)

pub placed-at : {X : Type 0} (xs : List X) (way : List Turn) (i : ℕ) (d : List Turn × X) → i < length xs → (get_or (placed xs way) i d).1 ≡ get_or xs i d.1
placed-at {X} xs way i d lt = get_mapped (placed xs way) i (subst (λ n. i < n) (sym (placed-count xs way)) lt) ∙ ap (λ ys. get_or ys i d.1) (placed-items xs way)
  where
    get_mapped : (ps : List (List Turn × X)) (k : ℕ) → k < length ps → (get_or ps k d).1 ≡ get_or (map (λ (p : List Turn × X). p.1) ps) k d.1
    get_mapped [] k lt = absurd (omega arith)
    get_mapped (p ∷ ps) zero lt = refl
    get_mapped (p ∷ ps) (suc k) lt = get_mapped ps k (omega arith)

module _ (names : List NodeName) (of : ℕ → Operand) (number : ℕ) (inputs : List ℕ) where
  abbrev called : NamedNode → Node
  called n = node_of names n.joint

  abbrev nodes_at : List Turn × List Letter → List NamedNode
  nodes_at p = row_nodes of number p.0 (row_term inputs p.1)

  -- a row more
  pub row_made_next : (rows : List (List Turn × List Letter)) (i : ℕ) (row : List Letter) (d : List Turn × List Letter) (old mid new : List Node) (r : Ref) (made : List Item)
      → i < length rows → (get_or rows i d).1 ≡ row
      → (AreNumbered names (length old) (nodes_of_rows of number inputs (take i rows)) → AreRowsMade names of number inputs (take i rows) old mid made)
      → ((way : List Turn) → Makes names mid new r (row_made of number (row_term inputs row) way))
      → AreNumbered names (length old) (nodes_of_rows of number inputs (take (i + 1) rows))
      → AreRowsMade names of number inputs (take (i + 1) rows) old new (made ++ (record { part = r; plus = true } ∷ []))
  row_made_next rows i row d old mid new r made lt is so_far makes numbered =
      let p : List Turn × List Letter = get_or rows i d in
      let more : take (i + 1) rows ≡ take i rows ++ (p ∷ []) = rw (add-one) (take-suc rows i d lt) in
      let split : nodes_of_rows of number inputs (take (i + 1) rows) ≡ nodes_of_rows of number inputs (take i rows) ++ nodes_at p =
      ap (flat_map nodes_at) more ∙ flat_map-append nodes_at (take i rows) (p ∷ []) ∙ ap (λ xs. nodes_of_rows of number inputs (take i rows) ++ xs) (append-nil (nodes_at p)) in
      let two = subst (AreNumbered names (length old)) split numbered in
      let before = so_far (numbered_front names (length old) (nodes_of_rows of number inputs (take i rows)) (nodes_at p) two) in
      let count : length mid ≡ length old + length (nodes_of_rows of number inputs (take i rows)) =
      ap length before.nodes ∙ length-append old (map called (nodes_of_rows of number inputs (take i rows)))
      ∙ ap (λ n. length old + n) (length-map (nodes_of_rows of number inputs (take i rows)) called) in
      let own = subst (λ n. AreNumbered names n (nodes_at p)) (sym count) (numbered_back names (length old) (nodes_of_rows of number inputs (take i rows)) (nodes_at p) two) in
      let here : IsMade names mid new r (row_made of number (row_term inputs p.1) p.0) =
      subst (λ x. Makes names mid new r (row_made of number (row_term inputs x) p.0)) (sym is) (makes p.0) own in
      record {
        nodes = here.nodes ∙ ap (λ xs. xs ++ map called (nodes_at p)) before.nodes ∙ append_assoc old (map called (nodes_of_rows of number inputs (take i rows))) (map called (nodes_at p))
            ∙ ap (λ xs. old ++ xs) (sym (ap (map called) split ∙ map-append called (nodes_of_rows of number inputs (take i rows)) (nodes_at p)));
        items = ap₂ (λ xs (x : Ref). xs ++ (record { part = x; plus = true } ∷ [])) before.items here.comes_to
            ∙ sym (ap (λ xs. map (item_of names) (rows_come_to of number inputs xs)) more
            ∙ ap (map (item_of names)) (map-append (λ (q : List Turn × List Letter). (folded of number q.0 (row_term inputs q.1), true)) (take i rows) (p ∷ []))
            ∙ map-append (item_of names) (rows_come_to of number inputs (take i rows)) (rows_come_to of number inputs (p ∷ [])));
      }

-- all rows
pub all_rows_made : (names : List NodeName) (of : ℕ → Operand) (number : ℕ) (way : List Turn) (t : NetTableData) (i : ℕ) (old new : List Node) (made : List Item) → length t.rows ≤ i
    → (AreNumbered names (length old) (nodes_of_rows of number t.inputs (take i (placed t.rows way))) → AreRowsMade names of number t.inputs (take i (placed t.rows way)) old new made)
    → MakesRows names of number way t old new made
all_rows_made names of number way t i old new made done =
    let all : take i (placed t.rows way) ≡ placed t.rows way = take_all i (placed t.rows way) (subst (λ n. n ≤ i) (sym (placed-count t.rows way)) done) in
    λ makes. subst (λ rows. AreNumbered names (length old) (nodes_of_rows of number t.inputs rows) → AreRowsMade names of number t.inputs rows old new made) all makes

module _ (of : ℕ → Operand) (number : ℕ) where
  module _ {X : Type 0} (term : X → Term) (plain : (x : X) → NoOr (term x)) where
    abbrev nodes_of : List Turn × X → List NamedNode
    nodes_of p = row_nodes of number p.0 (term p.1)

    abbrev comes : List Turn × X → Operand × Bool
    comes p = (folded of number p.0 (term p.1), true)

    row_inside : (t : Term) (way : List Turn) → NoOr t → inside_nodes of number way t ≡ row_nodes of number way t
    row_inside (Constant b) way h = refl
    row_inside (Signal s) way h = refl
    row_inside (Not t) way h = refl
    row_inside (And l r) way h = refl
    row_inside (Or l r) way h = absurd h

    row_above : (t : Term) (way : List Turn) → NoOr t → above_nodes of number way t ≡ []
    row_above (Constant b) way h = refl
    row_above (Signal s) way h = refl
    row_above (Not t) way h = refl
    row_above (And l r) way h = refl
    row_above (Or l r) way h = absurd h

    -- the nodes inside the rows
    pub inside_placed : (xs : List X) (way : List Turn) → inside_nodes of number way (balanced Or (Constant false) (map term xs)) ≡ flat_map nodes_of (placed xs way)
    inside_placed [] way = refl
    inside_placed (x ∷ xs) way =
        by_halves (λ ys. (w : List Turn) → inside_nodes of number w (balanced Or (Constant false) (map term ys)) ≡ flat_map nodes_of (placed ys w))
        (λ y w. row_inside (term y) w (plain y) ∙ sym (append-nil (row_nodes of number w (term y))))
        (λ ys many front back w.
        let h : ℕ = first_half (length ys) in
        ap (inside_nodes of number w) (balanced-map Or (Constant false) term ys many)
        ∙ ap₂ (λ us vs. us ++ vs) (front (Left ∷ w)) (back (Right ∷ w))
        ∙ sym (flat_map-append nodes_of (placed (take h ys) (Left ∷ w)) (placed (drop h ys) (Right ∷ w)))
        ∙ ap (flat_map nodes_of) (sym (placed-halves ys w many)))
        (length (x ∷ xs)) (x ∷ xs) (omega arith) (omega arith) way

    -- and what the Or above them makes
    pub above_joined : (xs : List X) (way : List Turn) → above_made of number (balanced Or (Constant false) (map term xs)) way ≡ all_joined or_operator number (map comes (placed xs way)) way
    above_joined [] way = refl
    above_joined (x ∷ xs) way =
        by_halves (λ ys. (w : List Turn) → above_made of number (balanced Or (Constant false) (map term ys)) w ≡ all_joined or_operator number (map comes (placed ys w)) w)
        (λ y w. ap (λ (ns : List NamedNode). record { nodes = ns; comes_to = folded of number w (term y) }) (row_above (term y) w (plain y)))
        (λ ys many front back w.
        let h : ℕ = first_half (length ys) in
        let name : NodeName = record { table = number; way = w } in
        let us = placed (take h ys) (Left ∷ w) in
        let vs = placed (drop h ys) (Right ∷ w) in
        let items = map comes us ++ map comes vs in
        let left = length-map us comes ∙ placed-count (take h ys) (Left ∷ w) ∙ length-take h ys in
        let right = length-map vs comes ∙ placed-count (drop h ys) (Right ∷ w) ∙ length-drop h ys in
        let count : length items ≡ length ys = length-append (map comes us) (map comes vs) ∙ omega (arith, left, right, many) in
        let half : first_half (length items) ≡ length (map comes us) = ap first_half count ∙ omega (arith, left, many) in
        ap (λ t. above_made of number t w) (balanced-map Or (Constant false) term ys many)
        ∙ ap₂ (two_parts or_operator name) (front (Left ∷ w)) (back (Right ∷ w))
        ∙ sym (ap (λ xs. all_joined or_operator number (map comes xs) w) (placed-halves ys w many)
        ∙ ap (λ xs. all_joined or_operator number xs w) (map-append comes us vs)
        ∙ all_joined-halves or_operator number items w (omega (arith, count, many))
        ∙ ap₂ (λ fs gs. two_parts or_operator name (all_joined or_operator number fs (Left ∷ w)) (all_joined or_operator number gs (Right ∷ w)))
        (ap (λ n. take n items) half ∙ take-append_seam (map comes us) (map comes vs)) (ap (λ n. drop n items) half ∙ drop-append_seam (map comes us) (map comes vs))))
        (length (x ∷ xs)) (x ∷ xs) (omega arith) (omega arith) way
