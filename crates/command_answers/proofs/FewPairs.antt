-- The forest of a network's gates is within the limits of forests.
use Rattle.std.proofs.Common.{◌≡◌, ℕ, zero, suc, ◌+◌, ◌-◌, ◌*◌, ◌<◌, ◌≤◌, Bool, true, false, cond, ◌||◌, List, [], ◌∷◌, ◌++◌, length, map, take, drop, flat_map, Some, slice_get, refl, sym, ap, ap₂, subst, ◌∙◌, arith, length-append, add-zero, zero-add, sum_by, count_by, All}
use Rattle.std.specs.List.{enumerate_from, range_with_len}
use Rattle.std.proofs.lemmas.List.{length-map, length-take-le, take-append-drop}
use Rattle.std.proofs.lemmas.List.Elements.{All-nil, All-cons}
use Rattle.std.proofs.lemmas.List.Sums.{sum_by-cons, sum_by-le, sum_by-take-drop}
use Rattle.std.proofs.lemmas.Slice.Zip.{AllZip-long}
use Rattle.dom_base.proofs.Bools.{and_both}
use Rattle.blif_ast.specs.declared.letter.Letter.{Letter}
use Rattle.blif_ast.specs.declared.letter.Letter.TheVariants.{Zero, One, Any}
use Rattle.network.specs.Limits.{letters}
use Rattle.network.specs.NetworkData.{NetTableData, NetworkData}
use Rattle.network.specs.Networks.{IsNetwork}
use Rattle.network.specs.declared.network.NetLatch.{NetLatch}
use Rattle.sp_network.specs.Balanced.{balanced_within, first_half}
use Rattle.gate_decompose.specs.declared.gates.Node.{Node}
use Rattle.gate_decompose.specs.GateNodes.{AndOf, AreGatesOf, Joint, Left, NamedNode, NodeName, NotOf, Operand, OrOf, Right, Turn, above_nodes, and_nodes, folded, inside_nodes, is_fixed, network_nodes, node_names, node_of, not_nodes, or_nodes, row_nodes, rows_nodes, standing, table_nodes}
use Rattle.gate_decompose.specs.GatesData.{GatesData}
use Rattle.gate_decompose.specs.GatesOrder.{is_operator}
use Rattle.gate_decompose.specs.Needed.{AreNeeded}
use Rattle.gate_decompose.specs.NeededPass.{is_gate, is_marked_gate, marked_pairs, signs_at, wanted_by_pass}
use Rattle.gate_decompose.specs.Sinks.{sink_signals}
use Rattle.gate_decompose.specs.Terms.{And, Constant, Not, Or, Signal, Term, items, row_term, rows_term}
use Rattle.gate_decompose.proofs.GatesOrder.{gates_are_ordered, network_gates_are_in_place}
use Rattle.gate_decompose.proofs.NeededLists.{marked_pairs_are_needed, needed_one}
use Rattle.gate_decompose.proofs.NetworkOrder.{networks_are_ordered}
use Rattle.dual_rail.specs.ForestData.{ForestData}
use Rattle.dual_rail.specs.ForestOrder.{IsForest}
use Rattle.dual_rail.specs.Forests.{IsForestOf, IsPairOf}
use Rattle.dual_rail.proofs.ForestOrders.{forests_are_in_place}

-- a balanced expression has fewer operators than items and their operators
module _ {T : Type 0} (op : T → T → T) (none : T) (f : T → ℕ) (joins : (l r : T) → f (op l r) ≡ f l + f r + 1) (nothing : f none ≡ 0) where
  abbrev total : List T → ℕ
  total xs = sum_by (λ x. f x + 1) xs

  each_one : (xs : List T) → length xs ≤ total xs
  each_one [] = omega arith
  each_one (x ∷ xs) = omega (arith, each_one xs, sum_by-cons (λ y. f y + 1) x xs)

  joined : (n k : ℕ) (xs : List T) → 1 ≤ k → k < length xs → ((ys : List T) → f (balanced_within n op none ys) ≤ total ys - 1)
      → f (op (balanced_within n op none (take k xs)) (balanced_within n op none (drop k xs))) ≤ total xs - 1
  joined n k xs some low few = omega (
    arith,
    joins (balanced_within n op none (take k xs)) (balanced_within n op none (drop k xs)),
    few (take k xs),
    few (drop k xs),
    sum_by-take-drop (λ y. f y + 1) xs k,
    each_one (take k xs),
    each_one (drop k xs),
    some,
    low,
    length-take-le k xs (omega (arith, low)),
    ap length (take-append-drop k xs),
    length-append (take k xs) (drop k xs),
  )

  balanced_few : (n : ℕ) (xs : List T) → f (balanced_within n op none xs) ≤ total xs - 1
  balanced_few zero xs = omega (arith, nothing)
  balanced_few (suc n) [] = omega (arith, nothing)
  balanced_few (suc n) (x ∷ []) = omega (arith, sum_by-cons (λ y. f y + 1) x [])
  balanced_few (suc n) (x ∷ y ∷ more) = joined n (first_half (length (x ∷ y ∷ more))) (x ∷ y ∷ more) (omega arith) (omega arith) (λ ys. balanced_few n ys)

-- the operators of a term but for Not
abbrev operators : Term → ℕ
operators (Constant b) = 0
operators (Signal signal) = 0
operators (Not t) = operators t
operators (And l r) = operators l + operators r + 1
operators (Or l r) = operators l + operators r + 1

items_few : (inputs : List ℕ) (row : List Letter) → sum_by (λ t. operators t + 1) (items inputs row) ≤ length inputs
items_few [] row = omega arith
items_few (s ∷ inputs) [] = omega arith
items_few (s ∷ inputs) (One ∷ row) = omega (arith, items_few inputs row, sum_by-cons (λ t. operators t + 1) (Signal s) (items inputs row))
items_few (s ∷ inputs) (Zero ∷ row) = omega (arith, items_few inputs row, sum_by-cons (λ t. operators t + 1) (Not (Signal s)) (items inputs row))
items_few (s ∷ inputs) (Any ∷ row) = omega (arith, items_few inputs row)

row_few : (inputs : List ℕ) (row : List Letter) → operators (row_term inputs row) + 1 ≤ length inputs + 1
row_few inputs row = omega (
  arith,
  balanced_few And (Constant true) operators (λ l r. refl) refl (length (items inputs row)) (items inputs row),
  items_few inputs row,
)

each_row : (inputs : List ℕ) (rows : List (List Letter)) → All (λ t. operators t + 1 ≤ length inputs + 1) (map (row_term inputs) rows)
each_row inputs [] = All-nil (λ t. operators t + 1 ≤ length inputs + 1)
each_row inputs (row ∷ rows) = All-cons (λ t. operators t + 1 ≤ length inputs + 1) (row_term inputs row) (map (row_term inputs) rows) (row_few inputs row) (each_row inputs rows)

product_below : (i r : ℕ) → r * (i + 1) ≤ (i + 1) * (r + 1)
product_below i r = omega arith

table_few : (t : NetTableData) → operators (rows_term t) ≤ letters (length t.inputs) t.rows
table_few t =
    let few = balanced_few Or (Constant false) operators (λ l r. refl) refl (length (map (row_term t.inputs) t.rows)) (map (row_term t.inputs) t.rows) in
    let sum = sum_by-le (λ x. operators x + 1) (length t.inputs + 1) (map (row_term t.inputs) t.rows) (each_row t.inputs t.rows) in
    let long : length (map (row_term t.inputs) t.rows) * (length t.inputs + 1) ≡ length t.rows * (length t.inputs + 1) =
    ap (λ n. n * (length t.inputs + 1)) (length-map t.rows (row_term t.inputs)) in
    omega (arith, few, sum, long, product_below (length t.inputs) (length t.rows))

-- how many of some nodes are operators but for Not
abbrev is_joint : Joint → Bool
is_joint (NotOf a) = false
is_joint (AndOf a b) = true
is_joint (OrOf a b) = true

abbrev tally : List NamedNode → ℕ
tally [] = 0
tally (x ∷ xs) = cond (is_joint x.joint) 1 0 + tally xs

tally-append : (xs ys : List NamedNode) → tally (xs ++ ys) ≡ tally xs + tally ys
tally-append [] ys = omega arith
tally-append (x ∷ xs) ys = omega (arith, tally-append xs ys)

standing_one : (fixed : Bool) (name : NodeName) (joint : Joint) → tally (standing fixed name joint) ≤ cond (is_joint joint) 1 0
standing_one true name joint = omega arith
standing_one false name joint = omega arith

module _ (of : ℕ → Operand) (table : ℕ) where
  abbrev named : List Turn → NodeName
  named way = record { table = table; way = way }

  abbrev part : List Turn → Term → Operand
  part way t = folded of table way t

  not_few : (way : List Turn) (t : Term) → tally (not_nodes of table way t) ≤ 0
  not_few way t = standing_one (is_fixed (part (Left ∷ way) t)) (named way) (NotOf (part (Left ∷ way) t))

  and_few : (way : List Turn) (l r : Term) → tally (and_nodes of table way l r) ≤ 1
  and_few way l r = by (is_fixed (part (Left ∷ way) l)) (is_fixed (part (Right ∷ way) r))
    where
      by : (a b : Bool) → tally (standing (a || b) (named way) (AndOf (part (Left ∷ way) l) (part (Right ∷ way) r))) ≤ 1
      by a b = standing_one (a || b) (named way) (AndOf (part (Left ∷ way) l) (part (Right ∷ way) r))

  or_few : (way : List Turn) (l r : Term) → tally (or_nodes of table way l r) ≤ 1
  or_few way l r = by (is_fixed (part (Left ∷ way) l)) (is_fixed (part (Right ∷ way) r))
    where
      by : (a b : Bool) → tally (standing (a || b) (named way) (OrOf (part (Left ∷ way) l) (part (Right ∷ way) r))) ≤ 1
      by a b = standing_one (a || b) (named way) (OrOf (part (Left ∷ way) l) (part (Right ∷ way) r))

  inside_row : (way : List Turn) (t : Term) → tally (row_nodes of table way t) ≤ operators t
  inside_row way (Constant b) = omega arith
  inside_row way (Signal s) = omega arith
  inside_row way (Not t) = omega (arith, inside_row (Left ∷ way) t, not_few way t, tally-append (row_nodes of table (Left ∷ way) t) (not_nodes of table way t))
  inside_row way (And l r) = omega (
    arith,
    inside_row (Left ∷ way) l,
    inside_row (Right ∷ way) r,
    and_few way l r,
    tally-append (row_nodes of table (Left ∷ way) l ++ row_nodes of table (Right ∷ way) r) (and_nodes of table way l r),
    tally-append (row_nodes of table (Left ∷ way) l) (row_nodes of table (Right ∷ way) r),
  )
  inside_row way (Or l r) = omega arith

  inside_rows : (way : List Turn) (t : Term) → tally (inside_nodes of table way t) + tally (above_nodes of table way t) ≤ operators t
  inside_rows way (Constant b) = omega arith
  inside_rows way (Signal s) = omega arith
  inside_rows way (Not t) = omega (arith, inside_row way (Not t))
  inside_rows way (And l r) = omega (arith, inside_row way (And l r))
  inside_rows way (Or l r) = omega (
    arith,
    inside_rows (Left ∷ way) l,
    inside_rows (Right ∷ way) r,
    or_few way l r,
    tally-append (inside_nodes of table (Left ∷ way) l) (inside_nodes of table (Right ∷ way) r),
    tally-append (above_nodes of table (Left ∷ way) l ++ above_nodes of table (Right ∷ way) r) (or_nodes of table way l r),
    tally-append (above_nodes of table (Left ∷ way) l) (above_nodes of table (Right ∷ way) r),
  )

  inside_both : (way : List Turn) (t : Term) → tally (rows_nodes of table way t) ≤ operators t
  inside_both way t = omega (arith, inside_rows way t, tally-append (inside_nodes of table way t) (above_nodes of table way t))

  inside_table : (t : NetTableData) → tally (table_nodes of table t) ≤ operators (rows_term t)
  inside_table t = by t.on
    where
      by : (b : Bool)
          → tally (cond b (rows_nodes of table [] (rows_term t)) (rows_nodes of table (Left ∷ []) (rows_term t) ++ not_nodes of table [] (rows_term t))) ≤ operators (rows_term t)
      by true = inside_both [] (rows_term t)
      by false = omega (
        arith,
        inside_both (Left ∷ []) (rows_term t),
        not_few [] (rows_term t),
        tally-append (rows_nodes of table (Left ∷ []) (rows_term t)) (not_nodes of table [] (rows_term t)),
      )

abbrev letters_of : NetTableData → ℕ
letters_of t = letters (length t.inputs) t.rows

tables_few : (of : ℕ → Operand) (k : ℕ) (ts : List NetTableData)
    → tally (flat_map (λ (p : ℕ × NetTableData). table_nodes of p.0 p.1) (enumerate_from k ts)) ≤ sum_by letters_of ts
tables_few of k [] = omega arith
tables_few of k (t ∷ ts) = omega (
  arith,
  tables_few of (k + 1) ts,
  inside_table of k t,
  table_few t,
  tally-append (table_nodes of k t) (flat_map (λ (p : ℕ × NetTableData). table_nodes of p.0 p.1) (enumerate_from (k + 1) ts)),
  sum_by-cons letters_of t ts,
)

abbrev one_if : Bool → ℕ
one_if b = cond b 1 0

count_tally : (names : List NodeName) (xs : List NamedNode) → count_by is_operator (map (λ (n : NamedNode). node_of names n.joint) xs) ≡ tally xs
count_tally names [] = refl
count_tally names (x ∷ xs) =
    sum_by-cons (λ (y : Node). cond (is_operator y) 1 0) (node_of names x.joint) (map (λ (n : NamedNode). node_of names n.joint) xs)
    ∙ ap₂ (λ a b. a + b) (one x.joint) (count_tally names xs)
  where
    one : (j : Joint) → one_if (is_operator (node_of names j)) ≡ one_if (is_joint j)
    one (NotOf a) = refl
    one (AndOf a b) = refl
    one (OrOf a b) = refl

operators_few : (network : NetworkData) (gates : GatesData) → IsNetwork network → AreGatesOf network gates → count_by is_operator gates.nodes ≤ 400000
operators_few network gates is are = omega (
  arith,
  ap (count_by is_operator) are.nodes_are,
  count_tally (node_names are.of network) (network_nodes are.of network),
  tables_few are.of 0 network.tables,
  is.few_letters,
)

-- needed pairs are no more than two for each operator
abbrev signed_pairs : ℕ → Bool → Bool → List (ℕ × Bool)
signed_pairs n p m = cond p ((n, true) ∷ []) [] ++ cond m ((n, false) ∷ []) []

signs_few : (n : ℕ) (p m o : Bool) → (p ≡ true → o ≡ true) → (m ≡ true → o ≡ true) → length (signed_pairs n p m) ≤ 2 * cond o 1 0
signs_few n true true true e f = omega arith
signs_few n true false true e f = omega arith
signs_few n false true true e f = omega arith
signs_few n false false true e f = omega arith
signs_few n true m false e f = absurd (let never : false ≡ true = e refl in cc)
signs_few n false true false e f = absurd (let never : false ≡ true = f refl in cc)
signs_few n false false false e f = omega arith

pairs_few : (test : ℕ → Bool → Bool) (a n : ℕ) (nodes : List Node) → n ≡ length nodes
    → ((i : ℕ) (s : Bool) → test (a + i) s ≡ true → is_gate (slice_get nodes i) ≡ true)
    → length (flat_map (signs_at test) (range_with_len a n)) ≤ 2 * count_by is_operator nodes
pairs_few test a zero nodes e gates = omega arith
pairs_few test a (suc n) [] e gates = absurd (omega (arith, e))
pairs_few test a (suc n) (x ∷ nodes) e gates =
    let rest = pairs_few test (a + 1) n nodes (omega (arith, e)) (λ i s is. gates (suc i) s (subst (λ k. test k s ≡ true) (next i) is)) in
    let own = signs_few a (test a true) (test a false) (is_operator x) (first true) (first false) in
    omega (
      arith,
      rest,
      own,
      length-append (signs_at test a) (flat_map (signs_at test) (range_with_len (a + 1) n)),
      sum_by-cons (λ (y : Node). cond (is_operator y) 1 0) x nodes,
    )
  where
    next : (i : ℕ) → a + 1 + i ≡ a + suc i
    next i = omega arith

    first : (s : Bool) → test a s ≡ true → is_operator x ≡ true
    first s is = gates 0 s (subst (λ k. test k s ≡ true) (sym (add-zero a)) is)

module _ (network : NetworkData) (is : IsNetwork network) (gates : GatesData) (are : AreGatesOf network gates) (signs : List Bool) (forest : ForestData)
    (of : IsForestOf gates signs forest) where
  needed_few : length forest.origin ≤ 2 * count_by is_operator gates.nodes
  needed_few =
      let order = gates_are_ordered gates (network_gates_are_in_place network gates (networks_are_ordered network is) are) in
      let marks = wanted_by_pass gates signs in
      let one : forest.origin ≡ marked_pairs gates.nodes (wanted_by_pass gates signs) =
      needed_one gates signs forest.origin (marked_pairs gates.nodes (wanted_by_pass gates signs)) of.origin_is
      (marked_pairs_are_needed gates signs (wanted_by_pass gates signs) order (λ n s. refl)) in
      let few = pairs_few (is_marked_gate gates.nodes (wanted_by_pass gates signs)) 0 (length gates.nodes) gates.nodes refl
      (λ i s marked. subst (λ k. is_gate (slice_get gates.nodes k) ≡ true) (zero-add i)
      (and_both (is_gate (slice_get gates.nodes (0 + i))) (wanted_by_pass gates signs (0 + i) s) marked).0) in
      omega (arith, ap length one, few)

  pub is_forest : IsForest forest
  is_forest =
      let place = network_gates_are_in_place network gates (networks_are_ordered network is) are in
      let sinks = ap length are.sinks_are ∙ length-map (sink_signals network) _
      ∙ length-append network.outputs (map (λ (l : NetLatch). l.input) network.latches)
      ∙ ap (λ n. length network.outputs + n) (length-map network.latches (λ (l : NetLatch). l.input)) in
      record {
        in_place = forests_are_in_place gates signs forest place of;
        few_leaves = omega (arith, of.leaves_are, are.leaves_are, is.count, is.few_signals);
        few_pairs = omega (
          arith,
          AllZip-long (IsPairOf gates.nodes forest.origin) forest.origin forest.pairs of.pairs_are,
          needed_few,
          operators_few network gates is are,
        );
        few_ends = omega (arith, of.ends_count, sinks, is.few_sinks);
      }
