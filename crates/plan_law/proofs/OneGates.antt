-- A network has one list of gates.
use Rattle.std.proofs.Common.{◌≡◌, ◌⊎◌, inl, inr, refl, sym, ap, ap₂, subst, ◌∙◌, ℕ, zero, suc, ◌+◌, ◌-◌, ◌≤◌, ◌<◌, Bool, true, false, cond, ◌||◌, List, [], ◌∷◌, ◌++◌, length, map, flat_map, Some, slice_get, arith}
use Rattle.std.specs.Prelude.{All}
use Rattle.std.specs.List.{AllByRecursion, enumerate_from}
use Rattle.std.proofs.lemmas.Bool.{cases_lt}
use Rattle.std.proofs.lemmas.Option.{slice_get_cases, slice_get_within}
use Rattle.gate_decompose.specs.GateNodes.{AndOf, AreGatesOf, AreOperands, Left, NamedNode, NodeName, NotOf, Operand, OrOf, Right, Turn, above_nodes, and_nodes, folded, inside_nodes, is_fixed, network_nodes, node_of, not_nodes, or_nodes, ref_of, row_nodes, rows_nodes, standing, table_nodes}
use Rattle.gate_decompose.specs.GatesData.{GatesData}
use Rattle.gate_decompose.specs.NetworkOrder.{IsOrderedNetwork}
use Rattle.gate_decompose.specs.Sinks.{leaf_count, sink_signals}
use Rattle.gate_decompose.specs.Terms.{And, Constant, Not, Or, Signal, Term, rows_term, table_term}
use Rattle.gate_decompose.proofs.Operands.{folded_same}
use Rattle.gate_decompose.proofs.TermShapes.{SignalsBelow, rows_are, table_signals}
use Rattle.network.specs.NetworkData.{NetTableData, NetworkData}
use Rattle.network.proofs.Lists.{map_same}

-- a term whose signals come to the same has the same nodes
module _ (of other : ℕ → Operand) (table m : ℕ) (same : (s : ℕ) → s < m → of s ≡ other s) where
  part_same : (way : List Turn) (t : Term) → SignalsBelow m t → folded of table way t ≡ folded other table way t
  part_same way t below = folded_same of other m table way t below same

  not_same : (way : List Turn) (t : Term) → SignalsBelow m t → not_nodes of table way t ≡ not_nodes other table way t
  not_same way t below = ap (λ a. standing (is_fixed a) (record { table = table; way = way }) (NotOf a)) (part_same (Left ∷ way) t below)

  and_same : (way : List Turn) (l r : Term) → SignalsBelow m l → SignalsBelow m r → and_nodes of table way l r ≡ and_nodes other table way l r
  and_same way l r low high =
      ap₂ (λ a b. standing (is_fixed a || is_fixed b) (record { table = table; way = way }) (AndOf a b)) (part_same (Left ∷ way) l low) (part_same (Right ∷ way) r high)

  or_same : (way : List Turn) (l r : Term) → SignalsBelow m l → SignalsBelow m r → or_nodes of table way l r ≡ or_nodes other table way l r
  or_same way l r low high =
      ap₂ (λ a b. standing (is_fixed a || is_fixed b) (record { table = table; way = way }) (OrOf a b)) (part_same (Left ∷ way) l low) (part_same (Right ∷ way) r high)

  row_same : (way : List Turn) (t : Term) → SignalsBelow m t → row_nodes of table way t ≡ row_nodes other table way t
  row_same way (Constant b) below = refl
  row_same way (Signal s) below = refl
  row_same way (Or l r) below = refl
  row_same way (Not t) below = ap₂ (λ xs ys. xs ++ ys) (row_same (Left ∷ way) t below) (not_same way t below)
  row_same way (And l r) below =
      ap₂ (λ xs ys. xs ++ ys) (ap₂ (λ xs ys. xs ++ ys) (row_same (Left ∷ way) l below.0) (row_same (Right ∷ way) r below.1)) (and_same way l r below.0 below.1)

  inside_same : (way : List Turn) (t : Term) → SignalsBelow m t → inside_nodes of table way t ≡ inside_nodes other table way t
  inside_same way (Constant b) below = refl
  inside_same way (Signal s) below = refl
  inside_same way (Not t) below = row_same way (Not t) below
  inside_same way (And l r) below = row_same way (And l r) below
  inside_same way (Or l r) below = ap₂ (λ xs ys. xs ++ ys) (inside_same (Left ∷ way) l below.0) (inside_same (Right ∷ way) r below.1)

  above_same : (way : List Turn) (t : Term) → SignalsBelow m t → above_nodes of table way t ≡ above_nodes other table way t
  above_same way (Constant b) below = refl
  above_same way (Signal s) below = refl
  above_same way (Not t) below = refl
  above_same way (And l r) below = refl
  above_same way (Or l r) below =
      ap₂ (λ xs ys. xs ++ ys) (ap₂ (λ xs ys. xs ++ ys) (above_same (Left ∷ way) l below.0) (above_same (Right ∷ way) r below.1)) (or_same way l r below.0 below.1)

  rows_same : (way : List Turn) (t : Term) → SignalsBelow m t → rows_nodes of table way t ≡ rows_nodes other table way t
  rows_same way t below = ap₂ (λ xs ys. xs ++ ys) (inside_same way t below) (above_same way t below)

  table_same : (t : NetTableData) → All (λ s. s < m) t.inputs → table_nodes of table t ≡ table_nodes other table t
  table_same t inputs = by t.on
    where
      by : (on : Bool)
          → cond on (rows_nodes of table [] (rows_term t)) (rows_nodes of table (Left ∷ []) (rows_term t) ++ not_nodes of table [] (rows_term t))
          ≡ cond on (rows_nodes other table [] (rows_term t)) (rows_nodes other table (Left ∷ []) (rows_term t) ++ not_nodes other table [] (rows_term t))
      by true = rows_same [] (rows_term t) (rows_are m t inputs).1
      by false = ap₂ (λ xs ys. xs ++ ys) (rows_same (Left ∷ []) (rows_term t) (rows_are m t inputs).1) (not_same [] (rows_term t) (rows_are m t inputs).1)

-- and so have the tables of a network
tables_same : (of other : ℕ → Operand) (m : ℕ) → ((s : ℕ) → s < m → of s ≡ other s) → (k : ℕ) (ts : List NetTableData)
    → ((i : ℕ) (t : NetTableData) → slice_get ts i ≡ Some t → All (λ s. s < m) t.inputs)
    → flat_map (λ (p : ℕ × NetTableData). table_nodes of p.0 p.1) (enumerate_from k ts)
    ≡ flat_map (λ (p : ℕ × NetTableData). table_nodes other p.0 p.1) (enumerate_from k ts)
tables_same of other m same k [] inputs = refl
tables_same of other m same k (t ∷ ts) inputs =
    ap₂ (λ xs ys. xs ++ ys) (table_same of other k m same t (inputs 0 t refl))
    (tables_same of other m same (k + 1) ts (λ i u e. inputs (suc i) u e))

module _ (network : NetworkData) (order : IsOrderedNetwork network) where
  abbrev signals : ℕ
  signals = leaf_count network + length network.tables

  -- signals come to one operand each
  operands_one : (of other : ℕ → Operand) → AreOperands network of → AreOperands network other
      → (room s : ℕ) → s < room → s < signals → of s ≡ other s
  operands_one of other is are zero s low high = absurd (omega arith)
  operands_one of other is are (suc room) s low high = by (cases_lt s (leaf_count network)) (λ q lt top. operands_one of other is are room q lt top)
    where
      at_table : (k : ℕ) (t : NetTableData) → slice_get network.tables k ≡ Some t → leaf_count network + k ≡ s
          → ((q : ℕ) → q < room → q < signals → of q ≡ other q) → of s ≡ other s
      at_table k t e here earlier =
          let m = leaf_count network + k in
          let in_range = slice_get_within network.tables k t e in
          subst (λ n. of n ≡ other n) here
          (is.tables k t e
          ∙ folded_same of other m k [] (table_term t) (table_signals m t (order.reads k t e)) (λ q lt. earlier q (omega (arith, lt, here)) (omega (arith, lt, in_range)))
          ∙ sym (are.tables k t e))

      by : (s < leaf_count network) ⊎ (leaf_count network ≤ s) → ((q : ℕ) → q < room → q < signals → of q ≡ other q) → of s ≡ other s
      by (inl leaf) earlier = is.leaves s leaf ∙ sym (are.leaves s leaf)
      by (inr le) earlier =
          let k = s - leaf_count network in
          let here : leaf_count network + k ≡ s = omega arith in
          elim (slice_get_cases network.tables k).1 [
            | inl found ↦ at_table k found.0 found.2 here earlier
            | inr past ↦ absurd (omega (arith, past.0))
          ]

  pub gates_one : (a b : GatesData) → AreGatesOf network a → AreGatesOf network b → a ≡ b
  gates_one a b is are =
      let same : (s : ℕ) → s < signals → is.of s ≡ are.of s = λ s lt. operands_one is.of are.of is.are_operands are.are_operands (suc s) s (omega arith) lt in
      let nodes : network_nodes is.of network ≡ network_nodes are.of network =
      tables_same is.of are.of signals same 0 network.tables
      (λ i t e k d lt. let within = slice_get_within network.tables i t e in let low = order.reads i t e k d lt in omega (arith, within, low)) in
      let refs : (names : List NodeName) → map (λ s. ref_of names (is.of s)) (sink_signals network) ≡ map (λ s. ref_of names (are.of s)) (sink_signals network) =
      λ names. map_same (λ s. ref_of names (is.of s)) (λ s. ref_of names (are.of s)) (sink_signals network)
      (each (sink_signals network) order.sinks (λ s. ref_of names (is.of s)) (λ s. ref_of names (are.of s)) (λ s lt. ap (ref_of names) (same s lt))) in
      let leaves = is.leaves_are ∙ sym are.leaves_are in
      let all = is.nodes_are ∙ ap (λ (ns : List NamedNode). map (λ (n : NamedNode). node_of (map (λ (x : NamedNode). x.name) ns) n.joint) ns) nodes ∙ sym are.nodes_are in
      let ends = is.sinks_are ∙ refs (map (λ (x : NamedNode). x.name) (network_nodes is.of network))
      ∙ ap (λ (ns : List NamedNode). map (λ s. ref_of (map (λ (x : NamedNode). x.name) ns) (are.of s)) (sink_signals network)) nodes ∙ sym are.sinks_are in
      λ i. record { leaves = leaves i; nodes = all i; sinks = ends i }
    where
      each : {X : Type 0} (xs : List ℕ) → All (λ s. s < signals) xs → (f g : ℕ → X) → ((s : ℕ) → s < signals → f s ≡ g s) → AllByRecursion (λ s. f s ≡ g s) xs
      each [] low f g h = tt
      each (x ∷ xs) low f g h = (h x (low 0 x (omega arith)), each xs (λ k d lt. low (suc k) d (omega arith)) f g h)
