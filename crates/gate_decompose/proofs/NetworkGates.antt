-- The gates of a network, table by table.
use Rattle.std.proofs.Common.{◌≡◌, inl, inr, refl, sym, ap, ap₂, subst, ◌∙◌, ℕ, ◌+◌, ◌≤◌, ◌<◌, false, List, [], ◌∷◌, ◌++◌, length, map, flat_map, take, drop, get_or, Some, slice_get, All, ◌*◌, count_by, arith, add-one, append-nil, length-append, zero-add, take-append-drop}
use Rattle.std.specs.List.{enumerate_from, sum_by}
use Rattle.std.proofs.Math.Seq.{get_or-append_seam, take-suc}
use Rattle.std.proofs.lemmas.Bool.{cases_lt}
use Rattle.std.proofs.lemmas.Grind.{flat_map-append}
use Rattle.std.proofs.lemmas.List.{get_or_append_left, length-map, map-append, take_all}
use Rattle.std.proofs.lemmas.List.Elements.{All-head, All-tail}
use Rattle.std.proofs.lemmas.List.FromFn.{get_or-enumerate_from, length-enumerate_from}
use Rattle.std.proofs.lemmas.Option.{slice_get-get_or}
use Rattle.network.specs.NetworkData.{NetTableData, NetworkData}
use Rattle.std.proofs.lemmas.List.Sums.{sum_by-take-le}
use Rattle.network.proofs.Lists.{get_map}
use Rattle.network.specs.Limits.{letters}
use Rattle.network.specs.Networks.{IsNetwork}
use Rattle.network.specs.declared.network.NetLatch.{NetLatch}
use Rattle.gate_decompose.specs.GatesOrder.{AreGates, is_operator}
use Rattle.gate_decompose.proofs.GatesOrder.{network_gates_are_in_place}
use Rattle.gate_decompose.specs.declared.gates.Node.{Node}
use Rattle.gate_decompose.specs.declared.gates.Ref.{Ref}
use Rattle.gate_decompose.specs.declared.gates.Ref.TheVariants.{Const, Leaf}
use Rattle.gate_decompose.specs.GateNodes.{AreGatesOf, NamedNode, NodeName, Operand, network_nodes, node_names, node_of, ref_of, table_nodes}
use Rattle.gate_decompose.specs.GatesData.{GatesData}
use Rattle.gate_decompose.specs.NetworkOrder.{IsOrderedNetwork}
use Rattle.gate_decompose.specs.RowItems.{AreRefs, ref_at, table_made}
use Rattle.gate_decompose.specs.Sinks.{leaf_count, sink_signals}
use Rattle.gate_decompose.specs.TermNodes.{AreNumbered, IsMade, Makes}
use Rattle.gate_decompose.proofs.JoinedItems.{numbered_back, numbered_front}
use Rattle.gate_decompose.proofs.NodeNames.{names_are_apart}
use Rattle.gate_decompose.proofs.Operands.{are_operands, operands_of}

module _ (network : NetworkData) (order : IsOrderedNetwork network) where
  abbrev of : ℕ → Operand
  of = operands_of network

  abbrev names : List NodeName
  names = node_names (operands_of network) network

  abbrev called : NamedNode → Node
  called n = node_of (node_names (operands_of network) network) n.joint

  abbrev nodes_at : ℕ × NetTableData → List NamedNode
  nodes_at p = table_nodes (operands_of network) p.0 p.1

  abbrev pairs : List (ℕ × NetTableData)
  pairs = enumerate_from 0 network.tables

  -- the nodes of the tables before this one
  abbrev nodes_before : ℕ → List NamedNode
  nodes_before i = flat_map nodes_at (take i pairs)

  all_numbered : AreNumbered names 0 (network_nodes of network)
  all_numbered = λ i x e. names_are_apart network of i x.name (get_map (λ (n : NamedNode). n.name) (network_nodes of network) i x e) ∙ sym (zero-add i)

  nodes_next : (i : ℕ) (t : NetTableData) → i < length network.tables → get_or network.tables i t ≡ t → nodes_before (i + 1) ≡ nodes_before i ++ nodes_at (i, t)
  nodes_next i t lt is =
      let within : i < length pairs = subst (λ n. i < n) (sym (length-enumerate_from 0 network.tables)) lt in
      let here : get_or pairs i (0, t) ≡ (i, t) = get_or-enumerate_from 0 network.tables i (0, t) lt ∙ ap₂ (λ (n : ℕ) (u : NetTableData). (n, u)) (zero-add i) is in
      let more : take (i + 1) pairs ≡ take i pairs ++ ((i, t) ∷ []) = rw (add-one) (take-suc pairs i (0, t) within) ∙ ap (λ (p : ℕ × NetTableData). take i pairs ++ (p ∷ [])) here in
      ap (flat_map nodes_at) more ∙ flat_map-append nodes_at (take i pairs) ((i, t) ∷ []) ∙ ap (λ xs. nodes_before i ++ xs) (append-nil (nodes_at (i, t)))

  table_numbered : (i : ℕ) (t : NetTableData) → i < length network.tables → get_or network.tables i t ≡ t → AreNumbered names (length (nodes_before i)) (nodes_at (i, t))
  table_numbered i t lt is =
      let rest : List NamedNode = flat_map nodes_at (drop (i + 1) pairs) in
      let whole : network_nodes of network ≡ (nodes_before i ++ nodes_at (i, t)) ++ rest =
      ap (flat_map nodes_at) (sym (take-append-drop (i + 1) pairs)) ∙ flat_map-append nodes_at (take (i + 1) pairs) (drop (i + 1) pairs) ∙ ap (λ xs. xs ++ rest) (nodes_next i t lt is) in
      let front = numbered_front names 0 (nodes_before i ++ nodes_at (i, t)) rest (subst (AreNumbered names 0) whole all_numbered) in
      subst (λ n. AreNumbered names n (nodes_at (i, t))) (zero-add (length (nodes_before i))) (numbered_back names 0 (nodes_before i) (nodes_at (i, t)) front)

  -- the leaves are called by their numbers
  pub leaves_known : (refs : List Ref) → (length refs ≡ leaf_count network) → ((s : ℕ) → s < leaf_count network → ref_at refs s ≡ Leaf s) → AreRefs names of refs
  leaves_known refs count leaves = λ s lt.
      let low : s < leaf_count network = subst (λ n. s < n) count lt in
      leaves s low ∙ ap (ref_of names) (sym ((are_operands network order).leaves s low))

  -- a table more
  pub table_next : (i : ℕ) (t : NetTableData) (refs : List Ref) (nodes nodes' : List Node) (part : Ref) → i < length network.tables → get_or network.tables i t ≡ t
      → length refs ≡ leaf_count network + i → AreRefs names of refs → nodes ≡ map called (nodes_before i) → Makes names nodes nodes' part (table_made of i t)
      → AreRefs names of (refs ++ (part ∷ [])) × (nodes' ≡ map called (nodes_before (i + 1)))
  table_next i t refs nodes nodes' part lt is count known are makes = (
    (λ s low. elim (cases_lt s (length refs)) [
      | inl before ↦ get_or_append_left refs (part ∷ []) (Const false) s before ∙ known s before
      | inr behind ↦ last s low behind
    ]),
    made.nodes ∙ ap (λ xs. xs ++ map called (nodes_at (i, t))) are ∙ sym (ap (map called) (nodes_next i t lt is) ∙ map-append called (nodes_before i) (nodes_at (i, t))),
  )
    where
      made : IsMade names nodes nodes' part (table_made of i t)
      made = makes (subst (λ n. AreNumbered names n (nodes_at (i, t))) (sym (ap length are ∙ length-map (nodes_before i) called)) (table_numbered i t lt is))

      at : slice_get network.tables i ≡ Some t
      at = slice_get-get_or network.tables i t lt ∙ ap Some is

      last : (s : ℕ) → s < length (refs ++ (part ∷ [])) → length refs ≤ s → ref_at (refs ++ (part ∷ [])) s ≡ ref_of names (of s)
      last s low behind =
          let long = length-append refs (part ∷ []) in
          let same : s ≡ length refs = omega arith in
          ap (ref_at (refs ++ (part ∷ []))) same ∙ get_or-append_seam refs part [] (Const false) ∙ made.comes_to
          ∙ ap (ref_of names) (sym ((are_operands network order).tables i t at)) ∙ ap (λ n. ref_of names (of n)) (sym (same ∙ count))

  sinks_called : (refs : List Ref) (signals : List ℕ) → AreRefs names of refs → All (λ s. s < length refs) signals → map (ref_at refs) signals ≡ map (λ s. ref_of names (of s)) signals
  sinks_called refs [] known low = refl
  sinks_called refs (s ∷ signals) known low =
      ap₂ (λ (r : Ref) rs. r ∷ rs) (known s (All-head (λ n. n < length refs) s signals low)) (sinks_called refs signals known (All-tail (λ n. n < length refs) s signals low))

  -- all tables
  pub are_gates : (i leaves : ℕ) (refs sinks : List Ref) (nodes : List Node) → leaves ≡ leaf_count network → length network.tables ≤ i → AreRefs names of refs
      → length refs ≡ leaf_count network + length network.tables → nodes ≡ map called (nodes_before i) → sinks ≡ map (ref_at refs) (sink_signals network)
      → AreGatesOf network (record { leaves = leaves; nodes = nodes; sinks = sinks })
  are_gates i leaves refs sinks nodes count done known long are ends = record {
    of = of;
    are_operands = are_operands network order;
    leaves_are = count;
    nodes_are = are ∙ ap (λ ps. map called (flat_map nodes_at ps)) (take_all i pairs (subst (λ n. n ≤ i) (sym (length-enumerate_from 0 network.tables)) done));
    sinks_are = ends ∙ sinks_called refs (sink_signals network) known (subst (λ n. All (λ s. s < n) (sink_signals network)) (sym long) order.sinks);
  }

-- within the limits of a network
pub gates_within : (network : NetworkData) (gates : GatesData) (i : ℕ) → IsNetwork network → IsOrderedNetwork network → AreGatesOf network gates
    → length gates.nodes ≤ 2 * sum_by (λ (t : NetTableData). letters (length t.inputs) t.rows) (take i network.tables)
    → count_by is_operator gates.nodes ≤ sum_by (λ (t : NetTableData). letters (length t.inputs) t.rows) (take i network.tables) → AreGates gates
gates_within network gates i is order are few operators =
    let some = sum_by-take-le (λ (t : NetTableData). letters (length t.inputs) t.rows) network.tables i in
    let ends = ap length are.sinks_are ∙ length-map (sink_signals network) (λ signal. ref_of (node_names are.of network) (are.of signal))
    ∙ length-append network.outputs (map (λ (l : NetLatch). l.input) network.latches) ∙ ap (λ n. length network.outputs + n) (length-map network.latches (λ (l : NetLatch). l.input)) in
    record {
      in_place = network_gates_are_in_place network gates order are;
      few_leaves = omega (arith, are.leaves_are, is.count, is.few_signals);
      few_nodes = omega (arith, few, some, is.few_letters);
      few_operators = omega (arith, operators, some, is.few_letters);
      few_sinks = omega (arith, ends, is.few_sinks);
    }
