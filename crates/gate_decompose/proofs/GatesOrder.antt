-- The gates of a network read only what is there, and nodes that stand before.
use Rattle.network.proofs.Lists.{get_map, get_of_map}
use Rattle.std.proofs.Common.{◌≡◌, ◌⊎◌, inl, inr, sym, ap, subst, ◌∙◌, ℕ, ◌+◌, ◌<◌, ◌≤◌, List, [], length, Some, slice_get, All, arith, zero-add}
use Rattle.std.specs.List.{position_or_len}
use Rattle.std.proofs.lemmas.List.{length-map}
use Rattle.std.proofs.lemmas.Option.{slice_get_within, get_or_from_slice_get}
use Rattle.network.specs.NetworkData.{NetworkData}
use Rattle.gate_decompose.specs.GateNodes.{AndOf, AreGatesOf, Fixed, Input, Joint, Made, NamedNode, NodeName, NotOf, Operand, OrOf, folded, network_nodes, node_names, node_of, ref_of, same_name}
use Rattle.gate_decompose.specs.GatesData.{GatesData}
use Rattle.gate_decompose.specs.NetworkOrder.{IsOrderedNetwork}
use Rattle.gate_decompose.specs.Sinks.{leaf_count, sink_signals}
use Rattle.gate_decompose.specs.Terms.{table_term}
use Rattle.gate_decompose.proofs.NodeNames.{names_are_apart}
use Rattle.gate_decompose.proofs.NodeOrders.{AreIn, Before, Has, IsIn, IsRead, Ordered, has-place, ordered-at, tables_in}
use Rattle.gate_decompose.specs.declared.gates.Node.{Node}
use Rattle.gate_decompose.specs.declared.gates.Node.TheVariants.{And, Or, Not}
use Rattle.gate_decompose.specs.declared.gates.Ref.{Ref}
use Rattle.gate_decompose.specs.declared.gates.Ref.TheVariants.{Const, Leaf, Node as node_ref}
use Rattle.gate_decompose.specs.GatesOrder.{GatesAreOrdered, NetworkGatesAreInPlace, HasParts, IsTermPart, IsThere, NodeReadsEarlier, ReadsEarlier}

-- parts that are there before a node are there before each number that is no lower
pub parts_there : (leaves n m : ℕ) (x : Node) → HasParts leaves n x → n ≤ m → NodeReadsEarlier m x
parts_there leaves n m x h le = by x h
  where
    part : (r : Ref) → IsTermPart leaves n r → ReadsEarlier m r
    part (Const b) h = tt
    part (Leaf k) h = tt
    part (node_ref k) h = omega arith

    by : (x : Node) → HasParts leaves n x → NodeReadsEarlier m x
    by (Not a) h = part a h
    by (And a b) h = (part a h.0, part b h.1)
    by (Or a b) h = (part a h.0, part b h.1)

-- a sink that is there is before the number of all nodes
pub sink_there : (leaves nodes : ℕ) (r : Ref) → IsThere leaves nodes r → ReadsEarlier nodes r
sink_there leaves nodes (Const b) h = tt
sink_there leaves nodes (Leaf k) h = tt
sink_there leaves nodes (node_ref n) h = h

pub gates_are_ordered : GatesAreOrdered
gates_are_ordered = λ gates is. record {
  nodes = λ n x e. parts_there gates.leaves n n x (is.nodes n x e) (omega arith);
  sinks = λ k r e. sink_there gates.leaves _ r (is.sinks k r e);
}

module _ (network : NetworkData) (gates : GatesData) (is : AreGatesOf network gates) (order : IsOrderedNetwork network) where
  abbrev nodes : List NamedNode
  nodes = network_nodes is.of network

  abbrev names : List NodeName
  names = node_names is.of network

  abbrev None : NodeName → Type 0
  None m = ⊥

  known : (s : ℕ) → s < leaf_count network + 0 → IsIn (leaf_count network) None (is.of s)
  known s lt = by (is.of s) (is.are_operands.leaves s (omega (arith, lt)))
    where
      by : (a : Operand) → a ≡ Input s → IsIn (leaf_count network) None a
      by a e = subst (IsIn (leaf_count network) None) (sym e) (omega (arith, lt))

  abbrev All_in : Type 0
  All_in = Ordered (leaf_count network) None nodes
      × ((s : ℕ) → s < leaf_count network + (0 + length network.tables) → IsIn (leaf_count network) (λ m. None m ⊎ Has m nodes) (is.of s))

  all_in : All_in
  all_in =
      tables_in (leaf_count network) is.of None 0 network.tables
      (λ i t e. subst (λ n. All (λ s. s < leaf_count network + n) t.inputs) (sym (zero-add i)) (order.reads i t e))
      (λ i t e. subst (λ n. is.of (leaf_count network + n) ≡ folded is.of n [] (table_term t)) (sym (zero-add i)) (is.are_operands.tables i t e))
      known

  -- a name at a place is found there
  found : (i : ℕ) (x : NamedNode) (m : NodeName) → slice_get nodes i ≡ Some x → x.name ≡ m → position_or_len (same_name m) names ≡ i
  found i x m e same = names_are_apart network is.of i m (get_map (λ (n : NamedNode). n.name) nodes i x e ∙ ap Some same)

  ref_part : (n : ℕ) (a : Operand) → IsRead (leaf_count network) (λ m. None m ⊎ Before (leaf_count network) nodes n m) a → IsTermPart (leaf_count network) n (ref_of names a)
  ref_part n (Fixed b) h = h
  ref_part n (Input k) h = h
  ref_part n (Made name) (inl h) = absurd h
  ref_part n (Made name) (inr (i, lt, (x, e, same))) = omega (arith, lt, found i x name e same)

  joint_parts : (n : ℕ) (j : Joint) → AreIn (leaf_count network) (λ m. None m ⊎ Before (leaf_count network) nodes n m) j → HasParts (leaf_count network) n (node_of names j)
  joint_parts n (NotOf a) h = ref_part n a h
  joint_parts n (AndOf a b) h = (ref_part n a h.0, ref_part n b h.1)
  joint_parts n (OrOf a b) h = (ref_part n a h.0, ref_part n b h.1)

  node_at : (n : ℕ) (y : Node) → slice_get gates.nodes n ≡ Some y → HasParts (leaf_count network) n y
  node_at n y e =
      let m = get_of_map (λ (x : NamedNode). node_of names x.joint) nodes n y (ap (λ l. slice_get l n) (sym is.nodes_are) ∙ e) in
      subst (HasParts (leaf_count network) n) m.2 (joint_parts n (m.0).joint (ordered-at (leaf_count network) None nodes n m.0 all_in.0 m.1))

  count : length gates.nodes ≡ length nodes
  count = ap (λ (l : List Node). length l) is.nodes_are ∙ length-map nodes (λ (x : NamedNode). node_of names x.joint)

  sink_at : (k : ℕ) (r : Ref) → slice_get gates.sinks k ≡ Some r → IsThere (leaf_count network) (length gates.nodes) r
  sink_at k r e =
      let m = get_of_map (λ signal. ref_of names (is.of signal)) (sink_signals network) k r (ap (λ l. slice_get l k) (sym is.sinks_are) ∙ e) in
      let lt = slice_get_within (sink_signals network) k m.0 m.1 in
      let low = subst (λ s. s < leaf_count network + length network.tables) (get_or_from_slice_get (sink_signals network) k m.0 0 m.1) (order.sinks k 0 lt) in
      subst (IsThere (leaf_count network) (length gates.nodes)) m.2 (of_operand (is.of m.0) (all_in.1 m.0 (omega (arith, low))))
    where
      of_operand : (a : Operand) → IsIn (leaf_count network) (λ m. None m ⊎ Has m nodes) a → IsThere (leaf_count network) (length gates.nodes) (ref_of names a)
      of_operand (Fixed b) h = tt
      of_operand (Input k) h = h
      of_operand (Made name) (inl h) = absurd h
      of_operand (Made name) (inr h) =
          let p = has-place name nodes h in
          let lt = slice_get_within nodes p.0 (p.1).0 (p.1).1 in
          omega (arith, lt, count, found p.0 (p.1).0 name (p.1).1 (p.1).2)

pub network_gates_are_in_place : NetworkGatesAreInPlace
network_gates_are_in_place = λ network gates order is. record {
  nodes = λ n x e. subst (λ leaves. HasParts leaves n x) (sym is.leaves_are) (node_at network gates is order n x e);
  sinks = λ k r e. subst (λ leaves. IsThere leaves (length gates.nodes) r) (sym is.leaves_are) (sink_at network gates is order k r e);
}
