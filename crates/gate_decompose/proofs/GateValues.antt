-- The gates of a network keep the values of its signals.
use Rattle.network.proofs.Lists.{get_map}
use Rattle.std.proofs.Common.{◌≡◌, ◌⊎◌, ◌↔◌, inl, inr, refl, sym, ap, ap₂, subst, ◌∙◌, ℕ, zero, suc, ◌+◌, ◌-◌, ◌≤◌, ◌<◌, Bool, true, false, not, cond, ◌&&◌, ◌||◌, List, [], ◌∷◌, ◌++◌, length, Some, slice_get, All, zero-add, arith}
use Rattle.std.specs.List.{enumerate_from, position_or_len}
use Rattle.std.proofs.lemmas.Bool.{cases_lt}
use Rattle.std.proofs.lemmas.Option.{slice_get_within, slice_get_cases, get_or_from_slice_get, same_Some}
use Rattle.gate_decompose.specs.declared.gates.Ref.{Ref}
use Rattle.gate_decompose.specs.GateNodes.{AreGatesOf, Operand, Fixed, Input, Made, Turn, Left, Right, NodeName, NamedNode, Joint, NotOf, AndOf, OrOf, above_nodes, and_nodes, folded, folded_and, folded_not, folded_or, inside_nodes, is_fixed, network_nodes, node_names, node_of, not_nodes, or_nodes, ref_of, row_nodes, rows_nodes, same_name, table_nodes}
use Rattle.gate_decompose.specs.GatesData.{GatesData}
use Rattle.network.specs.NetworkData.{NetTableData, NetworkData}
use Rattle.gate_decompose.specs.Sinks.{leaf_count, sink_signals}
use Rattle.gate_decompose.specs.NetworkOrder.{IsOrderedNetwork, SinksHaveValues}
use Rattle.gate_decompose.specs.Terms.{Term, Constant, Signal, Not, And, Or, rows_term, table_term, term_value}
use Rattle.gate_decompose.specs.Values.{AreNodeValues, AreSignalValues, node_value, ref_value}
use Rattle.gate_decompose.specs.Items.{Among}
use Rattle.gate_decompose.proofs.Among.{among_flat, among_left, among_place, among_right}
use Rattle.gate_decompose.proofs.NodeNames.{names_are_apart}
use Rattle.gate_decompose.proofs.TermShapes.{AreRows, NoOr, SignalsBelow, rows_are, table_signals}
use Rattle.dom_base.proofs.Bools.{and_false, and_true, or_false, or_true}
use Rattle.gate_decompose.proofs.TermValues.{terms_have_values}

module _ (network : NetworkData) (gates : GatesData) (is : AreGatesOf network gates) (value node : ℕ → Bool) (values : AreNodeValues gates value node) where
  -- the value of an operand
  bit : Operand → Bool
  bit a = ref_value value node (ref_of (node_names is.of network) a)

  joint_bit : Joint → Bool
  joint_bit (NotOf a) = not (bit a)
  joint_bit (AndOf a b) = bit a && bit b
  joint_bit (OrOf a b) = bit a || bit b

  made_bit : (x : NamedNode) → Among x (network_nodes is.of network) → bit (Made x.name) ≡ joint_bit x.joint
  unfolding bit joint_bit
  made_bit x at =
      let all = network_nodes is.of network in
      let f = among_place x all at in
      let found : position_or_len (same_name x.name) (node_names is.of network) ≡ f.0 =
      names_are_apart network is.of f.0 x.name (get_map (λ (n : NamedNode). n.name) all f.0 x f.1) in
      let there : slice_get gates.nodes f.0 ≡ Some (node_of (node_names is.of network) x.joint) =
      ap (λ ns. slice_get ns f.0) is.nodes_are ∙ get_map (λ (n : NamedNode). node_of (node_names is.of network) n.joint) all f.0 x f.1 in
      ap node found ∙ values f.0 (node_of (node_names is.of network) x.joint) there ∙ by x.joint
    where
      by : (j : Joint) → node_value value node (node_of (node_names is.of network) j) ≡ joint_bit j
      by (NotOf a) = refl
      by (AndOf a b) = refl
      by (OrOf a b) = refl

  -- each operator of a term that stands is a node
  AreThere : ℕ → List Turn → Term → Type 0
  AreThere k way (Constant b) = Unit {0}
  AreThere k way (Signal s) = Unit {0}
  AreThere k way (Not t) =
      AreThere k (Left ∷ way) t
      × (is_fixed (folded is.of k (Left ∷ way) t) ≡ false → Among (record { name = record { table = k; way = way }; joint = NotOf (folded is.of k (Left ∷ way) t) }) (network_nodes is.of network))
  AreThere k way (And l r) =
      AreThere k (Left ∷ way) l × AreThere k (Right ∷ way) r
      × ((is_fixed (folded is.of k (Left ∷ way) l) || is_fixed (folded is.of k (Right ∷ way) r)) ≡ false
      → Among (record { name = record { table = k; way = way }; joint = AndOf (folded is.of k (Left ∷ way) l) (folded is.of k (Right ∷ way) r) }) (network_nodes is.of network))
  AreThere k way (Or l r) =
      AreThere k (Left ∷ way) l × AreThere k (Right ∷ way) r
      × ((is_fixed (folded is.of k (Left ∷ way) l) || is_fixed (folded is.of k (Right ∷ way) r)) ≡ false
      → Among (record { name = record { table = k; way = way }; joint = OrOf (folded is.of k (Left ∷ way) l) (folded is.of k (Right ∷ way) r) }) (network_nodes is.of network))

  not_bit : (name : NodeName) (a : Operand) → (is_fixed a ≡ false → bit (Made name) ≡ not (bit a)) → bit (folded_not name a) ≡ not (bit a)
  unfolding bit
  not_bit name (Fixed b) h = refl
  not_bit name (Input n) h = h refl
  not_bit name (Made other) h = h refl

  and_bit : (name : NodeName) (a b : Operand) → ((is_fixed a || is_fixed b) ≡ false → bit (Made name) ≡ (bit a && bit b)) → bit (folded_and name a b) ≡ (bit a && bit b)
  unfolding bit
  and_bit name (Fixed false) b h = refl
  and_bit name (Fixed true) (Fixed false) h = refl
  and_bit name (Fixed true) (Fixed true) h = refl
  and_bit name (Fixed true) (Input n) h = refl
  and_bit name (Fixed true) (Made n) h = refl
  and_bit name (Input m) (Fixed false) h = sym (and_false (bit (Input m)))
  and_bit name (Input m) (Fixed true) h = sym (and_true (bit (Input m)))
  and_bit name (Input m) (Input n) h = h refl
  and_bit name (Input m) (Made n) h = h refl
  and_bit name (Made m) (Fixed false) h = sym (and_false (bit (Made m)))
  and_bit name (Made m) (Fixed true) h = sym (and_true (bit (Made m)))
  and_bit name (Made m) (Input n) h = h refl
  and_bit name (Made m) (Made n) h = h refl

  or_bit : (name : NodeName) (a b : Operand) → ((is_fixed a || is_fixed b) ≡ false → bit (Made name) ≡ (bit a || bit b)) → bit (folded_or name a b) ≡ (bit a || bit b)
  unfolding bit
  or_bit name (Fixed true) b h = refl
  or_bit name (Fixed false) (Fixed false) h = refl
  or_bit name (Fixed false) (Fixed true) h = refl
  or_bit name (Fixed false) (Input n) h = refl
  or_bit name (Fixed false) (Made n) h = refl
  or_bit name (Input m) (Fixed false) h = sym (or_false (bit (Input m)))
  or_bit name (Input m) (Fixed true) h = sym (or_true (bit (Input m)))
  or_bit name (Input m) (Input n) h = h refl
  or_bit name (Input m) (Made n) h = h refl
  or_bit name (Made m) (Fixed false) h = sym (or_false (bit (Made m)))
  or_bit name (Made m) (Fixed true) h = sym (or_true (bit (Made m)))
  or_bit name (Made m) (Input n) h = h refl
  or_bit name (Made m) (Made n) h = h refl

  -- a part of a term comes to an operand of its value
  part_bit : (k m : ℕ) (way : List Turn) (t : Term) → AreThere k way t → SignalsBelow m t → ((s : ℕ) → s < m → bit (is.of s) ≡ value s) → bit (folded is.of k way t) ≡ term_value value t
  unfolding AreThere bit joint_bit
  part_bit k m way (Constant b) there low has = refl
  part_bit k m way (Signal s) there low has = has s low
  part_bit k m way (Not t) there low has =
      let one = part_bit k m (Left ∷ way) t there.0 low has in
      not_bit (record { table = k; way = way }) (folded is.of k (Left ∷ way) t) (λ e. made_bit _ (there.1 e)) ∙ ap not one
  part_bit k m way (And l r) there low has =
      let one = part_bit k m (Left ∷ way) l there.0 low.0 has in
      let two = part_bit k m (Right ∷ way) r there.1 low.1 has in
      and_bit (record { table = k; way = way }) (folded is.of k (Left ∷ way) l) (folded is.of k (Right ∷ way) r) (λ e. made_bit _ (there.2 e)) ∙ ap₂ (λ a b. a && b) one two
  part_bit k m way (Or l r) there low has =
      let one = part_bit k m (Left ∷ way) l there.0 low.0 has in
      let two = part_bit k m (Right ∷ way) r there.1 low.1 has in
      or_bit (record { table = k; way = way }) (folded is.of k (Left ∷ way) l) (folded is.of k (Right ∷ way) r) (λ e. made_bit _ (there.2 e)) ∙ ap₂ (λ a b. a || b) one two

  -- what stands in the list of a row's nodes is there
  row_there : (k : ℕ) (way : List Turn) (t : Term) → NoOr t → ((x : NamedNode) → Among x (row_nodes is.of k way t) → Among x (network_nodes is.of network)) → AreThere k way t
  unfolding AreThere
  row_there k way (Constant b) h all = tt
  row_there k way (Signal s) h all = tt
  row_there k way (Or l r) h all = absurd h
  row_there k way (Not t) h all = (
    row_there k (Left ∷ way) t h (λ x at. all x (among_left x (row_nodes is.of k (Left ∷ way) t) (not_nodes is.of k way t) at)),
    λ e. all _ (among_right _ (row_nodes is.of k (Left ∷ way) t) (not_nodes is.of k way t) (rw e (inl refl))),
  )
  row_there k way (And l r) h all =
      let left = row_nodes is.of k (Left ∷ way) l in
      let right = row_nodes is.of k (Right ∷ way) r in
      let own = and_nodes is.of k way l r in (
        row_there k (Left ∷ way) l h.0 (λ x at. all x (among_left x (left ++ right) own (among_left x left right at))),
        row_there k (Right ∷ way) r h.1 (λ x at. all x (among_left x (left ++ right) own (among_right x left right at))),
        λ e. all _ (among_right _ (left ++ right) own (rw e (inl refl))),
      )

  rows_there : (k : ℕ) (way : List Turn) (t : Term) → AreRows t → ((x : NamedNode) → Among x (inside_nodes is.of k way t) → Among x (network_nodes is.of network))
      → ((x : NamedNode) → Among x (above_nodes is.of k way t) → Among x (network_nodes is.of network)) → AreThere k way t
  unfolding AreThere
  rows_there k way (Constant b) h inside above = tt
  rows_there k way (Signal s) h inside above = tt
  rows_there k way (Not t) h inside above = row_there k way (Not t) h inside
  rows_there k way (And l r) h inside above = row_there k way (And l r) h inside
  rows_there k way (Or l r) h inside above =
      let left = above_nodes is.of k (Left ∷ way) l in
      let right = above_nodes is.of k (Right ∷ way) r in
      let own = or_nodes is.of k way l r in
      let rows_l = inside_nodes is.of k (Left ∷ way) l in
      let rows_r = inside_nodes is.of k (Right ∷ way) r in (
        rows_there k (Left ∷ way) l h.0 (λ x at. inside x (among_left x rows_l rows_r at)) (λ x at. above x (among_left x (left ++ right) own (among_left x left right at))),
        rows_there k (Right ∷ way) r h.1 (λ x at. inside x (among_right x rows_l rows_r at)) (λ x at. above x (among_left x (left ++ right) own (among_right x left right at))),
        λ e. above _ (among_right _ (left ++ right) own (rw e (inl refl))),
      )

  table_there : (k m : ℕ) (t : NetTableData) → All (λ s. s < m) t.inputs → ((x : NamedNode) → Among x (table_nodes is.of k t) → Among x (network_nodes is.of network)) → AreThere k [] (table_term t)
  unfolding AreThere
  table_there k m t h all = by t.on all
    where
      rows : AreRows (rows_term t)
      rows = (rows_are m t h).0

      by : (on : Bool) → ((x : NamedNode) → Among x (cond on (rows_nodes is.of k [] (rows_term t)) (rows_nodes is.of k (Left ∷ []) (rows_term t) ++ not_nodes is.of k [] (rows_term t))) → Among x (network_nodes is.of network))
          → AreThere k [] (cond on (rows_term t) (Not (rows_term t)))
      by true each =
          rows_there k [] (rows_term t) rows (λ x at. each x (among_left x (inside_nodes is.of k [] (rows_term t)) (above_nodes is.of k [] (rows_term t)) at))
          (λ x at. each x (among_right x (inside_nodes is.of k [] (rows_term t)) (above_nodes is.of k [] (rows_term t)) at))
      by false each =
          let inside = inside_nodes is.of k (Left ∷ []) (rows_term t) in
          let above = above_nodes is.of k (Left ∷ []) (rows_term t) in
          let own = not_nodes is.of k [] (rows_term t) in (
            rows_there k (Left ∷ []) (rows_term t) rows (λ x at. each x (among_left x (inside ++ above) own (among_left x inside above at)))
                (λ x at. each x (among_left x (inside ++ above) own (among_right x inside above at))),
            λ e. each _ (among_right _ (inside ++ above) own (rw e (inl refl))),
          )

  among_enumerated : {X : Type 0} (a k : ℕ) (xs : List X) (x : X) → slice_get xs k ≡ Some x → Among (a + k, x) (enumerate_from a xs)
  among_enumerated a k [] x e = absurd (cc)
  among_enumerated a zero (y ∷ xs) x e = let here : a ≡ a + 0 = omega arith in inl (λ i. (here i, same_Some y x e i))
  among_enumerated a (suc k) (y ∷ xs) x e =
      let same : a + 1 + k ≡ a + suc k = omega arith in
      inr (subst (λ n. Among (n, x) (enumerate_from (a + 1) xs)) same (among_enumerated (a + 1) k xs x e))

  same_bits : (a b : Bool) (P : Type 0) → (a ≡ true) ↔ P → (b ≡ true) ↔ P → a ≡ b
  same_bits true true P f g = refl
  same_bits true false P f g = absurd (let e = g.1 (f.0 refl) in cc)
  same_bits false true P f g = absurd (let e = f.1 (g.0 refl) in cc)
  same_bits false false P f g = refl

  input_bit : (n : ℕ) → bit (Input n) ≡ value n
  unfolding bit
  input_bit n = refl

  -- each signal of the network comes to an operand of its value
  signal_bit : IsOrderedNetwork network → AreSignalValues network value → (room s : ℕ) → s < room → s < leaf_count network + length network.tables → bit (is.of s) ≡ value s
  signal_bit order valuation zero s low high = absurd (omega arith)
  signal_bit order valuation (suc room) s low high = by (cases_lt s (leaf_count network)) (λ q lt lt'. signal_bit order valuation room q lt lt')
    where
      by : (s < leaf_count network) ⊎ (leaf_count network ≤ s) → ((q : ℕ) → q < room → q < leaf_count network + length network.tables → bit (is.of q) ≡ value q) → bit (is.of s) ≡ value s
      by (inl leaf) earlier = ap bit (is.are_operands.leaves s leaf) ∙ input_bit s
      by (inr le) earlier =
          let k = s - leaf_count network in
          let here : leaf_count network + k ≡ s = omega arith in
          elim (slice_get_cases network.tables k).1 [
            | inl found ↦ at_table k found.0 found.2 here earlier
            | inr past ↦ absurd (omega (arith, past.0))
          ]
        where
          at_table : (k : ℕ) (t : NetTableData) → slice_get network.tables k ≡ Some t → leaf_count network + k ≡ s
              → ((q : ℕ) → q < room → q < leaf_count network + length network.tables → bit (is.of q) ≡ value q) → bit (is.of s) ≡ value s
          at_table k t e here earlier =
              let m = leaf_count network + k in
              let reads = order.reads k t e in
              let in_range = slice_get_within network.tables k t e in
              let there = table_there k m t reads (λ x at. among_flat (λ (p : ℕ × NetTableData). table_nodes is.of p.0 p.1) (k, t) x (enumerate_from 0 network.tables) (subst (λ n. Among (n, t) (enumerate_from 0 network.tables)) (zero-add k) (among_enumerated 0 k network.tables t e)) at) in
              let term = part_bit k m [] (table_term t) there (table_signals m t reads) (λ q lt. earlier q (omega (arith, lt, here)) (omega (arith, lt, in_range))) in
              let same = same_bits (term_value value (table_term t)) (value m) _ (terms_have_values t value (order.fits k t e)) (valuation k t e) in
              subst (λ n. bit (is.of n) ≡ value n) here (ap bit (is.are_operands.tables k t e) ∙ term ∙ same)

pub sinks_have_values : SinksHaveValues
unfolding bit
sinks_have_values = λ network gates value node order is valuation values k r signal e f.
    let names = node_names is.of network in
    let same : r ≡ ref_of names (is.of signal) =
    same_Some r (ref_of names (is.of signal)) (sym e ∙ ap (λ (rs : List Ref). slice_get rs k) is.sinks_are ∙ get_map (λ s. ref_of names (is.of s)) (sink_signals network) k signal f) in
    let lt = slice_get_within (sink_signals network) k signal f in
    let low = subst (λ s. s < leaf_count network + length network.tables) (get_or_from_slice_get (sink_signals network) k signal 0 f) (order.sinks k 0 lt) in
    ap (ref_value value node) same ∙ signal_bit network gates is value node values order valuation (suc signal) signal (omega arith) low
