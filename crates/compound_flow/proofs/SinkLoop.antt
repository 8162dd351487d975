-- Static gates of sinks that are appended one by one.
use Rattle.std.proofs.Common.{◌≡◌, ℕ, zero, suc, ◌+◌, ◌*◌, ◌≤◌, ◌<◌, true, false, List, [], ◌∷◌, ◌++◌, ◌∙◌, None, Option, Some, add-one, ap, append-nil, append_assoc, arith, inl, inr, length, length-append, length-take, nat_eq, refl, slice_get, subst, sym, take}
use Rattle.std.specs.Prelude.{◌≢◌, codes}
use Rattle.std.specs.List.{AllByRecursion, IsDistinct}
use Rattle.std.specs.Cmp.Lexicographic.{bytes_decides, pointwise}
use Rattle.std.proofs.lemmas.List.Elements.{recursion_from_All}
use Rattle.dom_base.specs.declared.kind.Kind.TheVariants.{N as nch, P as pch}
use Rattle.dom_base.proofs.Lists.{All-at, AllByRecursion-append}
use Rattle.deck.specs.CircuitData.{CircuitData}
use Rattle.deck.specs.NamedDevices.{NamedDevice, with_devices}
use Rattle.deck.specs.Nets.{net_number}
use Rattle.deck.specs.Sources.{is_source}
use Rattle.sp_network.specs.Tree.{Tree, dual, leaves}
use Rattle.domino_cell.specs.NamedTrees.{inner_net}
use Rattle.domino_cell.specs.PushedNames.{HasRoomForGate, IsPort, IsUndriven, lower_front, static_gate, upper_front}
use Rattle.domino_cell.specs.Spelling.{spell}
use Rattle.domino_cell.proofs.AppendedNets.{port_below, port_is_source}
use Rattle.domino_cell.proofs.CellCircuits.{count_with}
use Rattle.domino_cell.proofs.PushedTrees.{leaves-dual}
use Rattle.domino_cell.proofs.Spellings.{length-spell}
use Rattle.latch_bind.proofs.LatchParts.{two_parts}
use Rattle.compound_plan.specs.Plans.{CellTrees, Compound, Simple}
use Rattle.compound_cell.proofs.UndrivenNets.{stays_undriven}
use Rattle.deck_form.specs.DeckNets.{Fixed, OfDynamic, OfLeaf, OfOutput, SinkEnd}
use Rattle.synth_flow.specs.MadeDecks.{EndsApart}
use Rattle.synth_flow.proofs.DeckRooms.{HasEnds, tree_ends}
use Rattle.compound_law.specs.PushedDecks.{cell_names, sink_tree}
use Rattle.compound_flow.specs.MadeSinks.{HasRoomForSinks, IsGateNet, IsSinkName, sink_gates}
use Rattle.compound_flow.proofs.SinkNets.{same_net}

-- a static gate of a sink has at most two leaves
few_names : (k : ℕ) (cell : Option (CellTrees × ℕ)) → leaves (cell_names k cell) ≤ 2
few_names k None = omega arith
few_names k (Some (Simple t, clock)) = omega arith
few_names k (Some (Compound l r, clock)) = omega arith

few_leaves : (pins : List (List ℕ)) (cells : List (CellTrees × ℕ)) (e : SinkEnd) → leaves (sink_tree pins cells e) ≤ 2
few_leaves pins cells (OfDynamic k) = few_names k (slice_get cells k)
few_leaves pins cells (Fixed b) = omega arith
few_leaves pins cells (OfLeaf leaf plus) = omega arith
few_leaves pins cells (OfOutput k) = omega arith

gate_length : (out : List ℕ) (t : Tree (List ℕ)) → length (static_gate out t) ≡ 2 * leaves t
gate_length out t =
    let upper = spell pch (inner_net (upper_front out)) (dual t) out (codes "vdd") 0 in
    let lower = spell nch (inner_net (lower_front out)) t out (codes "vss") 0 in
    omega (
      arith,
      length-append upper lower,
      length-spell pch (inner_net (upper_front out)) (dual t) out (codes "vdd") 0,
      length-spell nch (inner_net (lower_front out)) t out (codes "vss") 0,
      leaves-dual t,
    )

-- so many sinks have at most four devices each
pub few_gates : (pins : List (List ℕ)) (cells : List (CellTrees × ℕ)) (nets : List (List ℕ)) (ends : List SinkEnd) → length (sink_gates pins cells nets ends) ≤ 4 * length nets
few_gates pins cells [] ends = omega arith
few_gates pins cells (x ∷ nets) [] = omega arith
few_gates pins cells (x ∷ nets) (e ∷ ends) =
    omega (
      arith,
      length-append (static_gate x (sink_tree pins cells e)) (sink_gates pins cells nets ends),
      gate_length x (sink_tree pins cells e),
      few_leaves pins cells e,
      few_gates pins cells nets ends,
    )

-- one more sink
gates_more : (pins : List (List ℕ)) (cells : List (CellTrees × ℕ)) (nets : List (List ℕ)) (ends : List SinkEnd) (k : ℕ) (net : List ℕ) (e : SinkEnd)
    → slice_get nets k ≡ Some net → slice_get ends k ≡ Some e
    → sink_gates pins cells (take (suc k) nets) (take (suc k) ends) ≡ sink_gates pins cells (take k nets) (take k ends) ++ static_gate net (sink_tree pins cells e)
gates_more pins cells [] ends k net e n o = absurd (cc)
gates_more pins cells (x ∷ nets) [] k net e n o = absurd (cc)
gates_more pins cells (x ∷ nets) (y ∷ ends) zero net e n o =
    let same_net : x ≡ net = cc in
    let same_end : y ≡ e = cc in
    append-nil (static_gate x (sink_tree pins cells y)) ∙ (λ i. static_gate (same_net i) (sink_tree pins cells (same_end i)))
gates_more pins cells (x ∷ nets) (y ∷ ends) (suc k) net e n o =
    ap (λ l. static_gate x (sink_tree pins cells y) ++ l) (gates_more pins cells nets ends k net e n o)
    ∙ sym (append_assoc (static_gate x (sink_tree pins cells y)) (sink_gates pins cells (take k nets) (take k ends)) (static_gate net (sink_tree pins cells e)))

-- the sinks so far and one more
pub next_sink : (old between new : CircuitData) (pins : List (List ℕ)) (cells : List (CellTrees × ℕ)) (nets : List (List ℕ)) (ends : List SinkEnd) (k : ℕ) (net : List ℕ) (e : SinkEnd)
    → slice_get nets k ≡ Some net → slice_get ends k ≡ Some e → between ≡ with_devices old (sink_gates pins cells (take k nets) (take k ends))
    → new ≡ with_devices between (static_gate net (sink_tree pins cells e)) → new ≡ with_devices old (sink_gates pins cells (take (k + 1) nets) (take (k + 1) ends))
next_sink old between new pins cells nets ends k net e at end one two =
    two_parts old between new (sink_gates pins cells (take k nets) (take k ends)) (static_gate net (sink_tree pins cells e)) one two
    ∙ ap (with_devices old) (sym (gates_more pins cells nets ends k net e at end))
    ∙ ap (λ n. with_devices old (sink_gates pins cells (take n nets) (take n ends))) (sym (add-one k))

-- room for the devices of one more
pub room_for_four : (old between : CircuitData) (pins : List (List ℕ)) (cells : List (CellTrees × ℕ)) (nets : List (List ℕ)) (ends : List SinkEnd) (k : ℕ) → k < length nets
    → between ≡ with_devices old (sink_gates pins cells (take k nets) (take k ends)) → length between.devices + 4 ≤ length old.devices + 4 * length nets
room_for_four old between pins cells nets ends k low one =
    let first = sink_gates pins cells (take k nets) (take k ends) in
    omega (arith, ap (λ (c : CircuitData). length c.devices) one, count_with old first, few_gates pins cells (take k nets) (take k ends), length-take k nets)

-- the ends of a static gate
gate_ends : (P : List ℕ → Type 0) → P (codes "vdd") → P (codes "vss") → (out : List ℕ) → ((x : List ℕ) → IsGateNet out x → P x) → (t : Tree (List ℕ))
    → AllByRecursion (HasEnds P) (static_gate out t)
gate_ends P vdd vss out each t =
    AllByRecursion-append (HasEnds P) (spell pch (inner_net (upper_front out)) (dual t) out (codes "vdd") 0) (spell nch (inner_net (lower_front out)) t out (codes "vss") 0)
    (tree_ends P pch (inner_net (upper_front out)) (dual t) out (codes "vdd") 0 (each out (inl refl)) vdd (λ j. each (inner_net (upper_front out) j) (inr (inl (j, refl)))))
    (tree_ends P nch (inner_net (lower_front out)) t out (codes "vss") 0 (each out (inl refl)) vss (λ j. each (inner_net (lower_front out) j) (inr (inr (j, refl)))))

-- the first sinks don't end at a net of the next
first_apart_from : (pins : List (List ℕ)) (cells : List (CellTrees × ℕ)) (nets : List (List ℕ)) (ends : List SinkEnd) (k : ℕ) (net name : List ℕ) → slice_get nets k ≡ Some net
    → IsDistinct (pointwise nat_eq) nets → AllByRecursion IsSinkName nets → IsSinkName net → IsGateNet net name → codes "vdd" ≢ name → codes "vss" ≢ name
    → AllByRecursion (EndsApart name) (sink_gates pins cells (take k nets) (take k ends))
unfolding IsDistinct
first_apart_from pins cells [] ends k net name at apart are is of vdd vss = absurd (cc)
first_apart_from pins cells (x ∷ nets) [] zero net name at apart are is of vdd vss = tt
first_apart_from pins cells (x ∷ nets) [] (suc k) net name at apart are is of vdd vss = tt
first_apart_from pins cells (x ∷ nets) (e ∷ ends) zero net name at apart are is of vdd vss = tt
first_apart_from pins cells (x ∷ nets) (e ∷ ends) (suc k) net name at apart are is of vdd vss =
    let differs : x ≢ net = λ z. let never : true ≡ false = sym ((bytes_decides x net).1 z) ∙ each nets k at apart.0 in cc in
    AllByRecursion-append (EndsApart name) (static_gate x (sink_tree pins cells e)) (sink_gates pins cells (take k nets) (take k ends))
    (gate_ends (λ y. y ≢ name) vdd vss x (λ y own z. differs (same_net x net y name are.0 is own of z)) (sink_tree pins cells e))
    (first_apart_from pins cells nets ends k net name at apart.1 are.1 is of vdd vss)
  where
    each : (xs : List (List ℕ)) (i : ℕ) → slice_get xs i ≡ Some net → AllByRecursion (λ z. pointwise nat_eq x z ≡ false) xs → pointwise nat_eq x net ≡ false
    each [] i get all = absurd (cc)
    each (z ∷ xs) zero get all = let same : z ≡ net = cc in subst (λ w. pointwise nat_eq x w ≡ false) same all.0
    each (z ∷ xs) (suc i) get all = each xs i get all.1

-- where so many sinks stand, there is room for the next
pub room_for_next : (old between : CircuitData) (pins : List (List ℕ)) (cells : List (CellTrees × ℕ)) (nets : List (List ℕ)) (ends : List SinkEnd) (k : ℕ) (net : List ℕ)
    → HasRoomForSinks old nets → slice_get nets k ≡ Some net → between ≡ with_devices old (sink_gates pins cells (take k nets) (take k ends)) → HasRoomForGate between net
room_for_next old between pins cells nets ends k net room at one =
    subst (λ (c : CircuitData). HasRoomForGate c net) (sym one) record {
      vdd = port_below old first room.whole (codes "vdd") room.vdd;
      vss = port_below old first room.whole (codes "vss") room.vss;
      output = stays net (inl refl);
      upper = λ j. stays (inner_net (upper_front net) j) (inr (inl (j, refl)));
      lower = λ j. stays (inner_net (lower_front net) j) (inr (inr (j, refl)));
    }
  where
    first : List (NamedDevice (List ℕ))
    first = sink_gates pins cells (take k nets) (take k ends)

    is_sink : IsSinkName net
    is_sink = All-at IsSinkName nets k net room.nets_are at

    -- a supply is a source, and nothing drives a net of a sink
    supply : (port name : List ℕ) → IsPort old port → is_source old (net_number old.nets port) ≡ true → IsUndriven old name → port ≢ name
    supply port name is source none e = let never : true ≡ false = sym source ∙ ap (λ n. is_source old (net_number old.nets n)) e ∙ none.0 in cc

    stays : (name : List ℕ) → IsGateNet net name → IsUndriven (with_devices old first) name
    stays name of =
        let free = All-at (λ x. (y : List ℕ) → IsGateNet x y → IsUndriven old y) nets k net room.undriven at name of in
        let vdd = supply (codes "vdd") name room.vdd (port_is_source old [] room.whole (codes "vdd") room.vdd refl) free in
        let vss = supply (codes "vss") name room.vss (port_is_source old [] room.whole (codes "vss") room.vss refl) free in
        stays_undriven old first room.whole name free
        (first_apart_from pins cells nets ends k net name at room.apart (recursion_from_All IsSinkName nets room.nets_are) is_sink of vdd vss)
