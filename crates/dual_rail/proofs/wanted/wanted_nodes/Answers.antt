-- What sinks and nodes read is there; and all marks together are those of the pass.
use Rattle.std.proofs.Common.{◌≡◌, ◌∙◌, ◌||◌, ap₂, length, ap, sym, subst, arith, rules}
use Rattle.std.specs.Prelude.{All}
use Rattle.std.proofs.lemmas.Grind.{common_steps}
use Rattle.std.proofs.lemmas.Option.{slice_get_within}
use Rattle.gate_decompose.specs.GatesData.{GatesData}
use Rattle.gate_decompose.specs.NeededPass.{is_asked_by_sinks, pass}
use Rattle.gate_decompose.proofs.GatesOrder.{parts_there, sink_there}
use Rattle.dual_rail.proofs.Marks.{all_marked, written_over}
use Rattle.dual_rail.proofs.SignedValues.{signed_same}
use Rattle.dual_rail.proofs.Zips.{all_from}
use Rattle.gate_decompose.specs.GatesOrder.{NodeReadsEarlier, ReadsEarlier}
use Rattle.dual_rail.specs.WantedNodes.{holds}
use Rattle.dual_rail.proofs.wanted.wanted_nodes.Goals as goal

pub mark_sinks-requires-clause-there : goal.mark_sinks-requires-clause-there
mark_sinks-requires-clause-there c =
    let count : length c.gates.inside.nodes.items ≡ length c.as_mut_slice.result.now = grind (arith, common_steps, c.as_mut_slice.ensures.len, c.in_ok-wanted.ensures.len, c.len.ensures) in
    subst (All (ReadsEarlier (length c.as_mut_slice.result.now))) (sym c.as_slice.ensures.value)
    (all_from (ReadsEarlier (length c.as_mut_slice.result.now)) c.gates.inside.sinks.items
    (λ k r e. subst (λ n. ReadsEarlier n r) count (sink_there c.gates.inside.leaves (length c.gates.inside.nodes.items) r (c.gates.invariant.in_place.sinks k r e))))

pub mark_nodes-requires-clause-there : goal.mark_nodes-requires-clause-there
mark_nodes-requires-clause-there c =
    subst (λ xs. All (NodeReadsEarlier (length xs)) xs) (sym c.as_slice-2.ensures.value)
    (all_from (NodeReadsEarlier (length c.gates.inside.nodes.items)) c.gates.inside.nodes.items
    (λ k x e. let within = slice_get_within c.gates.inside.nodes.items k x e in
    parts_there c.gates.inside.leaves k (length c.gates.inside.nodes.items) x (c.gates.invariant.in_place.nodes k x e) (omega (arith, within))))

pub returns-clause-marks : goal.returns-clause-marks
returns-clause-marks c =
    let len : c.in_ok-wanted.wanted.len ≡ length c.in_ok-wanted.wanted.items = search rules in
    let first = written_over c.in_ok-wanted.wanted.len c.mark_sinks.new.wanted c.in_ok-wanted.wanted.items (len ∙ sym (c.mark_sinks.auto.wanted ∙ ap length c.as_mut_slice.ensures.value)) in
    let mid = c.as_mut_slice-2.ensures.value ∙ first in
    let second = written_over c.in_ok-wanted.wanted.len c.mark_nodes.new.wanted _
    (len ∙ sym (c.mark_nodes.auto.wanted ∙ ap length mid ∙ c.mark_sinks.auto.wanted ∙ ap length c.as_mut_slice.ensures.value)) in
    λ n s. ap (λ ws. holds ws n s) second
    ∙ all_marked c.args.gates.now c.args.signs.now _ c.as_mut_slice.result.now c.mark_sinks.new.wanted c.mark_nodes.new.wanted
    (c.as_mut_slice.ensures.value ∙ c.in_ok-wanted.ensures.items_if_clones_equal (λ y e. signed_same y _ e))
    (λ m t. c.mark_sinks.ensures m t ∙ ap (λ xs. holds c.as_mut_slice.result.now m t || is_asked_by_sinks xs c.args.signs.now m t) (c.as_slice.ensures.value ∙ ap (λ (g : GatesData). g.sinks) c.gates.view_is))
    (λ m t. c.mark_nodes.ensures m t ∙ ap₂ (λ xs ws. pass xs (holds ws) (length xs) m t) (c.as_slice-2.ensures.value ∙ ap (λ (g : GatesData). g.nodes) c.gates.view_is) mid)
    n s
