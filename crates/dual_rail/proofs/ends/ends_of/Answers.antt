-- Sinks read what is there, and an end more.
use Rattle.std.proofs.Common.{◌≡◌, refl, sym, ap, subst, ◌∙◌, length, arith}
use Rattle.std.proofs.lemmas.Grind.{common_steps}
use Rattle.gate_decompose.specs.GatesData.{GatesData}
use Rattle.gate_decompose.specs.GatesOrder.{AreGates}
use Rattle.dual_rail.specs.EndPlaces.{IsNodeWithin}
use Rattle.dual_rail.specs.Targets.{asked_target}
use Rattle.dual_rail.proofs.EndsOf.{ends_next, sink_at, sink_within}
use Rattle.dual_rail.proofs.ends.ends_of.Goals as goal

pub target_of-target-requires : goal.target_of-target-requires
target_of-target-requires c =
    let is : AreGates c.args.gates.now = subst AreGates c.gates.view_is c.gates.invariant in
    let sinks : c.deref-sink-items.result.now ≡ c.args.gates.now.sinks = c.deref-sink-items.ensures.value ∙ ap (λ (g : GatesData). g.sinks) c.gates.view_is in
    sink_at c.args.gates.now c.deref-sink-items.result.now (length c.args.targets.now) c.loop-index.index _ is.in_place sinks c.requires.targets c.loop-index-test.true

pub end_for-requires : goal.end_for-requires
end_for-requires c =
    let is : AreGates c.args.gates.now = subst AreGates c.gates.view_is c.gates.invariant in
    let sinks : c.deref-sink-items.result.now ≡ c.args.gates.now.sinks = c.deref-sink-items.ensures.value ∙ ap (λ (g : GatesData). g.sinks) c.gates.view_is in
    subst (λ n. IsNodeWithin n (asked_target c.target_of-target.result)) (sym c.requires.places)
    (sink_within c.args.gates.now.nodes c.requires.order
    (sink_at c.args.gates.now c.deref-sink-items.result.now (length c.args.gates.now.nodes) c.loop-index.index _ is.in_place sinks refl c.loop-index-test.true)
    (c.target_of-target.ensures c.args.gates.now.nodes c.requires.known))

pub loop-index-preserved : goal.loop-index-preserved
loop-index-preserved c =
    let sinks : c.deref-sink-items.result.now ≡ c.args.gates.now.sinks = c.deref-sink-items.ensures.value ∙ ap (λ (g : GatesData). g.sinks) c.gates.view_is in
    record {
      count = let so_far = c.loop-index.invariant.count in rw c.in_ok-push.ensures.items (grind (arith, common_steps));
      ends = λ origin stand.
          ends_next c.args.gates.now c.args.signs.now origin c.args.places.now c.deref-sink-items.result.now c.loop-index.ends.items c.push.new.self.items c.end_for.result c.loop-index.index
          (asked_target c.target_of-target.result) sinks c.loop-index.invariant.count c.in_ok-push.ensures.items (c.target_of-target.ensures c.args.gates.now.nodes c.requires.known) c.end_for.ensures
          stand (c.loop-index.invariant.ends origin stand);
    }
