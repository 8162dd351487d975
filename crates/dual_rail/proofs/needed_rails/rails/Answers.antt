-- The marked pairs are the needed ones, and each stands at its place.
use Rattle.std.proofs.Common.{◌≡◌, sym, ap, ap₂, subst, ◌∙◌}
use Rattle.gate_decompose.specs.GatesData.{GatesData}
use Rattle.gate_decompose.specs.GatesOrder.{AreGates}
use Rattle.gate_decompose.specs.Needed.{AreNeeded}
use Rattle.gate_decompose.specs.NeededPass.{marked_pairs}
use Rattle.gate_decompose.proofs.GatesOrder.{gates_are_ordered}
use Rattle.gate_decompose.proofs.NeededLists.{marked_pairs_are_needed}
use Rattle.dual_rail.specs.Places.{ArePlaces}
use Rattle.dual_rail.specs.WantedNodes.{AreOrderedNodes, holds}
use Rattle.dual_rail.proofs.RailsOf.{nodes_ordered, parts_stand, sinks_stand}
use Rattle.dual_rail.proofs.needed_rails.rails.Goals as goal

pub node_targets-requires-clause-order : goal.node_targets-requires-clause-order
node_targets-requires-clause-order c =
    let is : AreGates c.args.gates.now = subst AreGates c.gates.view_is c.gates.invariant in
    let nodes : c.as_slice-nodes.result.now ≡ c.args.gates.now.nodes = c.as_slice-nodes.ensures.value ∙ ap (λ (g : GatesData). g.nodes) c.gates.view_is in
    subst AreOrderedNodes (sym nodes) (nodes_ordered c.args.gates.now is.in_place)

pub forest_of-requires-clause-needed : goal.forest_of-requires-clause-needed
forest_of-requires-clause-needed c =
    let is : AreGates c.args.gates.now = subst AreGates c.gates.view_is c.gates.invariant in
    let nodes : c.as_slice-nodes.result.now ≡ c.args.gates.now.nodes = c.as_slice-nodes.ensures.value ∙ ap (λ (g : GatesData). g.nodes) c.gates.view_is in
    subst (AreNeeded c.args.gates.now c.args.signs.now) (sym (c.in_ok-needed.ensures.pairs ∙ ap₂ (λ ns ws. marked_pairs ns (holds ws)) nodes c.as_slice.ensures.value))
    (marked_pairs_are_needed c.args.gates.now c.args.signs.now (holds c.in_ok-wanted.wanted.items) (gates_are_ordered c.args.gates.now is.in_place) (λ n s. c.in_ok-wanted.ensures.marks n s))

pub forest_of-requires-clause-parts : goal.forest_of-requires-clause-parts
forest_of-requires-clause-parts c =
    let is : AreGates c.args.gates.now = subst AreGates c.gates.view_is c.gates.invariant in
    let nodes : c.as_slice-nodes.result.now ≡ c.args.gates.now.nodes = c.as_slice-nodes.ensures.value ∙ ap (λ (g : GatesData). g.nodes) c.gates.view_is in
    let needed = subst (AreNeeded c.args.gates.now c.args.signs.now) (sym (c.in_ok-needed.ensures.pairs ∙ ap₂ (λ ns ws. marked_pairs ns (holds ws)) nodes c.as_slice.ensures.value))
    (marked_pairs_are_needed c.args.gates.now c.args.signs.now (holds c.in_ok-wanted.wanted.items) (gates_are_ordered c.args.gates.now is.in_place) (λ n s. c.in_ok-wanted.ensures.marks n s)) in
    let stand = subst (λ ns. ArePlaces ns (holds c.in_ok-wanted.wanted.items) c.in_ok-needed.needed.pairs.items c.in_ok-needed.needed.places.items) nodes
    (subst (λ ws. ArePlaces c.as_slice-nodes.result.now (holds ws) c.in_ok-needed.needed.pairs.items c.in_ok-needed.needed.places.items) c.as_slice.ensures.value c.in_ok-needed.ensures.places) in
    parts_stand c.args.gates.now c.args.signs.now c.in_ok-needed.needed.pairs.items needed (gates_are_ordered c.args.gates.now is.in_place) (holds c.in_ok-wanted.wanted.items)
    (λ n s. c.in_ok-wanted.ensures.marks n s) c.in_ok-needed.needed.places.items stand

pub forest_of-requires-clause-sinks : goal.forest_of-requires-clause-sinks
forest_of-requires-clause-sinks c =
    let is : AreGates c.args.gates.now = subst AreGates c.gates.view_is c.gates.invariant in
    let nodes : c.as_slice-nodes.result.now ≡ c.args.gates.now.nodes = c.as_slice-nodes.ensures.value ∙ ap (λ (g : GatesData). g.nodes) c.gates.view_is in
    let needed = subst (AreNeeded c.args.gates.now c.args.signs.now) (sym (c.in_ok-needed.ensures.pairs ∙ ap₂ (λ ns ws. marked_pairs ns (holds ws)) nodes c.as_slice.ensures.value))
    (marked_pairs_are_needed c.args.gates.now c.args.signs.now (holds c.in_ok-wanted.wanted.items) (gates_are_ordered c.args.gates.now is.in_place) (λ n s. c.in_ok-wanted.ensures.marks n s)) in
    let stand = subst (λ ns. ArePlaces ns (holds c.in_ok-wanted.wanted.items) c.in_ok-needed.needed.pairs.items c.in_ok-needed.needed.places.items) nodes
    (subst (λ ws. ArePlaces c.as_slice-nodes.result.now (holds ws) c.in_ok-needed.needed.pairs.items c.in_ok-needed.needed.places.items) c.as_slice.ensures.value c.in_ok-needed.ensures.places) in
    sinks_stand c.args.gates.now c.args.signs.now c.in_ok-needed.needed.pairs.items needed (gates_are_ordered c.args.gates.now is.in_place) (holds c.in_ok-wanted.wanted.items)
    (λ n s. c.in_ok-wanted.ensures.marks n s) c.in_ok-needed.needed.places.items stand
