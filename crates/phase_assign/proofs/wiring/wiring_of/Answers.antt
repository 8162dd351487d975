-- What nodes and sinks read is there; and all together is what the gates ask for.
use Rattle.std.proofs.Common.{◌≡◌, ◌∙◌, length, ap, sym, subst, arith}
use Rattle.std.specs.Prelude.{All}
use Rattle.std.proofs.lemmas.Option.{slice_get_within}
use Rattle.gate_decompose.specs.GatesData.{GatesData}
use Rattle.gate_decompose.specs.GatesOrder.{AreGates, NodeReadsEarlier, ReadsEarlier}
use Rattle.gate_decompose.proofs.GatesOrder.{gates_are_ordered, parts_there, sink_there}
use Rattle.dual_rail.proofs.RailsOf.{nodes_ordered}
use Rattle.dual_rail.proofs.Zips.{all_from}
use Rattle.dual_rail.specs.WantedNodes.{AreOrderedNodes}
use Rattle.dual_rail.specs.Targets.{AreTargets}
use Rattle.phase_assign.specs.Wiring.{AreEnds, AreNodeArms}
use Rattle.phase_assign.proofs.Targets.{wiring_there}
use Rattle.phase_assign.proofs.wiring.wiring_of.Goals as goal

pub node_targets-requires-clause-order : goal.node_targets-requires-clause-order
node_targets-requires-clause-order c =
    let is : AreGates c.args.gates.now = subst AreGates c.gates.view_is c.gates.invariant in
    let nodes : c.as_slice-nodes.result.now ≡ c.args.gates.now.nodes = c.as_slice-nodes.ensures.value ∙ ap (λ (g : GatesData). g.nodes) c.gates.view_is in
    subst AreOrderedNodes (sym nodes) (nodes_ordered c.args.gates.now is.in_place)

pub node_arms-requires-clause-there : goal.node_arms-requires-clause-there
node_arms-requires-clause-there c =
    let is : AreGates c.args.gates.now = subst AreGates c.gates.view_is c.gates.invariant in
    let nodes : c.as_slice-nodes.result.now ≡ c.args.gates.now.nodes = c.as_slice-nodes.ensures.value ∙ ap (λ (g : GatesData). g.nodes) c.gates.view_is in
    subst (λ xs. All (NodeReadsEarlier (length xs)) xs) (sym nodes)
    (all_from (NodeReadsEarlier (length c.args.gates.now.nodes)) c.args.gates.now.nodes
    (λ k x e. let within = slice_get_within c.args.gates.now.nodes k x e in parts_there c.args.gates.now.leaves k (length c.args.gates.now.nodes) x (is.in_place.nodes k x e) (omega (arith, within))))

pub sink_targets-requires : goal.sink_targets-requires
sink_targets-requires c =
    let is : AreGates c.args.gates.now = subst AreGates c.gates.view_is c.gates.invariant in
    let nodes : c.as_slice-nodes.result.now ≡ c.args.gates.now.nodes = c.as_slice-nodes.ensures.value ∙ ap (λ (g : GatesData). g.nodes) c.gates.view_is in
    let sinks : c.as_slice-2.result.now ≡ c.args.gates.now.sinks = c.as_slice-2.ensures.value ∙ ap (λ (g : GatesData). g.sinks) c.gates.view_is in
    let count : length c.as_slice-3.result.now ≡ length c.args.gates.now.nodes = ap length c.as_slice-3.ensures.value ∙ c.in_ok-targets.ensures.count ∙ ap length nodes in
    subst (λ n. All (ReadsEarlier n) c.as_slice-2.result.now) (sym count)
    (subst (All (ReadsEarlier (length c.args.gates.now.nodes))) (sym sinks)
    (all_from (ReadsEarlier (length c.args.gates.now.nodes)) c.args.gates.now.sinks (λ k r e. sink_there c.args.gates.now.leaves (length c.args.gates.now.nodes) r (is.in_place.sinks k r e))))

pub returns-clause-ordered : goal.returns-clause-ordered
returns-clause-ordered c =
    let is : AreGates c.args.gates.now = subst AreGates c.gates.view_is c.gates.invariant in
    gates_are_ordered c.args.gates.now is.in_place

pub returns-clause-wired : goal.returns-clause-wired
returns-clause-wired c =
    let nodes : c.as_slice-nodes.result.now ≡ c.args.gates.now.nodes = c.as_slice-nodes.ensures.value ∙ ap (λ (g : GatesData). g.nodes) c.gates.view_is in
    let sinks : c.as_slice-2.result.now ≡ c.args.gates.now.sinks = c.as_slice-2.ensures.value ∙ ap (λ (g : GatesData). g.sinks) c.gates.view_is in
    record {
      arms_count = c.in_ok-arms.ensures.count ∙ ap length nodes;
      ends_count = c.in_ok-ends.ensures.count ∙ ap length sinks;
      arms_are = subst (λ ns. AreNodeArms ns c.in_ok-arms.arms.items) nodes c.in_ok-arms.ensures.arms;
      ends_are = subst (λ xs. AreEnds c.args.gates.now.nodes xs c.in_ok-ends.ends.items) sinks
          (c.in_ok-ends.ensures.ends c.args.gates.now.nodes (subst (AreTargets c.args.gates.now.nodes) (sym c.as_slice-3.ensures.value) (subst (λ ns. AreTargets ns c.in_ok-targets.targets.items) nodes c.in_ok-targets.ensures.targets)));
    }

pub returns-clause-wiring : goal.returns-clause-wiring
returns-clause-wiring c =
    let is : AreGates c.args.gates.now = subst AreGates c.gates.view_is c.gates.invariant in
    let nodes : c.as_slice-nodes.result.now ≡ c.args.gates.now.nodes = c.as_slice-nodes.ensures.value ∙ ap (λ (g : GatesData). g.nodes) c.gates.view_is in
    let sinks : c.as_slice-2.result.now ≡ c.args.gates.now.sinks = c.as_slice-2.ensures.value ∙ ap (λ (g : GatesData). g.sinks) c.gates.view_is in
    wiring_there c.args.gates.now c.in_ok-arms.arms.items c.in_ok-ends.ends.items is (gates_are_ordered c.args.gates.now is.in_place)
    (record {
      arms_count = c.in_ok-arms.ensures.count ∙ ap length nodes;
      ends_count = c.in_ok-ends.ensures.count ∙ ap length sinks;
      arms_are = subst (λ ns. AreNodeArms ns c.in_ok-arms.arms.items) nodes c.in_ok-arms.ensures.arms;
      ends_are = subst (λ xs. AreEnds c.args.gates.now.nodes xs c.in_ok-ends.ends.items) sinks
          (c.in_ok-ends.ensures.ends c.args.gates.now.nodes (subst (AreTargets c.args.gates.now.nodes) (sym c.as_slice-3.ensures.value) (subst (λ ns. AreTargets ns c.in_ok-targets.targets.items) nodes c.in_ok-targets.ensures.targets)));
    })
