use Rattle.std.proofs.Common.{ap, ◌∙◌}
use Rattle.subckt_expand.specs.Definitions.{DefinitionData}
use Rattle.subckt_expand.proofs.DefinitionGrowth.{part_added, three_there}
use Rattle.subckt_expand.proofs.definition.Definition.push_device.Goals as goal

pub invariant_of-self-2 : goal.invariant_of-self-2
invariant_of-self-2 c =
    let nets : DefinitionData → _ = λ d. d.nets in
    let there = three_there c.args.self.now.nets c.number.new.self.nets c.number-2.new.self.nets _ c.args.drain c.args.gate c.args.source _ _ _ (ap nets c.in_ok-drain.ensures.nets) (ap nets c.in_ok-gate.ensures.nets) (ap nets (c.self.view_is ∙ c.in_ok-source.ensures.nets))
    c.in_ok-drain.ensures.number c.in_ok-gate.ensures.number c.in_ok-source.ensures.number in
    rw c.in_ok-push.ensures.items (part_added _ _ _ _ _ _ _ _ _ _ c.self.invariant (record { drain = there.first; gate = there.second; source = there.third }))
