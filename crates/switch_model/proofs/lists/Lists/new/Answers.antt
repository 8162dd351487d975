use Rattle.std.proofs.Common.{ap, ◌∙◌}
use Rattle.switch_model.specs.Chains.{chains}
use Rattle.switch_model.proofs.Chains.{chains-none}
use Rattle.switch_model.proofs.lists.Lists.new.Goals as goal

pub returns : goal.returns
returns c = ap (chains _) c.in_ok-ends.ensures ∙ chains-none _ c.args.count
