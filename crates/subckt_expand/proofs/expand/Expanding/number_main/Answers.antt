use Rattle.subckt_expand.proofs.Kept.{numbered}
use Rattle.subckt_expand.proofs.expand.Expanding.number_main.Goals as goal

pub invariant_of-self : goal.invariant_of-self
invariant_of-self c = numbered _ c.args.name _ c.number.result c.number.ensures.keys c.number.ensures.kept c.self.invariant
