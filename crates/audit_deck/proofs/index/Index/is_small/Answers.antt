use Rattle.std.proofs.Common.{arith}
use Rattle.std.proofs.lemmas.Bool.{leb-false}
use Rattle.audit_deck.proofs.Checks.{few_short}
use Rattle.audit_deck.proofs.index.Index.is_small.Goals as goal

pub returns : goal.returns
returns c = λ e few.
    let l = c.ending.result.now in
    omega (arith, leb-false _ 9 e, few_short c.args.self.now.devices c.args.net l c.ending.ensures.are few)
