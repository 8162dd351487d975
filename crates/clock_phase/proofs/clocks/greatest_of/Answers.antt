use Rattle.std.proofs.Common.{◌∙◌, ap, sym, max, get_or}
use Rattle.clock_phase.proofs.Greatest.{greatest_one_more}
use Rattle.clock_phase.proofs.clocks.greatest_of.Goals as goal

pub loop-number-preserved : goal.loop-number-preserved
loop-number-preserved c =
    c.max-top.ensures ∙ ap (λ top. max top (get_or c.args.numbers.now c.loop-number.number-index 0)) c.loop-number.invariant
    ∙ sym (greatest_one_more c.args.numbers.now c.loop-number.number-index 0 c.loop-number-test.true)
