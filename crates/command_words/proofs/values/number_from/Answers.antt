use Rattle.std.proofs.Common.{sym, ap, ◌∙◌, rules}
use Rattle.std.specs.Option.{option_and_then}
use Rattle.command_words.proofs.NumberWords.{inside, number_read, outside_range, within_range}
use Rattle.command_words.proofs.values.number_from.Goals as goal

pub returns-in_err-number : goal.returns-in_err-number
returns-in_err-number c =
    let read = number_read c.args.word.now c.args.low c.args.high c.ok.result c.parse.result c.parse.ensures.value.0 c.ok.ensures.value c.ranges.high.fits in
    c.from_residual.ensures ∙ sym (read ∙ ap (option_and_then (within_range c.args.low c.args.high)) c.in_err-number.was)

pub returns-then-number-low : goal.returns-then-number-low
returns-then-number-low c =
    let read = number_read c.args.word.now c.args.low c.args.high c.ok.result c.parse.result c.parse.ensures.value.0 c.ok.ensures.value c.ranges.high.fits in
    sym (read ∙ ap (option_and_then (within_range c.args.low c.args.high)) c.in_ok-number.was
    ∙ outside_range c.args.low c.args.high c.in_ok-number.number (search (rules, c.then-number-low.either)))

pub returns : goal.returns
returns c =
    let read = number_read c.args.word.now c.args.low c.args.high c.ok.result c.parse.result c.parse.ensures.value.0 c.ok.ensures.value c.ranges.high.fits in
    sym (read ∙ ap (option_and_then (within_range c.args.low c.args.high)) c.in_ok-number.was
    ∙ inside c.args.low c.args.high c.in_ok-number.number c.if-number-low.false c.if-number-high.false)
