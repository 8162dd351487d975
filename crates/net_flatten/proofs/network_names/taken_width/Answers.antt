use Rattle.std.proofs.Common.{◌∙◌, ap, sym}
use Rattle.std.specs.Char.{is_ascii_digit}
use Rattle.std.specs.List.{list_all}
use Rattle.std.proofs.lemmas.List.{take_rest}
use Rattle.net_flatten.proofs.NetworkNames.{digits_follow, only_letters, others_follow}
use Rattle.net_flatten.proofs.network_names.taken_width.Goals as goal

pub returns-in_err-width : goal.returns-in_err-width
returns-in_err-width c = rw c.from_residual.ensures (only_letters (sym (c.in_err-width.ensures {u = tt})))

pub returns-then-are_digits : goal.returns-then-are_digits
returns-then-are_digits c = digits_follow (sym (c.in_ok-width.ensures {u = tt}))
    (ap (list_all is_ascii_digit) (sym (take_rest c.args.name.now c.in_ok-width.width)) ∙ sym c.are_digits.ensures ∙ c.if-are_digits.true)

pub returns-else-are_digits : goal.returns-else-are_digits
returns-else-are_digits c = others_follow (sym (c.in_ok-width.ensures {u = tt}))
    (ap (list_all is_ascii_digit) (sym (take_rest c.args.name.now c.in_ok-width.width)) ∙ sym c.are_digits.ensures ∙ c.if-are_digits.false)
