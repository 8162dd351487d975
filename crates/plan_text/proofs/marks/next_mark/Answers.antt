use Rattle.std.proofs.Common.{◌≡◌, ◌++◌, subst}
use Rattle.std.specs.Prelude.{IfSome, codes}
use Rattle.std.specs.Fmt.{decimal}
use Rattle.plan_text.specs.ShortTexts.{short_bytes}
use Rattle.plan_text.proofs.CardMarks.{next_by_digit}
use Rattle.plan_text.proofs.marks.next_mark.Goals as goal

pub returns-then-raise_last_digit : goal.returns-then-raise_last_digit
returns-then-raise_last_digit c =
    let parts = c.raise_last_digit.ensures c.if-raise_last_digit.true in
    let now = subst (λ m. IfSome m (λ mark. short_bytes mark ≡ codes "m" ++ decimal c.args.number)) c.in-Some.is c.requires.mark in
    next_by_digit c.args.number (short_bytes c.in-Some.short) (short_bytes c.raise_last_digit.new.short) parts.0 parts.1 c.requires.room now parts.2 parts.3 parts.4
