use Rattle.std.proofs.Common.{◌≡◌, ◌+◌, ◌-◌, Some, ap, sym, ◌∙◌, arith}
use Rattle.std.proofs.lemmas.Option.{same_Some}
use Rattle.numbered_file.specs.Slots.{known, free, taken, none}
use Rattle.numbered_file.proofs.slots.look_in.Goals as goal

pub returns-in-None : goal.returns-in-None
returns-in-None c =
    let nothing = sym c.number_at.ensures ∙ c.in-None.is in
    taken ((λ z. cc (sym nothing ∙ z)), (λ n z. cc (sym nothing ∙ z))) none

pub returns-in-Some-eq0 : goal.returns-in-Some-eq0
returns-in-Some-eq0 c = free (sym c.number_at.ensures ∙ c.in-Some-eq0.is ∙ ap Some c.in-Some-eq0.field-0-test)

pub returns-then-has_number : goal.returns-then-has_number
returns-then-has_number c =
    let one_more : c.in-Some.next ≡ c.in-Some.next - 1 + 1 = omega (arith, c.in-Some.next-test.1) in
    known (sym c.number_at.ensures ∙ c.in-Some.is ∙ ap Some one_more) (c.has_number.ensures.yes c.if-has_number.true)

pub returns-else-has_number : goal.returns-else-has_number
returns-else-has_number c =
    let there = sym c.number_at.ensures ∙ c.in-Some.is in
    taken (
      (λ z. c.in-Some.next-test.1 (same_Some c.in-Some.next 0 (sym there ∙ z))),
      (λ n z is. let next = same_Some c.in-Some.next (n + 1) (sym there ∙ z) in let number : c.in-Some.next - 1 ≡ n = omega (arith, next) in
          c.has_number.ensures.no c.if-has_number.false (rw number is)),
    )
    none
