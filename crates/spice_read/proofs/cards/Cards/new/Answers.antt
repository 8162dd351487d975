use Rattle.std.proofs.Common.{◌∙◌, sym, subst, Some}
use Rattle.std.specs.Str.{str_to_ascii_lowercase}
use Rattle.spice_read.specs.Readers.{IsAtFirstCard}
use Rattle.spice_read.proofs.CardsRead.{first_card, no_line_yet}
use Rattle.spice_read.proofs.cards.Cards.new.Goals as goal

pub lines-init : goal.lines-init
lines-init c = no_line_yet c.args.text.now _ c.new-phases.ensures.items

pub returns-then-begins_card-clause-first : goal.returns-then-begins_card-clause-first
returns-then-begins_card-clause-first c =
    subst (λ n. IsAtFirstCard c.args.text.now (record { held = Some (n, str_to_ascii_lowercase c.in-Some.bytes.now); left = c.next.new.self; phases = c.lines.phases.items })) (sym c.in-Some.ensures.number)
    (first_card c.lines.invariant c.in-Some.ensures.line (sym c.begins_card.ensures ∙ c.if-begins_card.true))
