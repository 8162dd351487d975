use Rattle.std.proofs.Common.{◌∙◌, ◌++◌, sym, ap, subst, refl, Some, None}
use Rattle.std.specs.Prelude.{option_map}
use Rattle.std.specs.Str.{str_to_ascii_lowercase}
use Rattle.dom_base.specs.Lines.{words}
use Rattle.spice_read.specs.Readers.{Reader}
use Rattle.spice_read.proofs.CardsRead.{IsInCard, in_first_line, read_to_next}
use Rattle.spice_read.proofs.cards.Cards.next.Goals as goal

pub lines-init : goal.lines-init
lines-init c =
    let line = str_to_ascii_lowercase c.in-Some.line.now in
    let number = c.in_ok-push_words.ensures.number ∙ c.begin.ensures.number in
    in_first_line c.args.self.now _ (c.push_words.new.self.number, line) _
    (sym (ap (λ (r : Reader). r.held) c.self.view_is) ∙ ap (option_map (λ p. (p.0, str_to_ascii_lowercase p.1.now))) (sym c.take.ensures.value ∙ c.in-Some.is)
    ∙ ap (λ n. Some (n, line)) (sym number))
    (c.in_ok-push_words.ensures.words ∙ ap (λ l. l ++ words line) c.begin.ensures.words)
    (ap (λ h. record { held = option_map (λ p. (p.0, str_to_ascii_lowercase p.1.now)) h; left = c.self.inside.lines; phases = c.self.inside.phases.items }) c.take.ensures.after ∙ ap (λ (r : Reader). record r { held = None }) c.self.view_is)

pub returns-then-begins_card : goal.returns-then-begins_card
returns-then-begins_card c =
    let inside = subst (IsInCard c.args.self.now _ _) (sym c.self-in-lines.view_is) c.lines.invariant in
    read_to_next inside (str_to_ascii_lowercase c.in-Some-next.line.now) _ c.in-Some-next.ensures.line (sym c.begins_card.ensures ∙ c.if-begins_card.true)
    (ap (λ n. Some (n, str_to_ascii_lowercase c.in-Some-next.line.now)) c.in-Some-next.ensures.number) refl
