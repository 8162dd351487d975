use Rattle.std.proofs.Common.{◌++◌, refl, ap, ◌∙◌}
use Rattle.spice_text.proofs.Lines.{card_with_end}
use Rattle.plan_text.proofs.card_text.put_card.Goals as goal

pub returns-clause-card : goal.returns-clause-card
returns-clause-card c =
    card_with_end _ _ _ _ _ _ _ refl c.in_ok-put_mark.ensures.mark
    c.in_ok-put_net.ensures.name c.in_ok-put_net-2.ensures.name c.in_ok-put_net-3.ensures.name
    (c.in_ok-put_short.ensures.bytes ∙ ap (λ w. c.put_net-3.new.text ++ w) c.short_end.ensures)
