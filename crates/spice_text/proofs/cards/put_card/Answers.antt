use Rattle.std.proofs.Common.{◌++◌, ◌∷◌, ap, ◌∙◌}
use Rattle.spice_text.proofs.Lines.{card_with_end}
use Rattle.spice_text.proofs.cards.put_card.Goals as goal

pub returns : goal.returns
returns c =
    card_with_end _ _ _ _ _ _ _ c.in_ok-push.ensures.items c.in_ok-append_number.ensures.digits
    (c.in_ok-append_word.ensures.word ∙ ap (λ w. c.append_number.new.text.items ++ 32 ∷ w) c.net_name.ensures)
    (c.in_ok-append_word-2.ensures.word ∙ ap (λ w. c.append_word.new.text.items ++ 32 ∷ w) c.net_name-2.ensures)
    (c.in_ok-append_word-3.ensures.word ∙ ap (λ w. c.append_word-2.new.text.items ++ 32 ∷ w) c.net_name-3.ensures)
    (c.in_ok-append.ensures.bytes ∙ ap (λ w. c.append_word-3.new.text.items ++ w) c.card_end.ensures)
