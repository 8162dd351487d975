use Rattle.std.proofs.Common.{◌≡◌, ◌%◌, [], ◌∷◌, ap, ◌∙◌}
use Rattle.net_gen.specs.Draws.{drawn, next_draw_state, draw_state_after}
use Rattle.net_gen.specs.Generated.{drawn_letter}
use Rattle.net_gen.proofs.table.row.Goals as goal

pub returns-clause-state : goal.returns-clause-state
returns-clause-state c = c.letter-third.ensures.state ∙ ap next_draw_state (c.letter-second.ensures.state ∙ ap next_draw_state c.letter-first.ensures.state)

pub returns-clause-row : goal.returns-clause-row
returns-clause-row c =
    let s = c.args.draws.now in
    let one = c.letter-first.ensures.state in
    let two = c.letter-second.ensures.state ∙ ap next_draw_state one in
    let three = c.letter-third.ensures.state ∙ ap next_draw_state two in
    let first : c.letter-first.result ≡ drawn_letter (drawn s 0 3) = c.letter-first.ensures.letter ∙ ap (λ t. drawn_letter (t % 3)) one in
    let second : c.letter-second.result ≡ drawn_letter (drawn s 1 3) = c.letter-second.ensures.letter ∙ ap (λ t. drawn_letter (t % 3)) two in
    let third : c.letter-third.result ≡ drawn_letter (drawn s 2 3) = c.letter-third.ensures.letter ∙ ap (λ t. drawn_letter (t % 3)) three in
    c.in_ok-from_array.ensures.items ∙ λ i. first i ∷ second i ∷ third i ∷ []
