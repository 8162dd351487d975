use Rattle.std.proofs.Common.{◌≡◌, ◌%◌, [], ◌∷◌, ap, ◌∙◌}
use Rattle.net_gen.specs.Draws.{next_draw_state, draw_state_after}
use Rattle.net_gen.specs.Generated.{input_behind, input_of, reach}
use Rattle.net_gen.proofs.table.inputs_behind.Goals as goal

pub returns-clause-state : goal.returns-clause-state
returns-clause-state c = c.input-third.ensures.state ∙ ap next_draw_state (c.input-second.ensures.state ∙ ap next_draw_state c.input-first.ensures.state)

pub returns-clause-inputs : goal.returns-clause-inputs
returns-clause-inputs c =
    let n = c.args.signals in
    let s = c.args.draws.now in
    let one = c.input-first.ensures.state in
    let two = c.input-second.ensures.state ∙ ap next_draw_state one in
    let three = c.input-third.ensures.state ∙ ap next_draw_state two in
    let first : c.input-first.result ≡ input_behind n s 0 = c.input-first.ensures.input ∙ ap (λ t. input_of n (t % reach n) 0) one in
    let second : c.input-second.result ≡ input_behind n s 1 = c.input-second.ensures.input ∙ ap (λ t. input_of n (t % reach n) 1) two in
    let third : c.input-third.result ≡ input_behind n s 2 = c.input-third.ensures.input ∙ ap (λ t. input_of n (t % reach n) 2) three in
    λ i. first i ∷ second i ∷ third i ∷ []
