use Rattle.std.proofs.Common.{◌≡◌, ◌==◌, ◌%◌, ◌+◌, not, List, [], ◌∷◌, ◌++◌, map, ap, sym, subst, ◌∙◌}
use Rattle.std.specs.Prelude.{IsErrAnd, OnOk, Result, Err}
use Rattle.std.proofs.lemmas.Result.{err_from_is_err_and, on_ok_weaker}
use Rattle.net_gen.specs.Draws.{next_draw_state, draw_state_after}
use Rattle.net_gen.specs.Generated.{row_at, table_behind}
use Rattle.net_gen.proofs.States.{draw_state_after-add}
use Rattle.net_gen.proofs.table.push_table.Goals as goal

at_error : {T E : Type 0} (P : Type 0) (Q : E → Type 0) (r : Result T E) → IsErrAnd r Q → OnOk r P
at_error P Q r e = subst (λ r. OnOk r P) (sym (err_from_is_err_and {Q = Q} r e).1) tt

pub returns-in_err-first-clause-table : goal.returns-in_err-first-clause-table
returns-in_err-first-clause-table c =
    at_error (c.args.tables.now ≡ c.args.tables.now ++ table_behind c.args.signals c.args.draws.now ∷ []) _ c.from_residual.result c.from_residual.ensures.1

pub returns-in_err-second-clause-table : goal.returns-in_err-second-clause-table
returns-in_err-second-clause-table c =
    at_error (c.args.tables.now ≡ c.args.tables.now ++ table_behind c.args.signals c.args.draws.now ∷ []) _ c.from_residual-in_err-second.result c.from_residual-in_err-second.ensures.1

pub returns-clause-state : goal.returns-clause-state
returns-clause-state c =
    let s = c.args.draws.now in
    let four = c.draw-on.ensures.state ∙ ap next_draw_state c.inputs_behind-inputs.ensures.state in
    let seven = c.in_ok-first.ensures.state ∙ ap (draw_state_after 3) four ∙ draw_state_after-add 3 4 s in
    on_ok_weaker c.push.result (λ pushed. c.in_ok-second.ensures.state ∙ ap (draw_state_after 3) seven ∙ draw_state_after-add 3 7 s) c.push.ensures

pub returns-clause-table : goal.returns-clause-table
returns-clause-table c =
    let s = c.args.draws.now in
    let four = c.draw-on.ensures.state ∙ ap next_draw_state c.inputs_behind-inputs.ensures.state in
    let seven = c.in_ok-first.ensures.state ∙ ap (draw_state_after 3) four ∙ draw_state_after-add 3 4 s in
    let on = ap (λ t. not (t == 0)) (c.draw-on.ensures.drawn ∙ ap (λ t. t % 4) four) in
    let inputs = c.inputs_behind-inputs.ensures.inputs in
    let first = c.in_ok-first.ensures.row ∙ ap (λ t. row_at t 0) four in
    let second = c.in_ok-second.ensures.row ∙ ap (λ t. row_at t 0) seven in
    on_ok_weaker c.push.result (λ pushed. pushed ∙ λ i. c.args.tables.now ++ record { inputs = inputs i; on = on i; rows = first i ∷ second i ∷ [] } ∷ []) c.push.ensures
