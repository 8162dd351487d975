use Rattle.std.proofs.Common.{arith}
use Rattle.std.proofs.lemmas.Option.{slice_get_within}
use Rattle.audit_deck.proofs.index.Index.is_at_control.Goals as goal

pub returns-clause-no : goal.returns-clause-no
returns-clause-no c = λ e (free, p, d, at, t, control).
    let l = c.ending-place-items.result.now in
    let y = c.ending-place-items.ensures.are.full p (d, at, t) in
    let lt = slice_get_within l y.0 p y.1 in
    c.loop-place.invariant y.0 p (omega (arith, lt, c.loop-place-test.false)) y.1 (d, at, control)
