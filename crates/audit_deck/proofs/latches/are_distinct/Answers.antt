use Rattle.std.specs.Prelude.{Some, slice_get}
use Rattle.std.proofs.Common.{get_or, ◌≡◌}
use Rattle.std.proofs.lemmas.Option.{slice_get-get_or}
use Rattle.audit_deck.proofs.Checks.{no_twins, twin_found, twins_more}
use Rattle.audit_deck.proofs.latches.are_distinct.Goals as goal

pub loop-place-preserved : goal.loop-place-preserved
loop-place-preserved c =
    let l = c.args.numbers.now in
    let i = c.loop-place.place in
    let at : slice_get l i ≡ Some (get_or l i 0) = slice_get-get_or l i 0 c.loop-place-test.true in
    twins_more l i (get_or l i 0) at (c.is_one_of.ensures.no c.if-is_one_of.false) c.loop-place.invariant

pub returns-then-is_one_of-clause-no : goal.returns-then-is_one_of-clause-no
returns-then-is_one_of-clause-no c = λ e d.
    let l = c.args.numbers.now in
    let i = c.loop-place.place in
    let at : slice_get l i ≡ Some (get_or l i 0) = slice_get-get_or l i 0 c.loop-place-test.true in
    twin_found l i (get_or l i 0) at (c.is_one_of.ensures.yes c.if-is_one_of.true) d

pub returns-clause-yes : goal.returns-clause-yes
returns-clause-yes c = λ e. no_twins c.args.numbers.now c.loop-place.place c.loop-place-test.false c.loop-place.invariant
