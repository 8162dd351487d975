use Rattle.std.proofs.Common.{sym, subst, arith, take}
use Rattle.std.proofs.lemmas.List.{take_all, take_more}
use Rattle.std.proofs.lemmas.Option.{slice_get-get_or}
use Rattle.numbered_calls.proofs.Marking.{next_marked, none_marked, stopped}
use Rattle.numbered_calls.specs.PortMarks.{AreMarked}
use Rattle.numbered_calls.proofs.port_marks.PortMarks.mark_all.Goals as goal

pub loop-place-init : goal.loop-place-init
loop-place-init c = none_marked c.args.self.now c.args.mark c.args.mark

pub loop-place-preserved : goal.loop-place-preserved
loop-place-preserved c = subst (λ l. AreMarked c.args.self.now l c.args.mark c.args.mark c.mark.new.self) (sym (take_more c.args.places.now c.loop-place.place-index 0 c.loop-place-test.true))
    (next_marked c.args.self.now (take c.loop-place.place-index c.args.places.now) c.args.mark c.args.mark c.loop-place.self c.mark.new.self _ c.loop-place.invariant (c.mark.ensures.marked c.if-not-mark.false))

pub returns-then-not-mark-clause-barred : goal.returns-then-not-mark-clause-barred
returns-then-not-mark-clause-barred c = λ f. stopped c.args.self.now c.args.places.now c.args.mark c.args.mark c.loop-place.self _ c.loop-place.place-index c.loop-place.invariant
    (c.mark.ensures.barred c.if-not-mark.true) (slice_get-get_or c.args.places.now c.loop-place.place-index 0 (omega (arith, c.loop-place-test.true)))

pub returns-clause-marked : goal.returns-clause-marked
returns-clause-marked c = λ t. subst (λ l. AreMarked c.args.self.now l c.args.mark c.args.mark c.loop-place.self) (take_all c.loop-place.place-index c.args.places.now (omega (arith, c.loop-place-test.false))) c.loop-place.invariant
