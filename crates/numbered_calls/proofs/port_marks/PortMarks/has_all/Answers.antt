use Rattle.std.proofs.Common.{◌≡◌, ◌∷◌, [], sym, subst, arith, take}
use Rattle.std.specs.Prelude.{Some, slice_get}
use Rattle.std.specs.List.{AllByRecursion}
use Rattle.std.proofs.lemmas.List.{take_all, take_more}
use Rattle.std.proofs.lemmas.Option.{slice_get-get_or}
use Rattle.dom_base.proofs.Lists.{AllByRecursion-append, Contains-slice_get}
use Rattle.numbered_calls.proofs.port_marks.PortMarks.has_all.Goals as goal

pub loop-place-preserved : goal.loop-place-preserved
loop-place-preserved c =
    subst (AllByRecursion (λ place. slice_get c.args.self.now place ≡ Some c.args.mark)) (sym (take_more c.args.places.now c.loop-place.place-index 0 c.loop-place-test.true))
    (AllByRecursion-append (λ place. slice_get c.args.self.now place ≡ Some c.args.mark) (take c.loop-place.place-index c.args.places.now) (_ ∷ []) c.loop-place.invariant (c.has.ensures.here c.if-not-has.false, tt))

pub returns-then-not-has-clause-none : goal.returns-then-not-has-clause-none
returns-then-not-has-clause-none c = λ f. (
  _,
  Contains-slice_get c.args.places.now c.loop-place.place-index _ (slice_get-get_or c.args.places.now c.loop-place.place-index 0 (omega (arith, c.loop-place-test.true))),
  c.has.ensures.not_here c.if-not-has.true,
)

pub returns-clause-all : goal.returns-clause-all
returns-clause-all c = λ t. subst (AllByRecursion (λ place. slice_get c.args.self.now place ≡ Some c.args.mark)) (take_all c.loop-place.place-index c.args.places.now (omega (arith, c.loop-place-test.false))) c.loop-place.invariant
