use Rattle.std.proofs.Common.{◌+◌, ◌∷◌, [], ap, length, sym, ◌∙◌, subst, arith}
use Rattle.std.specs.Option.{IfSome}
use Rattle.std.proofs.lemmas.List.{length-append}
use Rattle.local_names.specs.LocalNames.{IsInstance, IsUnitOf}
use Rattle.numbered_calls.proofs.Owned.{HaveUnits, all_units, next_unit, no_units}
use Rattle.numbered_calls.proofs.unit_numbers.find_units.Goals as goal

pub loop-index-init : goal.loop-index-init
loop-index-init c = record { count = ap length c.in_ok-units.ensures.items; have = subst (HaveUnits c.args.file.now) (sym c.in_ok-units.ensures.items) (no_units c.args.file.now) }

pub loop-index-preserved : goal.loop-index-preserved
loop-index-preserved c =
    let before = c.loop-index.units.items in
    let unit = c.in-Some.unit in
    let is = subst (λ r. IfSome r (λ unit. IsInstance c.args.file.now c.loop-index.index → IsUnitOf c.args.file.now c.loop-index.index unit)) c.in-Some.is c.unit_of.ensures.unit in
    record {
      count = ap length c.in_ok-push.ensures.items ∙ length-append before (unit ∷ []) ∙ ap (λ n. n + 1) c.loop-index.invariant.count;
      have = subst (HaveUnits c.args.file.now) (sym c.in_ok-push.ensures.items) (next_unit c.args.file.now before unit c.loop-index.invariant.have
          (subst (λ k. IsInstance c.args.file.now k → IsUnitOf c.args.file.now k unit) (sym c.loop-index.invariant.count) is));
    }

pub returns-in_default-clause-unknown : goal.returns-in_default-clause-unknown
returns-in_default-clause-unknown c = (c.loop-index.index, c.in_default.ensures.unknown)

pub returns-clause-units : goal.returns-clause-units
returns-clause-units c = all_units c.args.file.now c.loop-index.units.items c.requires.apart
    (omega (arith, c.loop-index.invariant.count, c.loop-index-test.false, ap length c.parts-parts.ensures, c.loop-index.auto.index-end)) c.loop-index.invariant.have
