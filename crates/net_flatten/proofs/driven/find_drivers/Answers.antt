use Rattle.std.proofs.Common.{◌+◌, length, set, sym, ap, ◌∙◌, subst, arith, refl}
use Rattle.std.specs.Prelude.{slice_get, Some, true}
use Rattle.std.proofs.lemmas.Option.{slice_get_read}
use Rattle.part_numbers.specs.NumberedFaults.{IsPartWithin}
use Rattle.part_numbers.specs.NumberedFiles.{NumberedPartData}
use Rattle.net_flatten.proofs.NumberedSearches.{AreOnceSoFar, once_at_end, once_at_next, once_at_start, twice_at}
use Rattle.net_flatten.proofs.driven.find_drivers.Goals as goal
use Rattle.dom_base.proofs.Lists.{All-at}

pub loop-index-init : goal.loop-index-init
loop-index-init c = once_at_start c.args.signals c.args.inputs.now c.args.parts.now c.in_ok-driven.driven c.in_ok-driven.ensures

pub contains-requires : goal.contains-requires
contains-requires c =
    let at = slice_get_read c.args.parts.now (length c.args.parts.now) c.loop-index.index c.index-parts-index.result refl (omega arith) c.index-parts-index.is in
    let within = (All-at (IsPartWithin c.args.signals) c.args.parts.now c.loop-index.index c.index-parts-index.result c.requires.parts at).drives in
    let same = ap (λ (p : NumberedPartData). p.drives) c.part.view_is in
    let count = c.loop-index.invariant.all.length_is in
    record { within = omega (arith, within, same, count) }

pub insert-requires : goal.insert-requires
insert-requires c =
    let at = slice_get_read c.args.parts.now (length c.args.parts.now) c.loop-index.index c.index-parts-index.result refl (omega arith) c.index-parts-index.is in
    let within = (All-at (IsPartWithin c.args.signals) c.args.parts.now c.loop-index.index c.index-parts-index.result c.requires.parts at).drives in
    let same = ap (λ (p : NumberedPartData). p.drives) c.part.view_is in
    let count = c.loop-index.invariant.all.length_is in
    record { within = omega (arith, within, same, count) }

pub returns-then-contains : goal.returns-then-contains
returns-then-contains c =
    let at = slice_get_read c.args.parts.now (length c.args.parts.now) c.loop-index.index c.index-parts-index.result refl (omega arith) c.index-parts-index.is in
    let same = ap (λ (p : NumberedPartData). p.drives) c.part.view_is in
    twice_at c.args.signals c.args.inputs.now c.args.parts.now c.loop-index.index c.index-parts-index.result c.loop-index.driven at
    (ap (slice_get c.loop-index.driven) (sym same) ∙ c.contains.ensures ∙ ap Some c.if-contains.true) c.loop-index.invariant

pub loop-index-preserved : goal.loop-index-preserved
loop-index-preserved c =
    let at = slice_get_read c.args.parts.now (length c.args.parts.now) c.loop-index.index c.index-parts-index.result refl (omega arith) c.index-parts-index.is in
    let same = ap (λ (p : NumberedPartData). p.drives) c.part.view_is in
    subst (AreOnceSoFar c.args.signals c.args.inputs.now c.args.parts.now (c.loop-index.index + 1)) (ap (λ k. set c.loop-index.driven k true) (sym same) ∙ sym c.insert.ensures)
    (once_at_next c.args.signals c.args.inputs.now c.args.parts.now c.loop-index.index c.index-parts-index.result c.loop-index.driven at
    (ap (slice_get c.loop-index.driven) (sym same) ∙ c.contains.ensures ∙ ap Some c.if-contains.false) c.loop-index.invariant)

pub returns : goal.returns
returns c = once_at_end c.args.signals c.args.inputs.now c.args.parts.now c.loop-index.driven c.loop-index.index (omega arith) c.loop-index.invariant
