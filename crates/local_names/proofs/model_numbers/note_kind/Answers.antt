use Rattle.std.proofs.Common.{◌≡◌, ◌+◌, ◌-◌, sym, subst, ◌∙◌, Some, arith}
use Rattle.std.specs.Prelude.{slice_get}
use Rattle.local_names.proofs.Gathered.{AreGathered, gathered-more}
use Rattle.local_names.proofs.model_numbers.note_kind.Goals as goal

pub loop-index-preserved : goal.loop-index-preserved
loop-index-preserved c =
    let l = c.loop-index in
    let d = c.args.file.now in
    let first = c.args.first in
    let end = c.args.end in
    let one : l.index ≡ l.index - 1 + 1 = omega (arith, c.loop-index-test.true) in
    let there : slice_get d.parts (l.index - 1) ≡ Some c.in-Some.part = sym c.part_at.ensures ∙ c.in-Some.is in
    gathered-more d c.args.kind first end (l.index - 1) c.args.kept.now.items l.kept.items c.note_part.new.kept.items l.place c.note_part.new.place c.in-Some.part
    c.is_in_order.ensures
    (subst (λ k. AreGathered d c.args.kind first end k c.args.kept.now.items l.kept.items l.place) one l.invariant)
    (omega (arith, c.loop-index-test.true)) (omega (arith, c.loop-index-test.true, l.auto.index)) there c.note_part.ensures.length
    c.in_ok-note_part-in-Some.ensures.indexed c.in_ok-note_part-in-Some.ensures.noted
