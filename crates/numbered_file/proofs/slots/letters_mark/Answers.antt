use Rattle.std.proofs.Common.{ap, sym, ◌∙◌}
use Rattle.std.proofs.lemmas.List.Sums.{fold_more}
use Rattle.std.specs.Prelude.{slice_index_or}
use Rattle.numbered_file.specs.Slots.{marked}
use Rattle.numbered_file.proofs.slots.letters_mark.Goals as goal

pub loop-letter-preserved : goal.loop-letter-preserved
unfolding marked
loop-letter-preserved c =
    let name = c.args.name.now in
    let l = c.loop-letter in
    ap (λ mark. marked mark (slice_index_or name l.letter-index 0)) l.invariant ∙ sym (fold_more marked 0 name l.letter-index 0 c.loop-letter-test.true)
