use Rattle.std.proofs.Common.{Some, length, ap, sym, ◌∙◌, arith}
use Rattle.std.specs.Prelude.{slice_get}
use Rattle.numbered_file.specs.Numbered.{named, part_by}
use Rattle.numbered_file.proofs.Places.{part_there}
use Rattle.part_numbers.proofs.NumberedMains.{place_within}
use Rattle.part_numbers.proofs.card_file.words_at.Goals as goal

pub part_at-part-requires : goal.part_at-part-requires
part_at-part-requires c = omega (arith, ap length c.parts.ensures, place_within c.args.file.now c.args.place c.requires.there)

pub returns : goal.returns
returns c =
    let part = c.part_at-part.result in
    part_there c.args.file.now c.args.place part (ap (λ ps. slice_get ps c.args.place) (sym c.parts.ensures) ∙ c.part_at-part.ensures)
    ∙ (λ k. Some (part_by (sym c.text.ensures k) part.kind part.line (named (sym c.names.ensures k) (sym c.words_of.ensures k)) (sym c.rows_of.ensures k)))
