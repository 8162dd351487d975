use Rattle.std.proofs.Common.{[], Some, ap, sym, ◌∙◌}
use Rattle.std.specs.Prelude.{slice_index_or}
use Rattle.numbered_file.specs.Numbered.{named}
use Rattle.part_numbers.proofs.NumberedMains.{output_is}
use Rattle.part_numbers.proofs.card_file.main_output_of.Goals as goal

pub returns : goal.returns
returns c = output_is c.args.file.now c.args.index c.requires.there
    ∙ (λ k. Some (slice_index_or (named (sym c.names.ensures k) (sym c.outputs.ensures k)) c.args.index []))
    ∙ ap Some (sym c.name_at.ensures)
