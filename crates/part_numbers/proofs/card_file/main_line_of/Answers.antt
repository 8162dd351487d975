use Rattle.std.proofs.Common.{ap, sym, ◌∙◌}
use Rattle.blif_ast.specs.BlifModelData.{BlifModelData}
use Rattle.part_numbers.proofs.NumberedMains.{main_is}
use Rattle.part_numbers.proofs.card_file.main_line_of.Goals as goal

pub returns : goal.returns
returns c = c.from.ensures ∙ ap (λ (m : BlifModelData). m.line) (sym (main_is c.args.file.now c.main_at.result c.main_at.ensures))
