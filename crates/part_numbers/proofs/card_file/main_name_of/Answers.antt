use Rattle.std.proofs.Common.{ap, sym, ◌∙◌}
use Rattle.blif_ast.specs.BlifModelData.{BlifModelData}
use Rattle.numbered_file.specs.Numbered.{name_of}
use Rattle.part_numbers.proofs.NumberedMains.{main_is}
use Rattle.part_numbers.proofs.card_file.main_name_of.Goals as goal

pub returns : goal.returns
returns c = c.name.ensures ∙ ap (λ names. name_of names c.main_at.result.name) c.names-names.ensures
    ∙ ap (λ (m : BlifModelData). m.name) (sym (main_is c.args.file.now c.main_at.result c.main_at.ensures))
