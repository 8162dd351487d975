use Rattle.std.proofs.Common.{ap, ◌∙◌}
use Rattle.std.proofs.lemmas.Result.{on_ok_weaker}
use Rattle.file_copies.specs.Copied.{model_with_part}
use Rattle.numbered_file.specs.Numbered.{between, named, part_by}
use Rattle.numbered_file.proofs.PartLists.{named-between}
use Rattle.file_copies.proofs.copy.copy_part.Goals as goal

pub returns : goal.returns
returns c =
    let d = c.args.file.now in
    let part = c.args.part in
    let words = (λ i. named (c.names.ensures i) ((c.between-words.ensures ∙ ap (between c.args.before.words part.words_end) c.words.ensures) i))
    ∙ named-between d.names c.args.before.words part.words_end d.words in
    let rows = c.between-rows.ensures ∙ ap (between c.args.before.rows part.rows_end) c.rows.ensures in
    on_ok_weaker c.push_part.result (λ e. e ∙ (λ i. model_with_part c.args.model.now (part_by (c.text.ensures i) part.kind part.line (words i) (rows i)))) c.push_part.ensures
