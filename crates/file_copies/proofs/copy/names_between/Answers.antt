use Rattle.std.proofs.Common.{ap, ◌∙◌}
use Rattle.std.proofs.lemmas.Result.{IfOk-weaker}
use Rattle.numbered_file.specs.Numbered.{named}
use Rattle.numbered_file.proofs.PartLists.{named-between}
use Rattle.file_copies.proofs.copy.names_between.Goals as goal

pub returns : goal.returns
returns c = IfOk-weaker c.names_at.result _ _
    (λ v is. is ∙ ap (named c.args.names.now) c.between.ensures ∙ named-between c.args.names.now c.args.start c.args.end c.args.numbers.now) c.names_at.ensures
