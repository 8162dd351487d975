use Rattle.std.proofs.Common.{rules}
use Rattle.blif_ast.proofs.FileLines.{model_end}
use Rattle.blif_ast.proofs.models.put_model.Goals as goal

pub returns : goal.returns
returns c = search (rules, model_end)
