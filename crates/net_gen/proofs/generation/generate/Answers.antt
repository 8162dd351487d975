use Rattle.std.proofs.Common.{ap, ◌∙◌}
use Rattle.blif_ast.specs.Printed.{printed}
use Rattle.net_flatten.specs.OneModel.{file_of}
use Rattle.net_gen.proofs.generation.generate.Goals as goal

pub returns : goal.returns
returns c = c.in_ok-text.ensures ∙ ap (λ n. printed (file_of n)) c.in_ok-network.ensures
