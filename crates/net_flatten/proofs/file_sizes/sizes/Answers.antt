use Rattle.std.proofs.Common.{subst, sym}
use Rattle.std.specs.Prelude.{IfOk}
use Rattle.blif_ast.specs.Good.{IsGoodFile}
use Rattle.model_calls.specs.ModelCalls.{NothingRefuses}
use Rattle.part_numbers.specs.NetworkSizes.{AreSizes}
use Rattle.net_flatten.proofs.file_sizes.sizes.Goals as goal

pub sizes_by_numbers-requires-clause-good : goal.sizes_by_numbers-requires-clause-good
sizes_by_numbers-requires-clause-good c = subst IsGoodFile (sym c.in_ok-numbered.ensures.file) c.requires.good

pub sizes_by_numbers-requires-clause-accepted : goal.sizes_by_numbers-requires-clause-accepted
sizes_by_numbers-requires-clause-accepted c = subst (λ f. NothingRefuses f 5) (sym c.in_ok-numbered.ensures.file) c.requires.accepted

pub returns : goal.returns
returns c = subst (λ f. IfOk c.sizes_by_numbers.result (AreSizes f)) c.in_ok-numbered.ensures.file c.sizes_by_numbers.ensures
