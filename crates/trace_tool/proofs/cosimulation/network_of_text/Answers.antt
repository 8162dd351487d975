use Rattle.std.proofs.Common.{◌≡◌, sym, subst}
use Rattle.std.specs.Result.{IsErrAnd}
use Rattle.numbered_file.specs.Numbered.{file_of}
use Rattle.blif_read.proofs.AcceptedIsGoodModels.{accepted_file}
use Rattle.trace_tool.specs.CosimRefusals.{IsUnflattened, of_flat}
use Rattle.trace_tool.proofs.UnflattenedFiles.{unflattened}
use Rattle.trace_tool.proofs.cosimulation.network_of_text.Goals as goal

pub flatten_numbers-requires : goal.flatten_numbers-requires
flatten_numbers-requires c = record { good = accepted_file c.args.blif.now (file_of c.in_ok-file.file) c.in_ok-file.ensures.file }

pub returns-in_err-network-clause-refused : goal.returns-in_err-network-clause-refused
returns-in_err-network-clause-refused c = λ why is.
    subst (IsUnflattened c.args.blif.now)
    (sym (subst (λ r. IsErrAnd r (λ e. e ≡ of_flat c.in_err-network.field-0.0)) is c.from_residual-in_err-network.ensures.1))
    (unflattened c.args.blif.now (file_of c.in_ok-file.file) c.in_ok-file.ensures.file c.in_err-network.field-0.0
    c.in_err-network.ensures.refused c.in_err-network.ensures.too_many)
