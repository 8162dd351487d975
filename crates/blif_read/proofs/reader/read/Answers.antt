use Rattle.std.proofs.Common.{◌≡◌, Err, ap, sym, subst}
use Rattle.std.specs.Result.{IsErrAnd}
use Rattle.blif_read.proofs.reader.read.Goals as goal

pub returns-in_err-numbers-clause-fault : goal.returns-in_err-numbers-clause-fault
returns-in_err-numbers-clause-fault c = λ line kind is.
    c.in_err-numbers.ensures.fault line kind
    (ap Err (sym (subst (λ r. IsErrAnd r (λ e. e ≡ c.in_err-numbers.field-0.0)) is c.from_residual.ensures.1)))
