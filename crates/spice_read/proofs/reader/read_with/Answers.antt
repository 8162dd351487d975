use Rattle.std.proofs.Common.{sym, ap, Err}
use Rattle.std.proofs.lemmas.Result.{IfOk-weaker}
use Rattle.spice_read.proofs.AnsweredFaults.{handed_on}
use Rattle.spice_read.proofs.reader.read_with.Goals as goal

pub returns-in_err-cards-clause-fault : goal.returns-in_err-cards-clause-fault
returns-in_err-cards-clause-fault c = λ line kind is.
    c.in_err-cards.ensures.fault line kind (ap Err (sym (handed_on c.from_residual.result _ _ c.from_residual.ensures.1 is)))

pub returns-clause-circuit : goal.returns-clause-circuit
returns-clause-circuit c = IfOk-weaker c.finish.result _ _ (λ circuit f. c.in_ok-cards.ensures.read.circuit circuit f) c.finish.ensures.circuit

pub returns-clause-fault : goal.returns-clause-fault
returns-clause-fault c = λ line kind is.
    let at_end = c.finish.ensures.fault line kind is in
    c.in_ok-cards.ensures.read.fault line kind at_end.0 at_end.1
