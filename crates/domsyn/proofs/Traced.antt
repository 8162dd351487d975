-- What holds of the answer of a command that has no fault of its own, as one of any command.
use Rattle.std.proofs.Common.{◌≡◌, Result, Ok, Err, IfOk, refl, sym, subst}
use Rattle.std.specs.Prelude.{IsErrOf}
use Rattle.trace_tool.specs.declared.fault.TraceFault.{TraceFault}
use Rattle.domsyn.specs.Traced.{traced}
use Rattle.command_answers.specs.declared.fault.Fault.{Fault}
use Rattle.command_answers.specs.declared.fault.Fault.TheVariants.{Traced}

pub traced_ok : {A : Type 0} (P : A → Type 0) (given : Result A TraceFault) (result : Result A Fault) → result ≡ traced given → IfOk given P → IfOk result P
traced_ok {A} P given result is h = subst (λ (r : Result A Fault). IfOk r P) (sym is) (by given h)
  where
    by : (r : Result A TraceFault) → IfOk r P → IfOk (traced r) P
    by (Ok answer) h = h
    by (Err fault) h = tt

pub traced_err : {A : Type 0} (given : Result A TraceFault) (result : Result A Fault) (why : Fault) → result ≡ traced given → IsErrOf result why
    → (fault : TraceFault) × IsErrOf given fault × (Traced fault ≡ why)
traced_err {A} given result why is e = by given (subst (λ (r : Result A Fault). IsErrOf r why) is e)
  where
    by : (r : Result A TraceFault) → IsErrOf (traced r) why → (fault : TraceFault) × IsErrOf r fault × (Traced fault ≡ why)
    by (Ok answer) e = absurd cc
    by (Err fault) e = (fault, refl, cc)
