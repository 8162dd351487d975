-- Where no fault of its models refuses a file, no element of it has one.
use Rattle.std.proofs.Common.{◌≡◌, ℕ, zero, suc, ◌<◌, ◌+◌, List, take, Some, refl, arith}
use Rattle.std.specs.Prelude.{slice_get}
use Rattle.blif_ast.specs.BlifFileData.{BlifFileData}
use Rattle.model_calls.specs.declared.fault.FlatKind.TheVariants.{BadFormal, DuplicateModel, DuplicatePort, Recursion, UnknownModel}
use Rattle.model_calls.specs.FirstFaults.{NoneHolds}
use Rattle.model_calls.specs.ModelCalls.{NothingRefuses}
use Rattle.model_calls.specs.ModelFaults.{IsBadFormal, IsDuplicateModel, IsDuplicatePort, IsRecursion, IsUnknownModel, formals, line_of_formal, name_of_formal, ports, uses}
use Rattle.model_calls.specs.Refusals.{IsReported}

-- what has no first element that it holds of holds of none
module _ {Element : Type 0} (Holds : List Element → Element → Type 0) (all : List Element) (line_of : Element → ℕ) (name_of : Element → List ℕ)
    (none : (line : ℕ) (name : List ℕ) → IsReported Holds all line_of name_of line name → ⊥) where
  below : (n k : ℕ) (e : Element) → k < n → slice_get all k ≡ Some e → Holds (take k all) e → ⊥
  below zero k e l there holds = omega (arith, l)
  below (suc n) k e l there holds = none (line_of e) (name_of e) (record {
    element = e;
    first = record {
      index = k;
      there = there;
      holds = holds;
      none_before = λ j other less at bad. below n j other (omega (arith, l, less)) at bad;
    };
    line_is = refl;
    name_is = refl;
  })

  pub none_holds : NoneHolds Holds all
  none_holds k e there holds = below (k + 1) k e (omega arith) there holds

module _ (f : BlifFileData) (accepted : NothingRefuses f 5) where
  pub no_model_twice : NoneHolds IsDuplicateModel f.models
  no_model_twice = none_holds IsDuplicateModel f.models (λ m. m.line) (λ m. m.name) (λ line name r. accepted DuplicateModel line name (omega arith) r)

  pub no_port_twice : NoneHolds IsDuplicatePort (ports f)
  no_port_twice = none_holds IsDuplicatePort (ports f) (λ p. p.line) (λ p. p.name) (λ line name r. accepted DuplicatePort line name (omega arith) r)

  pub no_unknown_model : NoneHolds (IsUnknownModel f) (uses f)
  no_unknown_model = none_holds (IsUnknownModel f) (uses f) (λ u. u.instance.line) (λ u. u.instance.unit) (λ line name r. accepted UnknownModel line name (omega arith) r)

  pub no_bad_formal : NoneHolds IsBadFormal (formals f)
  no_bad_formal = none_holds IsBadFormal (formals f) line_of_formal name_of_formal (λ line name r. accepted BadFormal line name (omega arith) r)

  pub no_recursion : NoneHolds (IsRecursion f) (uses f)
  no_recursion = none_holds (IsRecursion f) (uses f) (λ u. u.instance.line) (λ u. u.instance.unit) (λ line name r. accepted Recursion line name (omega arith) r)
