-- A fault that a call answers: its line and its kind.
use Rattle.std.proofs.Common.{◌≡◌, ℕ, Result, Err, sym, ap, ◌∙◌, subst, Option, Some}
use Rattle.std.specs.Prelude.{IsErrAnd, IsErrOf}
use Rattle.deck.specs.declared.fault.DeckKind.{DeckKind}
use Rattle.deck.specs.declared.fault.DeckKind.TheVariants.{NoSubckt}
use Rattle.spice_read.specs.declared.faults.DeckFault.{DeckFault}
use Rattle.spice_read.specs.declared.faults.DeckFault.TheVariants.{At}

abbrev line_given : DeckFault → ℕ
line_given (At n k) = n
line_given _ = 0

abbrev kind_of_fault : DeckFault → DeckKind
kind_of_fault (At n k) = k
kind_of_fault _ = NoSubckt

abbrev line_of : {T : Type 0} → Result T DeckFault → ℕ
line_of (Err f) = line_given f
line_of _ = 0

abbrev kind_given : {T : Type 0} → Result T DeckFault → DeckKind
kind_given (Err f) = kind_of_fault f
kind_given _ = NoSubckt

-- a card's fault of this kind was answered
pub answered : {T : Type 0} (fault : DeckFault) (number line : ℕ) (kind any : DeckKind) (found : Option DeckKind) → fault ≡ At number kind → found ≡ Some kind
    → IsErrOf {T = T} (Err fault) (At line any) → (line ≡ number) × (found ≡ Some any)
answered {T = T} fault number line kind any found fault_is found_is is =
    (sym (ap line_of is) ∙ ap (λ (f : DeckFault). line_given f) fault_is, found_is ∙ ap (λ k. Some k) (sym (ap (λ (f : DeckFault). kind_of_fault f) fault_is) ∙ ap kind_given is))

-- an error that `?` hands on
pub handed_on : {T E : Type 0} (result : Result T E) (Q : E → Type 0) (error : E) → IsErrAnd result Q → IsErrOf result error → Q error
handed_on result Q error holds is = subst (λ r. IsErrAnd r Q) is holds
