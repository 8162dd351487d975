-- What a search for the first fault of a kind reports: its line and its name, or that there is none.
use Rattle.std.specs.Prelude.{ℕ, ◌≡◌, List, take, Option, Some, None, slice_get}
use Rattle.model_calls.specs.declared.first_fault.FirstFault.{FirstFault}
use Rattle.model_calls.specs.Refusals.{IsReported}

-- this holds of no element of a list, by the elements before it
abbrev pub NoneHolds : {Element : Type 0} → (List Element → Element → Type 0) → List Element → Type 0
NoneHolds {Element} Holds all = (k : ℕ) (e : Element) → slice_get all k ≡ Some e → Holds (take k all) e → ⊥

-- the first element of a list of which this holds, by its line and its name, or none where it holds of none
abbrev pub IsFirstFaultIn : {Element : Type 0} → (List Element → Element → Type 0) → List Element → (Element → ℕ) → (Element → List ℕ)
    → Option FirstFault → Type 0
IsFirstFaultIn Holds all line_of name_of None = NoneHolds Holds all
IsFirstFaultIn Holds all line_of name_of (Some r) = IsReported Holds all line_of name_of r.line r.name
