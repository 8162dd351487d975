-- The answers of a reader: what a text stands for, or the line and the kind of the fault that it is refused for.
use Rattle.std.specs.Prelude.{ℕ, ◌≡◌, ◌≤◌, ◌⊎◌}

-- the fault that is reported: at the first line that has one, and of the kind with the smallest number there
pub record IsFirstFault {Kind : Type 0} (number_of : Kind → ℕ) (IsFault : ℕ → Kind → Type 0) (line : ℕ) (kind : Kind) : Type 0 where
  pub fault : IsFault line kind
  pub first : (other : ℕ) (any : Kind) → IsFault other any → line ≤ other
  pub smallest : (other : Kind) → IsFault line other → number_of kind ≤ number_of other

-- the text stands for exactly this, and has no fault
pub record IsOnlyAnswer {Answer Kind : Type 0} (IsAnswer : Answer → Type 0) (IsFault : ℕ → Kind → Type 0) (answer : Answer) : Type 0 where
  pub is_answer : IsAnswer answer
  pub one_answer : (other : Answer) → IsAnswer other → other ≡ answer
  pub no_fault : (line : ℕ) (kind : Kind) → IsFault line kind → ⊥

-- the text is refused at exactly this line for exactly this kind, and stands for nothing
pub record IsOnlyRefusal {Answer Kind : Type 0} (IsAnswer : Answer → Type 0) (IsRefused : ℕ → Kind → Type 0) (line : ℕ) (kind : Kind)
    : Type 0 where
  pub is_refused : IsRefused line kind
  pub one_line : (other : ℕ) (any : Kind) → IsRefused other any → other ≡ line
  pub one_kind : (other : ℕ) (any : Kind) → IsRefused other any → any ≡ kind
  pub no_answer : (answer : Answer) → IsAnswer answer → ⊥

-- the text stands for exactly one thing and has no fault, or is refused for exactly one fault and stands for nothing;
-- never both, where each refusal is one of the faults
abbrev pub HasOneAnswer : {Answer Kind : Type 0} (IsAnswer : Answer → Type 0) (IsFault IsRefused : ℕ → Kind → Type 0) → Type 0
HasOneAnswer {Answer} {Kind} IsAnswer IsFault IsRefused =
    ((answer : Answer) × IsOnlyAnswer IsAnswer IsFault answer)
    ⊎ ((line : ℕ) × (kind : Kind) × IsOnlyRefusal IsAnswer IsRefused line kind)
