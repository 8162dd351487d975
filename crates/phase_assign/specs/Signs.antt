-- Signs of sinks: settled signs, and the signs that are chosen (Puri, Bjorksten, Rosser 1996).
use Rattle.std.specs.Prelude.{ℕ, ◌+◌, ◌≤◌, ◌<◌, ◌≡◌, ◌≢◌, ◌⊎◌, Bool, true, not, List, length, replicate, Some, slice_get, slice_index_or, slice_set}
use Rattle.gate_decompose.specs.GatesData.{GatesData}
use Rattle.gate_decompose.specs.GatesOrder.{AreOrderedGates}
use Rattle.gate_decompose.specs.Needed.{HasSize}

-- the signs with that of one sink changed
abbrev pub with_sign_changed : List Bool → ℕ → List Bool
with_sign_changed signs k = slice_set signs k (not (slice_index_or signs k true))

-- changing the sign of this sink lowers the number of needed pairs
abbrev pub Lowers : GatesData → List Bool → ℕ → Type 0
Lowers gates signs k =
    (before : ℕ) × (after : ℕ) × HasSize gates signs before × HasSize gates (with_sign_changed signs k) after × (after < before)

-- one sign per sink, none of whose changes lowers the number
pub record AreSettled (gates : GatesData) (signs : List Bool) : Type 0 where
  pub one_each : length signs ≡ length gates.sinks
  pub settled : (k : ℕ) → k < length gates.sinks → Lowers gates signs k → ⊥

-- the sign of one sink is changed where that lowers the number
abbrev pub IsTurnOf : GatesData → ℕ → List Bool → List Bool → Type 0
IsTurnOf gates k before after =
    (Lowers gates before k × (after ≡ with_sign_changed before k)) ⊎ ((Lowers gates before k → ⊥) × (after ≡ before))

-- a pass: the sinks are gone through in order; the list has the signs before the first sink and after each
pub record IsPassOf (gates : GatesData) (before after : List Bool) : Type 0 where
  pub each : List (List Bool)
  pub first : slice_get each 0 ≡ Some before
  pub last : slice_get each (length gates.sinks) ≡ Some after
  pub turns : (k : ℕ) (from to : List Bool) → slice_get each k ≡ Some from → slice_get each (k + 1) ≡ Some to
      → IsTurnOf gates k from to
  pub count : length each ≡ length gates.sinks + 1

-- the chosen signs: the first that a pass leaves unchanged, among all plus, its pass, the pass of that, and so on
pub record AreChosen (gates : GatesData) (signs : List Bool) : Type 0 where
  pub passes : List (List Bool)
  -- the place of the chosen signs
  pub end : ℕ
  pub count : length passes ≡ end + 1
  pub first : slice_get passes 0 ≡ Some (replicate (length gates.sinks) true)
  pub chosen : slice_get passes end ≡ Some signs
  pub next : (i : ℕ) (from to : List Bool) → slice_get passes i ≡ Some from → slice_get passes (i + 1) ≡ Some to
      → IsPassOf gates from to × (from ≢ to)
  pub unchanged : IsPassOf gates signs signs

-- there are chosen signs
abbrev pub ChosenSignsAreThere : Type 0
ChosenSignsAreThere = (gates : GatesData) → AreOrderedGates gates → (signs : List Bool) × AreChosen gates signs

-- they are one list
abbrev pub ChosenSignsAreOne : Type 0
ChosenSignsAreOne = (gates : GatesData) (a b : List Bool) → AreChosen gates a → AreChosen gates b → a ≡ b

-- no change of one of them lowers the number of needed pairs
abbrev pub ChosenSignsAreSettled : Type 0
ChosenSignsAreSettled =
    (gates : GatesData) (signs : List Bool) → AreOrderedGates gates → AreChosen gates signs → AreSettled gates signs

-- and they need no more than all plus
abbrev pub ChosenSignsAreNoWorse : Type 0
ChosenSignsAreNoWorse =
    (gates : GatesData) (signs : List Bool) (m n : ℕ) → AreOrderedGates gates → AreChosen gates signs
    → HasSize gates signs m → HasSize gates (replicate (length gates.sinks) true) n → m ≤ n
