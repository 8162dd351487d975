-- What is known of the values of some sources, and what they pull a net to.
use Rattle.std.specs.Prelude.{◌≡◌, ◌≢◌, ℕ, List, Option, Some, None}
use Rattle.dom_base.specs.declared.tri.Tri.{Tri}
use Rattle.dom_base.specs.declared.tri.Tri.TheVariants.{Unknown}
use Rattle.deck.specs.Switches.{value_of}

-- there is no source, all have one value, or two have different values
pub data Drive : Type 0 where
  Nothing : Drive
  Only : Tri → Drive
  Mixed : Drive

-- what is known of the values of some sources: there is none, all have one value, or two differ
abbrev pub IsDrive : (ℕ → Type 0) → List Tri → Drive → Type 0
IsDrive S values Nothing = (s : ℕ) → S s → ⊥
IsDrive S values (Only v) = ((s : ℕ) × S s × (value_of values s ≡ v)) × ((s : ℕ) → S s → value_of values s ≡ v)
IsDrive S values Mixed = (s : ℕ) × (t : ℕ) × S s × S t × (value_of values s ≢ value_of values t)

-- what sources pull a net to: nothing where no possible path leads to one; their value where it is one and
-- a definite path leads to one; else Unknown
abbrev pub pull_of : Drive → Drive → Option Tri
pull_of definite Nothing = None
pull_of Nothing (Only v) = Some Unknown
pull_of (Only u) (Only v) = Some v
pull_of Mixed (Only v) = Some v
pull_of definite Mixed = Some Unknown
