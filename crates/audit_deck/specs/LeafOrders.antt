-- The complements of a circuit in order of the leaves of their signals.
use Rattle.std.specs.Prelude.{List, None, Option, Some, [], slice_get, ℕ, ◌++◌, ◌<◌, ◌∷◌, ◌≡◌}
use Rattle.deck.specs.declared.role.Roles.{Roles}
use Rattle.domino_law.specs.Nets.{DeckSignal, leaf_of}
use Rattle.found_decks.specs.FoundDecks.{FoundLatch, IsSignalNet}

-- the list with one more at its end, if there is one
abbrev pub with_option : {X : Type 0} → List X → Option X → List X
with_option xs None = xs
with_option xs (Some x) = xs ++ x ∷ []

-- the list has the numbers at the places below a bound, by rising place
pub record AreByPlace (P : ℕ → ℕ → Type 0) (bound : ℕ) (numbers : List ℕ) : Type 0 where
  pub sound : (k n : ℕ) → slice_get numbers k ≡ Some n → (q : ℕ) × (q < bound) × P q n
  pub full : (q n : ℕ) → q < bound → P q n → (k : ℕ) × (slice_get numbers k ≡ Some n)
  pub rising : (i j m n : ℕ) → i < j → slice_get numbers i ≡ Some m → slice_get numbers j ≡ Some n
      → (p : ℕ) × (q : ℕ) × (p < q) × P p m × P q n

-- the table has the net for the net of the signal with this leaf
pub record IsOfLeaf (roles : Roles) (latches : List FoundLatch) (table : List (Option ℕ)) (leaf n : ℕ) : Type 0 where
  pub signal : DeckSignal
  pub input : ℕ
  pub leaf_is : leaf_of roles.pins signal ≡ leaf
  pub net_is : IsSignalNet roles latches signal input
  pub entry : slice_get table input ≡ Some (Some n)
