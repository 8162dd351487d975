-- The latches of a circuit as groups of nine devices that rule 4 keeps.
use Rattle.std.specs.List.{AllByRecursion}
use Rattle.std.specs.Prelude.{Contains, List, Some, slice_get, ℕ, ◌∷◌, ◌≡◌}
use Rattle.deck.specs.declared.device.Device.{Device}
use Rattle.deck.specs.declared.role.Roles.{Roles}
use Rattle.switch_model.specs.Laws.{EndsAt}
use Rattle.deck_audit.specs.Rules.{HasLatch, IsAtControl}
use Rattle.found_decks.specs.FoundDecks.{FoundLatch}
use Rattle.deck_audit.specs.Words.{Group, IsGroup, IsInner, StandsAt, inner_nets, own_nets}

-- a group, of no ports, at whose own nets no other device ends, whose inner nets gate nothing and whose master gates it alone
pub record IsAlone (ds : List Device) (roles : Roles) (g : Group) (places : List ℕ) : Type 0 where
  pub is_group : IsGroup ds roles g places
  pub alone : (p : ℕ) (d : Device) (m : ℕ) → StandsAt ds p d → Contains (own_nets g) m → EndsAt d m → Contains places p
  pub inner_gate_none : (p : ℕ) (d : Device) → StandsAt ds p d → Contains (inner_nets g) d.gate → ⊥
  pub master_gates_own : (p : ℕ) (d : Device) → StandsAt ds p d → d.gate ≡ g.master → Contains places p
  pub no_ports : AllByRecursion (IsInner roles) (g.data_net ∷ own_nets g)

-- the list has those groups, each once
pub record AreGroups (ds : List Device) (roles : Roles) (groups : List FoundLatch) : Type 0 where
  pub sound : (j : ℕ) (l : FoundLatch) → slice_get groups j ≡ Some l → IsAlone ds roles l.group l.places
  pub full : (g : Group) (places : List ℕ) → IsAlone ds roles g places
      → (j : ℕ) × (slice_get groups j ≡ Some (record { group = g; places = places }))
  pub once : (i j : ℕ) (l : FoundLatch) → slice_get groups i ≡ Some l → slice_get groups j ≡ Some l → i ≡ j

-- rule 4 holds at each net
abbrev pub KeepsLatches : List Device → Roles → Type 0
KeepsLatches ds roles = (n : ℕ) → IsAtControl ds roles n → HasLatch ds roles n

-- the list has all groups of the circuit, each once
pub record AreAllGroups (ds : List Device) (roles : Roles) (groups : List FoundLatch) : Type 0 where
  pub sound : (j : ℕ) (l : FoundLatch) → slice_get groups j ≡ Some l → IsGroup ds roles l.group l.places
  pub full : (g : Group) (places : List ℕ) → IsGroup ds roles g places
      → (j : ℕ) × (slice_get groups j ≡ Some (record { group = g; places = places }))
  pub once : (i j : ℕ) (l : FoundLatch) → slice_get groups i ≡ Some l → slice_get groups j ≡ Some l → i ≡ j
