-- Marks of nets, which say what each net is in an audit: dynamic, a cell's output, inside a cell, a latch's own net, data or output, and
-- the complement of each net.
use Rattle.std.specs.Prelude.{All, Bool, List, None, Option, Some, false, length, slice_get, true, ℕ, ◌<◌, ◌≡◌, ◌⊎◌}
use Rattle.dom_base.specs.declared.kind.Kind.TheVariants.{Keep}
use Rattle.deck.specs.declared.device.Device.{Device}
use Rattle.deck.specs.declared.role.Roles.{Roles}
use Rattle.found_decks.specs.FoundDecks.{FoundLatch}
use Rattle.audit_deck.specs.Indexes.{HasEnd}
use Rattle.audit_deck.specs.Numberings.{IsMet}
use Rattle.audit_deck.specs.declared.marks.Marks.{Marks}
use Rattle.deck_audit.specs.Words.{IsCellOutput, IsComplement, IsDynamic, IsFree, IsLatchData, IsLatchNet, IsLatchOutput, Reached, StandsAt, own_nets}

-- a mark for each of so many nets says whether it has the property
pub record AreMarks (P : ℕ → Type 0) (nets : ℕ) (marks : List Bool) : Type 0 where
  pub count : length marks ≡ nets
  pub yes : (n : ℕ) → slice_get marks n ≡ Some true → P n
  pub no : (n : ℕ) → slice_get marks n ≡ Some false → P n → ⊥

-- the nets with the property are marked, beside those that were
pub record AddsMarks (P : ℕ → Type 0) (before after : List Bool) : Type 0 where
  pub room : length after ≡ length before
  pub kept : (n : ℕ) → slice_get before n ≡ Some true → slice_get after n ≡ Some true
  pub sound : (n : ℕ) → slice_get after n ≡ Some true → (slice_get before n ≡ Some true) ⊎ P n
  pub full : (n : ℕ) → P n → slice_get after n ≡ Some true

-- the net is one of a cell
abbrev pub IsInCell : List Device → Roles → ℕ → Type 0
IsInCell ds roles n = (x : ℕ) × IsDynamic ds roles x × Reached ds roles x n

-- the net is the complement of some input
abbrev pub IsSomeComplement : List Device → Roles → ℕ → Type 0
IsSomeComplement ds roles n = (i : ℕ) × IsComplement ds roles n i

-- this is the complement of the input, if it has one
abbrev pub IsComplementOf : List Device → Roles → ℕ → Option ℕ → Type 0
IsComplementOf ds roles input None = (n : ℕ) → IsComplement ds roles n input → ⊥
IsComplementOf ds roles input (Some n) = IsComplement ds roles n input

-- for each of so many nets its complement
pub record AreComplements (ds : List Device) (roles : Roles) (nets : ℕ) (complements : List (Option ℕ)) : Type 0 where
  pub count : length complements ≡ nets
  pub each : (i : ℕ) (o : Option ℕ) → slice_get complements i ≡ Some o → IsComplementOf ds roles i o

-- of latches: the net is one of their own nets, of their data nets, of their output nets
abbrev pub IsOwnOf : List FoundLatch → ℕ → Type 0
IsOwnOf groups n = (j : ℕ) × (l : FoundLatch) × (slice_get groups j ≡ Some l) × IsMet (own_nets l.group) n

abbrev pub IsDataOf : List FoundLatch → ℕ → Type 0
IsDataOf groups n = (j : ℕ) × (l : FoundLatch) × (slice_get groups j ≡ Some l) × (n ≡ (l.group).data_net)

abbrev pub IsOutputIn : List FoundLatch → ℕ → Type 0
IsOutputIn groups n = (j : ℕ) × (l : FoundLatch) × (slice_get groups j ≡ Some l) × (n ≡ (l.group).output)

-- its nets are among so many
pub record IsWithin (nets : ℕ) (l : FoundLatch) : Type 0 where
  pub data_net : (l.group).data_net < nets
  pub output : (l.group).output < nets
  pub own : All (λ n. n < nets) (own_nets l.group)

-- a keeper at a net that is no source stands at the place
abbrev pub HoldsDynamic : List Device → Roles → ℕ → Type 0
HoldsDynamic ds roles p = (d : Device) × StandsAt ds p d × (d.kind ≡ Keep) × (n : ℕ) × HasEnd d n × IsFree roles n

-- the marks of so many nets
pub record AreNetMarks (ds : List Device) (roles : Roles) (nets : ℕ) (m : Marks) : Type 0 where
  pub dynamic : AreMarks (IsDynamic ds roles) nets m.dynamic
  pub outputs : AreMarks (IsCellOutput ds roles) nets m.outputs
  pub inside : AreMarks (IsInCell ds roles) nets m.inside
  pub latch : AreMarks (IsLatchNet ds roles) nets m.latch
  pub latch_data : AreMarks (IsLatchData ds roles) nets m.latch_data
  pub latch_outputs : AreMarks (IsLatchOutput ds roles) nets m.latch_outputs
  pub complements : AreComplements ds roles nets m.complements
