-- What the cells of a circuit read, as lists by net.
use Rattle.std.specs.Prelude.{List, Some, length, slice_get, ℕ, ◌<◌, ◌≡◌}
use Rattle.deck.specs.declared.device.Device.{Device}
use Rattle.deck.specs.declared.role.Roles.{Roles}
use Rattle.deck_audit.specs.Rules.{DependsOn, IsLeafNet, IsTreeDevice, Reads}
use Rattle.deck_audit.specs.Words.{IsDynamic, IsFree, IsOutputOf, IsReachedDevice, StandsAt}
use Rattle.audit_deck.specs.Indexes.{AreThose}
use Rattle.audit_deck.specs.Numberings.{IsMet}

-- a device that ends at no source stands at the place
abbrev pub IsInnerDevice : List Device → Roles → ℕ → Device → Type 0
IsInnerDevice ds roles p d = StandsAt ds p d × IsFree roles d.drain × IsFree roles d.source

-- what gates it is no leaf net; it is the output of this dynamic net
abbrev pub HasOtherGate : List Device → Roles → ℕ → Type 0
HasOtherGate ds roles p = (d : Device) × IsInnerDevice ds roles p d × (IsLeafNet ds roles d.gate → ⊥)

abbrev pub IsReadAt : List Device → Roles → ℕ → ℕ → Type 0
IsReadAt ds roles p y = (d : Device) × IsInnerDevice ds roles p d × IsDynamic ds roles y × IsOutputOf ds y d.gate

-- a device that is reached from the net stands at the place
abbrev pub IsReachedAt : List Device → Roles → ℕ → ℕ → Type 0
IsReachedAt ds roles x p = (d : Device) × StandsAt ds p d × IsReachedDevice ds roles x d

-- one of these devices has it so
abbrev pub SomeHasOtherGate : List Device → Roles → List ℕ → Type 0
SomeHasOtherGate ds roles places = (p : ℕ) × IsMet places p × HasOtherGate ds roles p

abbrev pub IsReadAmong : List Device → Roles → List ℕ → ℕ → Type 0
IsReadAmong ds roles places y = (p : ℕ) × IsMet places p × IsReadAt ds roles p y

-- a list has the numbers with a property
pub record HasThose (P : ℕ → Type 0) (numbers : List ℕ) : Type 0 where
  pub sound : (n : ℕ) → IsMet numbers n → P n
  pub full : (n : ℕ) → P n → IsMet numbers n

-- a gate of the cell's tree is no leaf net
abbrev pub HasOtherLeaf : List Device → Roles → ℕ → Type 0
HasOtherLeaf ds roles x =
    IsDynamic ds roles x × (p : ℕ) × (d : Device) × StandsAt ds p d × IsTreeDevice ds roles x d × (IsLeafNet ds roles d.gate → ⊥)

-- the net is dynamic and reads that one
abbrev pub IsReader : List Device → Roles → ℕ → ℕ → Type 0
IsReader ds roles x y = IsDynamic ds roles x × Reads ds roles x y

-- the cell depends on itself
abbrev pub IsOnLoop : List Device → Roles → ℕ → Type 0
IsOnLoop ds roles x = IsDynamic ds roles x × DependsOn ds roles x x

-- each net of a graph leads to those that it reads
pub record AreReads (ds : List Device) (roles : Roles) (nets : ℕ) (nodes : List (List ℕ)) : Type 0 where
  pub count : length nodes ≡ nets
  pub each : (x : ℕ) (next : List ℕ) → slice_get nodes x ≡ Some next → HasThose (IsReader ds roles x) next

-- the dynamic nets, each behind those that it reads
pub record IsCellOrder (ds : List Device) (roles : Roles) (order : List ℕ) : Type 0 where
  pub are : AreThose (IsDynamic ds roles) order
  pub earlier : (k x y : ℕ) → slice_get order k ≡ Some x → Reads ds roles x y → (j : ℕ) × (j < k) × (slice_get order j ≡ Some y)
