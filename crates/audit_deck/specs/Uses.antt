-- What rule 5 asks of a net, part by part.
use Rattle.std.specs.Prelude.{Contains, List, ℕ, ◌≡◌, ◌≢◌, ◌⊎◌}
use Rattle.deck.specs.declared.device.Device.{Device}
use Rattle.deck.specs.declared.role.Roles.{Roles}
use Rattle.switch_model.specs.Laws.{EndsAt}
use Rattle.deck_audit.specs.Rules.{HasTwoSources, IsLoose, IsSinkInput, IsSinkNet, KeepsUse}
use Rattle.deck_audit.specs.Words.{Group, IsGroup, IsInverterOutput, StandsAt}

-- no device ends at the net; it gates none
abbrev pub EndsNone : List Device → ℕ → Type 0
EndsNone ds n = (p : ℕ) (d : Device) → StandsAt ds p d → EndsAt d n → ⊥

abbrev pub GatesNone : List Device → ℕ → Type 0
GatesNone ds n = (p : ℕ) (d : Device) → StandsAt ds p d → d.gate ≢ n

-- the net inverts what a sink may invert
abbrev pub InvertsForSink : List Device → Roles → ℕ → Type 0
InvertsForSink ds roles n = (i : ℕ) × IsInverterOutput ds n i × IsSinkInput ds roles i

-- as the data of a latch the net gates devices of that latch alone
abbrev pub GatesItsLatch : List Device → Roles → ℕ → Type 0
GatesItsLatch ds roles n = (g : Group) (places : List ℕ) → IsGroup ds roles g places → g.data_net ≡ n
    → (p : ℕ) (d : Device) → StandsAt ds p d → d.gate ≡ n → Contains places p

-- a device at the place, or one with this drain, has two sources as ends
abbrev pub IsBridgeFrom : List Device → Roles → ℕ → ℕ → Type 0
IsBridgeFrom ds roles n p = (d : Device) × StandsAt ds p d × HasTwoSources roles d × (d.drain ≡ n)

abbrev pub HasBridge : List Device → Roles → ℕ → Type 0
HasBridge ds roles n = (p : ℕ) × IsBridgeFrom ds roles n p

-- rule 5 holds at the net, if it is one of which the rule speaks; and at each net
abbrev pub KeepsUseAt : List Device → Roles → ℕ → ℕ → Type 0
KeepsUseAt ds roles nets n = IsLoose ds roles nets n ⊎ IsSinkNet ds roles n → KeepsUse ds roles n

abbrev pub KeepsUses : List Device → Roles → ℕ → Type 0
KeepsUses ds roles nets = (n : ℕ) → KeepsUseAt ds roles nets n
