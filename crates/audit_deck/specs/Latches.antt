-- The parts of a latch: the branches of its two clocked inverters, and its reset.
use Rattle.std.specs.List.{AllByRecursion}
use Rattle.std.specs.Prelude.{Bool, Contains, List, None, Option, Some, drop, false, length, slice_get, slice_index_or, true, ℕ, ◌+◌, ◌<◌, ◌≡◌, ◌≤◌}
use Rattle.dom_base.specs.declared.kind.Kind.{Kind}
use Rattle.dom_base.specs.declared.kind.Kind.TheVariants.{N as nch, P as pch}
use Rattle.deck.specs.PortLayout.{master_pair, reset_pair, slave_pair}
use Rattle.deck.specs.declared.device.Device.{Device}
use Rattle.deck.specs.declared.role.Roles.{Roles}
use Rattle.switch_model.specs.Laws.{EndsAt}
use Rattle.circuit_law.specs.Counts.{Distinct}
use Rattle.port_runs.specs.Periods.{vdd_port, vss_port}
use Rattle.deck_audit.specs.Words.{IsControl, IsDevice, IsFree, IsInner, StandsAt, own_nets}
use Rattle.audit_deck.specs.Groups.{IsAlone}
use Rattle.found_decks.specs.FoundDecks.{FoundLatch}
use Rattle.audit_deck.specs.declared.branches.Branch.{Branch}
use Rattle.audit_deck.specs.declared.branches.Reset.{Reset}
use Rattle.audit_deck.specs.declared.latches.LatchParts.{LatchParts}

-- the gate is the one that is wanted, or any that is no source
abbrev pub IsWanted : Roles → Option ℕ → ℕ → Type 0
IsWanted roles (Some wanted) gate = gate ≡ wanted
IsWanted roles None gate = IsFree roles gate

-- a device of the kind with such a gate stands at the place
abbrev pub Suits : List Device → Roles → Kind → Option ℕ → ℕ → Type 0
Suits ds roles kind wanted p = (d : Device) × (slice_get ds p ≡ Some d) × (d.kind ≡ kind) × IsWanted roles wanted d.gate

-- it ends at the net too
abbrev pub SuitsAt : List Device → Roles → ℕ → Kind → Option ℕ → ℕ → Type 0
SuitsAt ds roles n kind wanted p = (d : Device) × (slice_get ds p ≡ Some d) × EndsAt d n × (d.kind ≡ kind) × IsWanted roles wanted d.gate

-- all devices that end at the net stand at these places
abbrev pub Covers : List Device → List ℕ → ℕ → Type 0
Covers ds places n = (p : ℕ) (d : Device) → StandsAt ds p d → EndsAt d n → Contains places p

-- no more devices end at the net than a latch has
abbrev pub HasFew : List Device → ℕ → Type 0
HasFew ds n = (places : List ℕ) × (length places ≤ 9) × Covers ds places n

-- from the output of a clocked inverter a device that the clock gates leads to an inner net, and one that the input gates to the supply
pub record IsBranchAt (ds : List Device) (roles : Roles) (n : ℕ) (kind : Kind) (clock supply : ℕ) (b : Branch) : Type 0 where
  pub clocked : Device
  pub clocked_there : StandsAt ds b.clocked clocked
  pub clocked_is : IsDevice clocked kind clock n b.inner
  pub fed : Device
  pub fed_there : StandsAt ds b.fed fed
  pub fed_is : IsDevice fed kind b.input b.inner supply
  pub input_free : IsFree roles b.input

-- no other device of the kind ends at the output with the clock, or at the inner net with a gate that is no source
pub record IsOnlyBranch (ds : List Device) (roles : Roles) (n : ℕ) (kind : Kind) (clock supply : ℕ) (b : Branch) : Type 0 where
  pub branch : IsBranchAt ds roles n kind clock supply b
  pub few : HasFew ds b.inner
  pub one_clocked : (p : ℕ) (d : Device) → StandsAt ds p d → EndsAt d n → d.kind ≡ kind → d.gate ≡ clock → p ≡ b.clocked
  pub one_fed : (p : ℕ) (d : Device) → StandsAt ds p d → EndsAt d b.inner → d.kind ≡ kind → IsFree roles d.gate → p ≡ b.fed

-- the device resets the net to the start value
abbrev pub IsResetDevice : Roles → ℕ → Bool → Device → Type 0
IsResetDevice roles n false d = IsDevice d nch (reset_pair roles) n vss_port
IsResetDevice roles n true d = IsDevice d pch (reset_pair roles + 1) n vdd_port

abbrev pub IsResetAt : List Device → Roles → ℕ → Reset → Type 0
IsResetAt ds roles n r = (d : Device) × StandsAt ds r.place d × IsResetDevice roles n r.start d

pub record IsOnlyReset (ds : List Device) (roles : Roles) (n : ℕ) (r : Reset) : Type 0 where
  pub reset : IsResetAt ds roles n r
  pub one_low : (p : ℕ) (d : Device) → StandsAt ds p d → EndsAt d n → d.kind ≡ nch → d.gate ≡ reset_pair roles
      → (p ≡ r.place) × (r.start ≡ false)
  pub one_high : (p : ℕ) (d : Device) → StandsAt ds p d → EndsAt d n → d.kind ≡ pch → d.gate ≡ reset_pair roles + 1
      → (p ≡ r.place) × (r.start ≡ true)

-- two clocked inverters, each with one input, and a reset of the second's output
pub record AreParts (ds : List Device) (roles : Roles) (n : ℕ) (l : LatchParts) : Type 0 where
  pub output_up : IsBranchAt ds roles n pch (slave_pair roles + 1) vdd_port l.output_up
  pub output_down : IsBranchAt ds roles n nch (slave_pair roles) vss_port l.output_down
  pub output_input : l.output_down.input ≡ l.output_up.input
  pub master_up : IsBranchAt ds roles l.output_up.input pch (master_pair roles + 1) vdd_port l.master_up
  pub master_down : IsBranchAt ds roles l.output_up.input nch (master_pair roles) vss_port l.master_down
  pub master_input : l.master_down.input ≡ l.master_up.input
  pub reset : IsResetAt ds roles n l.reset

-- the net gates nothing
abbrev pub GatesNone : List Device → ℕ → Type 0
GatesNone ds n = (p : ℕ) (d : Device) → StandsAt ds p d → d.gate ≡ n → ⊥

-- nets of a group, its data first and its master second, and no others meet its devices
pub record StandsAlone (ds : List Device) (roles : Roles) (nets places : List ℕ) : Type 0 where
  pub differ : Distinct nets
  pub no_ports : AllByRecursion (IsInner roles) nets
  pub covered : AllByRecursion (Covers ds places) (drop 1 nets)
  pub gate_none : AllByRecursion (GatesNone ds) (drop 3 nets)
  pub own : (p : ℕ) (d : Device) → StandsAt ds p d → d.gate ≡ slice_index_or nets 1 0 → Contains places p

-- no latch has this output
abbrev pub HasNoLatch : List Device → Roles → ℕ → Type 0
HasNoLatch ds roles n = (l : FoundLatch) → IsAlone ds roles l.group l.places → l.group.output ≡ n → ⊥

-- the latch of an output
abbrev pub IsLatchAt : List Device → Roles → ℕ → FoundLatch → Type 0
IsLatchAt ds roles n l = IsAlone ds roles l.group l.places × (l.group.output ≡ n)

-- the list has the latches whose outputs are below the bound
pub record AreGroupsBelow (ds : List Device) (roles : Roles) (bound : ℕ) (groups : List FoundLatch) : Type 0 where
  pub sound : (j : ℕ) (l : FoundLatch) → slice_get groups j ≡ Some l → IsAlone ds roles l.group l.places × (l.group.output < bound)
  pub full : (l : FoundLatch) → IsAlone ds roles l.group l.places → l.group.output < bound → (j : ℕ) × (slice_get groups j ≡ Some l)
  pub once : (i j : ℕ) (l : FoundLatch) → slice_get groups i ≡ Some l → slice_get groups j ≡ Some l → i ≡ j

-- a device at the place has a clock or reset of latches as gate
abbrev pub HasControl : List Device → Roles → ℕ → Type 0
HasControl ds roles p = (d : Device) × StandsAt ds p d × IsControl roles d.gate

-- the net is one of a latch of the list
abbrev pub IsOfLatches : List FoundLatch → ℕ → Type 0
IsOfLatches groups n = (j : ℕ) × (l : FoundLatch) × (slice_get groups j ≡ Some l) × Contains (own_nets l.group) n
