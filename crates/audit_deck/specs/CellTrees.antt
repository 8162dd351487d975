-- The tree of a cell: its foot, and the other devices as links between the nets inside.
use Rattle.std.specs.Prelude.{List, Some, length, slice_get, ℕ, ◌≡◌, ◌≢◌}
use Rattle.dom_base.specs.declared.kind.Kind.TheVariants.{N as nch}
use Rattle.deck.specs.declared.device.Device.{Device}
use Rattle.deck.specs.declared.role.Roles.{Roles}
use Rattle.sp_network.specs.Tree.{Tree}
use Rattle.sp_reduction.specs.Networks.{Link, whole_height, whole_width}
use Rattle.link_reduce.specs.Parts.{numbers_of}
use Rattle.link_reduce.specs.declared.part.Ends.{Ends}
use Rattle.port_runs.specs.Periods.{vss_port}
use Rattle.deck_audit.specs.Rules.{HasTree}
use Rattle.deck_audit.specs.Words.{IsDevice, IsFree, Reached}
use Rattle.audit_deck.specs.Indexes.{AreThose, HasEnd}
use Rattle.audit_deck.specs.Numberings.{IsMet}
use Rattle.audit_deck.specs.Scans.{IsOnlyIn}
use Rattle.audit_deck.specs.Walks.{IsChannelAmong}
use Rattle.audit_deck.specs.declared.trees.Foot.{Foot}

-- the foot of a cell and the lower end of its tree, how wide and how high that is, and the places of its devices in order
pub record CellTreeData : Type 0 where
  pub foot : ℕ
  pub bottom : ℕ
  pub width : ℕ
  pub height : ℕ
  pub order : List ℕ

-- the nets and the devices that are reached from a net, no source, were met
pub record IsMetCell (ds : List Device) (roles : Roles) (x : ℕ) (nets places : List ℕ) : Type 0 where
  pub free : IsFree roles x
  pub reached : AreThose (Reached ds roles x) nets
  pub channels : AreThose (IsChannelAmong ds nets) places

-- a device at the place ends at a source
abbrev pub IsAtSource : List Device → Roles → ℕ → Type 0
IsAtSource ds roles p = (d : Device) × (slice_get ds p ≡ Some d) × (n : ℕ) × HasEnd d n × (IsFree roles n → ⊥)

-- of the devices at these places this one alone ends at a source; it ends at `vss`, the clock gates it, and its other end isn't the top
pub record IsFootAt (ds : List Device) (roles : Roles) (top clock : ℕ) (places : List ℕ) (f : Foot) : Type 0 where
  pub only : IsOnlyIn (IsAtSource ds roles) places f.place
  pub device : Device
  pub there : slice_get ds f.place ≡ Some device
  pub device_is : IsDevice device nch clock f.bottom vss_port
  pub apart : f.bottom ≢ top

-- the ends of a device, by the numbers of nets
pub record IsLocal (ds : List Device) (nets : List ℕ) (p : ℕ) (e : Ends) : Type 0 where
  pub device : Device
  pub there : slice_get ds p ≡ Some device
  pub from : slice_get nets e.from ≡ Some device.drain
  pub to : slice_get nets e.to ≡ Some device.source

pub record AreLocal (ds : List Device) (nets places : List ℕ) (links : List Ends) : Type 0 where
  pub count : length links ≡ length places
  pub each : (i p : ℕ) (e : Ends) → slice_get places i ≡ Some p → slice_get links i ≡ Some e → IsLocal ds nets p e

-- a device of the tree, both of whose ends are met
pub record HasBothMet (ds : List Device) (nets : List ℕ) (p : ℕ) : Type 0 where
  pub device : Device
  pub there : slice_get ds p ≡ Some device
  pub drain : IsMet nets device.drain
  pub source : IsMet nets device.source

-- the tree of a cell has this foot, width and height, and its devices in this order
pub record IsTreeAt (ds : List Device) (roles : Roles) (x clock : ℕ) (t : CellTreeData) : Type 0 where
  pub tree : Tree Link
  pub has_tree : HasTree ds roles x clock t.bottom tree
  pub foot_is : has_tree.foot ≡ t.foot
  pub width_is : whole_width tree ≡ t.width
  pub height_is : whole_height tree ≡ t.height
  pub order_is : numbers_of tree ≡ t.order
