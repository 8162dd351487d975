-- The drives of four sorts of paths, and devices by which all sorts of paths join the same nets.
use Rattle.std.specs.Prelude.{◌≡◌, ◌≢◌, ◌↔◌, ◌||◌, ℕ, Bool, true, false, List, Option, Some, None, nat_eq}
use Rattle.std.specs.Int.{bit_at}
use Rattle.std.specs.Int.RustNames.{bit_and, bit_or}
use Rattle.dom_base.specs.Conduction.{conduction}
use Rattle.dom_base.specs.declared.kind.Kind.TheVariants.{Keep}
use Rattle.dom_base.specs.declared.tri.Tri.{Tri}
use Rattle.dom_base.specs.declared.tri.Tri.TheVariants.{One, Unknown, Zero}
use Rattle.deck.specs.declared.device.Device.{Device}
use Rattle.deck.specs.Switches.{value_of}
use Rattle.switch_model.specs.Drives.{first_value}
use Rattle.switch_model.specs.declared.drives.Drives.{Drives}
use Rattle.switch_model.specs.declared.sort.Sort.{Sort}

-- paths through devices that are on, or that are not off, with keepers or without
abbrev pub sort_of : Bool → Bool → Sort
sort_of definite keepers = record { definite = definite; keepers = keepers }

-- the value that a source must not have, so that a bit is set
abbrev pub side : Bool → Tri
side false = One
side true = Zero

-- the place of the bit of a sort of paths and of a side
abbrev pub place_of : Bool → Bool → Bool → ℕ
place_of true true false = 0
place_of true true true = 1
place_of false true false = 2
place_of false true true = 3
place_of true false false = 4
place_of true false true = 5
place_of false false false = 6
place_of false false true = 7

-- whether the bit of a sort of paths and of a side is set
abbrev pub has : ℕ → Bool → Bool → Bool → Bool
has bits definite keepers high = nat_eq (bit_at bits (place_of definite keepers high)) 1

abbrev pub tells : Drives → Bool → Bool → Bool → Bool
tells drives definite keepers high = has drives.bits definite keepers high

-- what drives tell of the sources at the ends of paths of a sort: whether one is not One, and whether one is not Zero
abbrev pub IsTold : Drives → Bool → Bool → (ℕ → Type 0) → List Tri → Type 0
IsTold drives definite keepers S values =
    (high : Bool) → (tells drives definite keepers high ≡ true) ↔ ((s : ℕ) × S s × (value_of values s ≢ side high))

abbrev pub no_drives : Drives
no_drives = record { bits = 0 }

-- of each sort of paths what the drives of this sort tell
abbrev pub drives_by : Drives → Drives → Drives → Drives → Drives
drives_by strong_definite strong_possible definite possible = record {
  bits =
      bit_or (bit_or (bit_and strong_definite.bits 48) (bit_and strong_possible.bits 192))
      (bit_or (bit_and definite.bits 3) (bit_and possible.bits 12));
}

-- what sources pull a net to, where a definite path leads to one, and possible ones to one that is not One, and to one that is not Zero
abbrev pub pull_where : Bool → Bool → Bool → Option Tri
pull_where definite false false = None
pull_where true true false = Some Zero
pull_where true false true = Some One
pull_where false true false = Some Unknown
pull_where false false true = Some Unknown
pull_where definite true true = Some Unknown

-- what sources pull a net to by strong paths, or by all
abbrev pub pull_by : Drives → Bool → Option Tri
pull_by drives keepers =
    pull_where (tells drives true keepers false || tells drives true keepers true)
    (tells drives false keepers false) (tells drives false keepers true)

-- what strong paths pull to, else what paths of all devices pull to, else the charge
abbrev pub target_by_drives : Drives → Tri → Tri
target_by_drives drives charge = first_value (pull_by drives false) (first_value (pull_by drives true) charge)

-- all sorts of paths between nets go through the device, or none: it is on or off, and where it joins two
-- nets and is not off it is no keeper
pub record IsPlain (is_source : ℕ → Bool) (values : List Tri) (d : Device) : Type 0 where
  pub known : conduction d.kind (value_of values d.gate) ≢ Unknown
  pub apart : d.kind ≡ Keep → conduction d.kind (value_of values d.gate) ≢ Zero → is_source d.drain ≡ false → is_source d.source ≢ false
