-- Four sorts of paths, the drives of the sources at their ends, and the target that these give.
use Rattle.std.specs.Prelude.{◌≡◌, ◌↔◌, ◌⊎◌, ℕ, Bool, true, false, if◌then◌else◌, List, Option, Some, None, Contains}
use Rattle.std.specs.List.{AllByRecursion}
use Rattle.dom_base.specs.declared.tri.Tri.{Tri}
use Rattle.dom_base.specs.declared.tri.Tri.TheVariants.{Unknown}
use Rattle.deck.specs.declared.device.Device.{Device}
use Rattle.deck.specs.Paths.{Path, Possible}
use Rattle.deck.specs.Switches.{value_of}
use Rattle.switch_model.specs.SourceDrives.{Drive, IsDrive, pull_of}
use Rattle.switch_model.specs.Targets.{IsTarget}
use Rattle.switch_model.specs.declared.sort.Sort.{Sort}
use Rattle.switch_model.specs.Joins.{AreJoined}
use Rattle.switch_model.specs.Walks.{PassesSort}

-- a source at the end of a path of this sort
abbrev pub IsEndOf : List Device → (ℕ → Bool) → List Tri → Sort → ℕ → ℕ → Type 0
IsEndOf devices is_source values sort net s =
    ((p : List Device) × Path is_source net p s × AllByRecursion (Contains devices) p × AllByRecursion (PassesSort sort values) p)
    × (is_source s ≡ true)

-- paths of this sort join two nets
abbrev pub JoinsBy : List Device → (ℕ → Bool) → List Tri → Sort → ℕ → ℕ → Type 0
JoinsBy devices is_source values sort a b =
    (p : List Device) × Path is_source a p b × AllByRecursion (Contains devices) p × AllByRecursion (PassesSort sort values) p

-- of some nets those have one top that paths of this sort join
pub record IsClass (devices : List Device) (is_source : ℕ → Bool) (values : List Tri) (sort : Sort) (nets parents : List ℕ) : Type 0 where
  pub to : (x y : ℕ) → Contains nets x → Contains nets y → AreJoined parents x y → (x ≡ y) ⊎ JoinsBy devices is_source values sort x y
  pub from : (x y : ℕ) → Contains nets x → JoinsBy devices is_source values sort x y → is_source y ≡ false
      → Contains nets y × AreJoined parents x y

-- the value that pulls, where one does, else the other
abbrev pub first_value : Option Tri → Tri → Tri
first_value (Some v) other = v
first_value None other = other

-- what strong paths pull to, else what paths of all devices pull to, else the own value where all joined nets have it
abbrev pub target_by : Drive → Drive → Drive → Drive → Bool → Tri → Tri
target_by strong_definite strong_possible definite possible alike own =
    first_value (pull_of strong_definite strong_possible) (first_value (pull_of definite possible) (if alike then own else Unknown))

-- the target by the drives of four sorts of paths: weak paths need no sort of their own, since they count only
-- where no strong one leads to a source
abbrev pub TargetsByDrives : Type 0
TargetsByDrives = (devices : List Device) (is_source : ℕ → Bool) (values : List Tri) (net : ℕ)
    (strong_definite strong_possible definite possible : Drive) (alike : Bool)
    → IsDrive (IsEndOf devices is_source values (record { definite = true; keepers = false }) net) values strong_definite
    → IsDrive (IsEndOf devices is_source values (record { definite = false; keepers = false }) net) values strong_possible
    → IsDrive (IsEndOf devices is_source values (record { definite = true; keepers = true }) net) values definite
    → IsDrive (IsEndOf devices is_source values (record { definite = false; keepers = true }) net) values possible
    → (alike ≡ true) ↔ ((n : ℕ) → Possible devices is_source values net n → is_source n ≡ false → value_of values n ≡ value_of values net)
    → IsTarget devices is_source values net (target_by strong_definite strong_possible definite possible alike (value_of values net))
