-- Paths of devices between nets, possible or definite, strong or weak, as in the switch-level model of Bryant.
use Rattle.std.specs.Prelude.{◌≡◌, ℕ, Bool, false, List, [], ◌∷◌, ◌⊎◌, Contains}
use Rattle.std.specs.List.{AllByRecursion}
use Rattle.dom_base.specs.declared.kind.Kind.TheVariants.{Keep}
use Rattle.dom_base.specs.declared.tri.Tri.{Tri}
use Rattle.deck.specs.declared.device.Device.{Device}
use Rattle.deck.specs.Switches.{IsOn, IsNotOff}

-- a and b are the two ends of the device's channel
abbrev pub Ends : Device → ℕ → ℕ → Type 0
Ends d a b = ((d.drain ≡ a) × (d.source ≡ b)) ⊎ ((d.source ≡ a) × (d.drain ≡ b))

-- the devices of the list join the first net to the last, end to end, with no source net inside
pub data Path (is_source : ℕ → Bool) : ℕ → List Device → ℕ → Type 0 where
  -- one device joins its two ends
  one : {d : Device} {a b : ℕ} → Ends d a b → Path is_source a (d ∷ []) b
  -- a device to a net that is no source, and a path from there
  more : {d : Device} {ds : List Device} {a m b : ℕ}
      → Ends d a m → is_source m ≡ false → Path is_source m ds b → Path is_source a (d ∷ ds) b

-- one of the devices is a keeper
abbrev pub IsWeak : List Device → Type 0
IsWeak [] = ⊥
IsWeak (d ∷ ds) = (d.kind ≡ Keep) ⊎ IsWeak ds

-- none of the devices is a keeper
abbrev pub IsStrong : List Device → Type 0
IsStrong ds = IsWeak ds → ⊥

-- a path of the circuit's devices joins a to b, and none of its devices is off
abbrev pub Possible : List Device → (ℕ → Bool) → List Tri → ℕ → ℕ → Type 0
Possible devices is_source values a b =
    (p : List Device) × Path is_source a p b × AllByRecursion (Contains devices) p × AllByRecursion (IsNotOff values) p

-- none of the path's devices is off, and none is a keeper
abbrev pub PossibleStrong : List Device → (ℕ → Bool) → List Tri → ℕ → ℕ → Type 0
PossibleStrong devices is_source values a b =
    (p : List Device) × Path is_source a p b × AllByRecursion (Contains devices) p × AllByRecursion (IsNotOff values) p × IsStrong p

-- all of the path's devices are on, and none is a keeper
abbrev pub DefiniteStrong : List Device → (ℕ → Bool) → List Tri → ℕ → ℕ → Type 0
DefiniteStrong devices is_source values a b =
    (p : List Device) × Path is_source a p b × AllByRecursion (Contains devices) p × AllByRecursion (IsOn values) p × IsStrong p

-- none of the path's devices is off, and one is a keeper
abbrev pub PossibleWeak : List Device → (ℕ → Bool) → List Tri → ℕ → ℕ → Type 0
PossibleWeak devices is_source values a b =
    (p : List Device) × Path is_source a p b × AllByRecursion (Contains devices) p × AllByRecursion (IsNotOff values) p × IsWeak p

-- all of the path's devices are on, and one is a keeper
abbrev pub DefiniteWeak : List Device → (ℕ → Bool) → List Tri → ℕ → ℕ → Type 0
DefiniteWeak devices is_source values a b =
    (p : List Device) × Path is_source a p b × AllByRecursion (Contains devices) p × AllByRecursion (IsOn values) p × IsWeak p
