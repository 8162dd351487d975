-- Events in turn and how often nets have them (Bryant, A switch-level model and simulator for MOS digital systems, 1984).
use Rattle.std.specs.List.{AllByRecursion}
use Rattle.std.specs.Prelude.{Bool, Contains, List, [], ℕ, ◌+◌, ◌<◌, ◌∷◌, ◌≡◌, ◌≢◌, ◌≤◌}
use Rattle.dom_base.specs.declared.tri.Tri.{Tri}
use Rattle.deck.specs.declared.device.Device.{Device}
use Rattle.switch_model.specs.Targets.{EventAt}

-- the net gates a device
abbrev pub Gates : List Device → ℕ → Type 0
Gates devices n = (d : Device) × Contains devices d × (d.gate ≡ n)

-- events of these nets, one after another
abbrev pub Events : List Device → (ℕ → Bool) → List ℕ → List Tri → List Tri → Type 0
Events devices is_source [] before after = after ≡ before
Events devices is_source (n ∷ ns) before after =
    (mid : List Tri) × EventAt devices is_source n before mid × Events devices is_source ns mid after

-- no net twice
abbrev pub Distinct : List ℕ → Type 0
Distinct [] = Unit {0}
Distinct (n ∷ ns) = AllByRecursion (λ m. m ≢ n) ns × Distinct ns

-- one of so many numbers from the first on
abbrev pub IsBetween : ℕ → ℕ → ℕ → Type 0
IsBetween low n m = (low ≤ m) × (m < low + n)
