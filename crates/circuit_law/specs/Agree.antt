-- Values that agree where they decide which devices conduct and what sources give, and the rules of a target that speak of
-- paths to sources (Bryant, A switch-level model and simulator for MOS digital systems, 1984).
use Rattle.std.specs.Prelude.{Bool, Contains, List, true, ℕ, ◌≡◌}
use Rattle.dom_base.specs.declared.tri.Tri.{Tri}
use Rattle.deck.specs.Paths.{DefiniteStrong, DefiniteWeak, PossibleStrong, PossibleWeak}
use Rattle.deck.specs.Switches.{value_of}
use Rattle.deck.specs.declared.device.Device.{Device}
use Rattle.switch_model.specs.Targets.{Disputes, Else, Pulls}

-- the values agree at the gate of each device and at each source
pub record Agree (devices : List Device) (is_source : ℕ → Bool) (values values' : List Tri) : Type 0 where
  pub at_gates : (d : Device) → Contains devices d → value_of values' d.gate ≡ value_of values d.gate
  pub at_sources : (s : ℕ) → is_source s ≡ true → value_of values' s ≡ value_of values s

-- the first four rules, before a rest
abbrev pub ByPaths : List Device → (ℕ → Bool) → List Tri → ℕ → (Tri → Type 0) → Tri → Type 0
ByPaths devices is_source values net rest =
    Else (Pulls (DefiniteStrong devices is_source values net) (PossibleStrong devices is_source values net) is_source values)
    (Else (Disputes (PossibleStrong devices is_source values net) is_source)
    (Else (Pulls (DefiniteWeak devices is_source values net) (PossibleWeak devices is_source values net) is_source values)
    (Else (Disputes (PossibleWeak devices is_source values net) is_source) rest)))
