-- The target of a net, in six rules (Bryant, A switch-level model and simulator for MOS digital systems, 1984).
use Rattle.std.specs.Prelude.{◌≡◌, ◌≢◌, ℕ, ◌<◌, Bool, true, false, List, ◌⊎◌, length, slice_set}
use Rattle.dom_base.specs.declared.tri.Tri.{Tri}
use Rattle.dom_base.specs.declared.tri.Tri.TheVariants.{Unknown}
use Rattle.deck.specs.declared.device.Device.{Device}
use Rattle.deck.specs.Paths.{DefiniteStrong, DefiniteWeak, Possible, PossibleStrong, PossibleWeak}
use Rattle.deck.specs.Switches.{value_of}

-- a definite path leads to a source of value v, and no possible one to a source of another value
abbrev pub Pulls : (ℕ → Type 0) → (ℕ → Type 0) → (ℕ → Bool) → List Tri → Tri → Type 0
Pulls definite possible is_source values v =
    ((s : ℕ) × definite s × (is_source s ≡ true) × (value_of values s ≡ v))
    × ((s : ℕ) → possible s → is_source s ≡ true → value_of values s ≡ v)

-- a possible path leads to a source, and v is Unknown
abbrev pub Disputes : (ℕ → Type 0) → (ℕ → Bool) → Tri → Type 0
Disputes possible is_source v = ((s : ℕ) × possible s × (is_source s ≡ true)) × (v ≡ Unknown)

-- every net that a possible path joins to the net has its value, and v is that value
abbrev pub Holds : (ℕ → Type 0) → List Tri → ℕ → Tri → Type 0
Holds possible values net v = ((n : ℕ) → possible n → value_of values n ≡ value_of values net) × (v ≡ value_of values net)

-- the rule gives v, or the rule does not apply and the rest gives v
abbrev pub Else : (Tri → Type 0) → (Tri → Type 0) → Tri → Type 0
Else rule rest v = rule v ⊎ (((w : Tri) → rule w → ⊥) × rest v)

-- the rule gives at most one value
abbrev pub AtMostOne : (Tri → Type 0) → Type 0
AtMostOne R = (v w : Tri) → R v → R w → v ≡ w

-- v is the target of the net, over all paths of the devices: the first rule that applies gives it
abbrev pub IsTarget : List Device → (ℕ → Bool) → List Tri → ℕ → Tri → Type 0
IsTarget devices is_source values net =
    Else (Pulls (DefiniteStrong devices is_source values net) (PossibleStrong devices is_source values net) is_source values)
    (Else (Disputes (PossibleStrong devices is_source values net) is_source)
    (Else (Pulls (DefiniteWeak devices is_source values net) (PossibleWeak devices is_source values net) is_source values)
    (Else (Disputes (PossibleWeak devices is_source values net) is_source)
    (Else (Holds (Possible devices is_source values net) values net)
    (λ v. v ≡ Unknown)))))

-- the net is no source, and v is its target and differs from its value
abbrev pub IsPending : List Device → (ℕ → Bool) → List Tri → ℕ → Tri → Type 0
IsPending devices is_source values net v =
    (is_source net ≡ false) × IsTarget devices is_source values net v × (value_of values net ≢ v)

-- an event: one net that is no source and differs from its target takes it
abbrev pub EventAt : List Device → (ℕ → Bool) → ℕ → List Tri → List Tri → Type 0
EventAt devices is_source net before after =
    (v : Tri) × (net < length before) × IsPending devices is_source before net v × (after ≡ slice_set before net v)

-- no net is pending
abbrev pub IsAtRest : List Device → (ℕ → Bool) → List Tri → Type 0
IsAtRest devices is_source values = (net : ℕ) (v : Tri) → net < length values → IsPending devices is_source values net v → ⊥
