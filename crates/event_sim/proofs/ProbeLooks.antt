-- Probes looked at one after the other.
use Rattle.std.proofs.Common.{◌≡◌, ℕ, ◌<◌, Some}
use Rattle.event_sim.specs.Probes.{IsHit, ProbeMap, held}
use Rattle.event_sim.specs.declared.event.Event.{Event}
use Rattle.event_sim.specs.declared.probe.Probe.{Probe}

-- no probe under a key below this one is hit
abbrev pub NoHitBelow : {P : Type 0} → ProbeMap P → Event → ℕ → Type 0
NoHitBelow {P} set event key = (other : ℕ) (probe : Probe P) → other < key → held set other ≡ Some probe → IsHit probe event → ⊥
