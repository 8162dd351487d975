-- Probes: edges of nets that events are looked at for.
use Rattle.std.specs.Prelude.{ℕ, Bool, ◌≡◌, ◌≢◌, ◌↔◌, List, Option, None, Some, IsTrue, slice_index_or}
use Rattle.dom_base.specs.declared.tri.Tri.{Tri}
use Rattle.dom_base.specs.declared.tri.Tri.TheVariants.{One, Zero}
use Rattle.event_sim.specs.declared.event.Edge.{Edge}
use Rattle.event_sim.specs.declared.event.Edge.TheVariants.{Any, Fall, Rise}
use Rattle.event_sim.specs.declared.event.Event.{Event}
use Rattle.event_sim.specs.declared.probe.Probe.{Probe}

-- the edge's relation of an old and a new value: any change, a change to One, or a change to Zero
abbrev pub IsEdge : Edge → Tri → Tri → Type 0
IsEdge Any before after = before ≢ after
IsEdge Rise before after = (after ≡ One) × (before ≢ One)
IsEdge Fall before after = (after ≡ Zero) × (before ≢ Zero)

-- it may be called on every two values, and answers exactly whether the edge's relation holds of them
pub record AnswersEdge (pre : Tri → Tri → Type 0) (post : Tri → Tri → Bool → Type 0) (edge : Edge) : Type 0 where
  pub callable : (before after : Tri) → pre before after
  pub exact : (before after : Tri) (answer : Bool) → post before after answer → IsTrue answer ↔ IsEdge edge before after

-- a set of probes: the probe or nothing at each key from 0 on, and the key of the next probe
pub record ProbeMap (P : Type 0) : Type 0 where
  pub slots : List (Option (Probe P))
  pub next_key : ℕ

module _ {P : Type 0} where
  -- the probe under a key
  abbrev pub held : ProbeMap P → ℕ → Option (Probe P)
  held set key = slice_index_or set.slots key None

  -- the new set has this under the key, and under every other key what the old one has
  pub record Changes (old new : ProbeMap P) (key : ℕ) (slot : Option (Probe P)) : Type 0 where
    pub changed : held new key ≡ slot
    pub others : (other : ℕ) → other ≢ key → held new other ≡ held old other

  -- the probe has the event's net, and its edge's relation holds of the old and the new value
  pub record IsHit (probe : Probe P) (event : Event) : Type 0 where
    pub net : probe.net ≡ event.net
    pub edge : IsEdge probe.edge event.before event.after

  -- the event hits some probe of the set
  pub record Hits (set : ProbeMap P) (event : Event) : Type 0 where
    pub key : ℕ
    pub probe : Probe P
    pub is_held : held set key ≡ Some probe
    pub is_hit : IsHit probe event

  -- each probe of the set answers its own edge's relation
  abbrev pub AllAnswer : (P → Tri → Tri → Type 0) → (P → Tri → Tri → Bool → Type 0) → ProbeMap P → Type 0
  AllAnswer pre post set = (key : ℕ) (probe : Probe P) → held set key ≡ Some probe → AnswersEdge (pre probe.hit) (post probe.hit) probe.edge
