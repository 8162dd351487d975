-- While no net that gates a device has an event, each net has at most one event.
use Rattle.std.specs.List.{AllByRecursion}
use Rattle.std.specs.Prelude.{◌≢◌}
use Rattle.std.proofs.Common.{Bool, List, [], inl, inr, sym, ℕ, ◌∙◌, ◌∷◌, ◌≡◌}
use Rattle.std.proofs.lemmas.List.{get_or-set_other, get_or-set_same}
use Rattle.dom_base.specs.declared.tri.Tri.{Tri}
use Rattle.dom_base.specs.declared.tri.Tri.TheVariants.{Unknown}
use Rattle.deck.specs.Paths.{DefiniteStrong, DefiniteWeak, Possible, PossibleStrong, PossibleWeak}
use Rattle.deck.specs.Switches.{value_of}
use Rattle.deck.specs.declared.device.Device.{Device}
use Rattle.switch_model.specs.Targets.{Disputes, Else, EventAt, Holds, IsPending, Pulls, AtMostOne}
use Rattle.switch_model.proofs.Targets.{Disputes-at_most_one, Pulls-at_most_one, definite-possible_strong, definite-possible_weak}
use Rattle.circuit_law.specs.Counts.{Distinct, Events, Gates}
use Rattle.circuit_law.specs.Agree.{Agree, ByPaths}
use Rattle.circuit_law.proofs.Agree.{ByPaths-same}

-- two rests that agree
Else-joint : (R S S' : Tri → Type 0) (v w : Tri) → AtMostOne R → (S v → S' w → v ≡ w) → Else R S v → Else R S' w → v ≡ w
Else-joint R S S' v w f g (inl a) (inl b) = f v w a b
Else-joint R S S' v w f g (inl a) (inr b) = absurd (b.0 v a)
Else-joint R S S' v w f g (inr a) (inl b) = absurd (a.0 w b)
Else-joint R S S' v w f g (inr a) (inr b) = g a.1 b.1

Else-here : (R S S' : Tri → Type 0) (v : Tri) → (S v → S' v) → Else R S v → Else R S' v
Else-here R S S' v f (inl a) = inl a
Else-here R S S' v f (inr a) = inr (a.0, f a.1)

four-joint : (A B C D S S' : Tri → Type 0) (v w : Tri) → AtMostOne A → AtMostOne B → AtMostOne C → AtMostOne D → (S v → S' w → v ≡ w)
    → Else A (Else B (Else C (Else D S))) v → Else A (Else B (Else C (Else D S'))) w → v ≡ w
four-joint A B C D S S' v w a b c d f =
    Else-joint A (Else B (Else C (Else D S))) (Else B (Else C (Else D S'))) v w a
    (Else-joint B (Else C (Else D S)) (Else C (Else D S')) v w b
    (Else-joint C (Else D S) (Else D S') v w c (Else-joint D S S' v w d f)))

four-here : (A B C D S S' : Tri → Type 0) (v : Tri) → (S v → S' v) → Else A (Else B (Else C (Else D S))) v → Else A (Else B (Else C (Else D S'))) v
four-here A B C D S S' v f =
    Else-here A (Else B (Else C (Else D S))) (Else B (Else C (Else D S'))) v
    (Else-here B (Else C (Else D S)) (Else C (Else D S')) v
    (Else-here C (Else D S) (Else D S') v (Else-here D S S' v f)))

module _ (devices : List Device) (is_source : ℕ → Bool) (values : List Tri) (net : ℕ) where
  abbrev Rule_1 : Tri → Type 0
  Rule_1 = Pulls (DefiniteStrong devices is_source values net) (PossibleStrong devices is_source values net) is_source values

  abbrev Rule_2 : Tri → Type 0
  Rule_2 = Disputes (PossibleStrong devices is_source values net) is_source

  abbrev Rule_3 : Tri → Type 0
  Rule_3 = Pulls (DefiniteWeak devices is_source values net) (PossibleWeak devices is_source values net) is_source values

  abbrev Rule_4 : Tri → Type 0
  Rule_4 = Disputes (PossibleWeak devices is_source values net) is_source

  ByPaths-joint : (S S' : Tri → Type 0) (v w : Tri) → (S v → S' w → v ≡ w) → ByPaths devices is_source values net S v → ByPaths devices is_source values net S' w → v ≡ w
  ByPaths-joint S S' v w f =
      four-joint Rule_1 Rule_2 Rule_3 Rule_4 S S' v w
      (Pulls-at_most_one (DefiniteStrong devices is_source values net) (PossibleStrong devices is_source values net) is_source values (definite-possible_strong devices is_source values net))
      (Disputes-at_most_one (PossibleStrong devices is_source values net) is_source)
      (Pulls-at_most_one (DefiniteWeak devices is_source values net) (PossibleWeak devices is_source values net) is_source values (definite-possible_weak devices is_source values net))
      (Disputes-at_most_one (PossibleWeak devices is_source values net) is_source) f

  ByPaths-here : (S S' : Tri → Type 0) (v : Tri) → (S v → S' v) → ByPaths devices is_source values net S v → ByPaths devices is_source values net S' v
  ByPaths-here S S' v f = four-here Rule_1 Rule_2 Rule_3 Rule_4 S S' v f

-- its value is the one that the first four rules give, or Unknown where they give none
abbrev IsDone : List Device → (ℕ → Bool) → List Tri → ℕ → Type 0
IsDone devices is_source values net = ByPaths devices is_source values net (λ w. w ≡ Unknown) (value_of values net)

done_rests : (devices : List Device) (is_source : ℕ → Bool) (values : List Tri) (net : ℕ) (v : Tri) → IsDone devices is_source values net → IsPending devices is_source values net v → ⊥
done_rests devices is_source values net v d p =
    p.2 (ByPaths-joint devices is_source values net (λ w. w ≡ Unknown) (Else (Holds (Possible devices is_source values net) values net) (λ w. w ≡ Unknown)) (value_of values net) v
    (λ a b. elim b [ inl h ↦ sym h.1 | inr h ↦ a ∙ sym h.1 ]) d p.1)

quiet_agrees : (devices : List Device) (is_source : ℕ → Bool) (net : ℕ) (before after : List Tri) → EventAt devices is_source net before after → (Gates devices net → ⊥) → Agree devices is_source before after
quiet_agrees devices is_source net before after e quiet =
    record {
      at_gates = λ d c. rw e.3 (get_or-set_other before net d.gate e.0 Unknown (λ z. quiet (d, c, z)));
      at_sources = λ s h. rw e.3 (get_or-set_other before net s e.0 Unknown (λ z. let a = e.2.0 in let b = rw z at h in cc));
    }

-- the net that had the event is done
event_done : (devices : List Device) (is_source : ℕ → Bool) (net : ℕ) (before after : List Tri) → EventAt devices is_source net before after → (Gates devices net → ⊥) → IsDone devices is_source after net
event_done devices is_source net before after e quiet =
    let same : value_of after net ≡ e.0 = rw e.3 (get_or-set_same before net e.0 Unknown e.1) in
    rw same
    (ByPaths-same devices is_source before after (quiet_agrees devices is_source net before after e quiet) net (λ w. w ≡ Unknown) (λ w. w ≡ Unknown) (λ w h. h) e.0
    (ByPaths-here devices is_source before net (Else (Holds (Possible devices is_source before net) before net) (λ w. w ≡ Unknown)) (λ w. w ≡ Unknown) e.0
    (λ r. elim r [ inl h ↦ absurd (e.2.2 (sym h.1)) | inr h ↦ h.1 ]) e.2.1))

-- another net's event leaves it done
done_stays : (devices : List Device) (is_source : ℕ → Bool) (m net : ℕ) (before after : List Tri) → EventAt devices is_source m before after → (Gates devices m → ⊥) → net ≢ m → IsDone devices is_source before net → IsDone devices is_source after net
done_stays devices is_source m net before after e quiet ne d =
    let same : value_of after net ≡ value_of before net = rw e.3 (get_or-set_other before m net e.0 Unknown ne) in
    rw same
    (ByPaths-same devices is_source before after (quiet_agrees devices is_source m before after e quiet) net (λ w. w ≡ Unknown) (λ w. w ≡ Unknown) (λ w h. h) (value_of before net) d)

done_never : (devices : List Device) (is_source : ℕ → Bool) (net : ℕ) (ns : List ℕ) (before after : List Tri) → IsDone devices is_source before net
    → AllByRecursion (λ m. Gates devices m → ⊥) ns → Events devices is_source ns before after → AllByRecursion (λ m. m ≢ net) ns
done_never devices is_source net [] before after d q e = tt
done_never devices is_source net (m ∷ ns) before after d q e =
    let ne : m ≢ net = λ z. done_rests devices is_source before net e.1.0 d (rw z at e.1.2) in
    (ne, done_never devices is_source net ns e.0 after (done_stays devices is_source m net before e.0 e.1 q.0 (λ z. ne (sym z)) d) q.1 e.2)

pub quiet_once : (devices : List Device) (is_source : ℕ → Bool) (ns : List ℕ) (before after : List Tri)
    → AllByRecursion (λ m. Gates devices m → ⊥) ns → Events devices is_source ns before after → Distinct ns
quiet_once devices is_source [] before after q e = tt
quiet_once devices is_source (n ∷ ns) before after q e =
    (done_never devices is_source n ns e.0 after (event_done devices is_source n before e.0 e.1 q.0) q.1 e.2, quiet_once devices is_source ns e.0 after q.1 e.2)
