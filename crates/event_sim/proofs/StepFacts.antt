-- What a step finds: pending nets, rest, and facts moved along equal simulations.
use Rattle.std.proofs.Common.{◌≡◌, ℕ, zero, suc, ◌<◌, ◌≤◌, false, nat_lt, List, [], ◌∷◌, length, length-set, get_or, set, Some, refl, sym, ap, ◌∙◌, subst, arith}
use Rattle.std.specs.List.{slice_get}
use Rattle.std.proofs.lemmas.Bool.Decides.{nat_tests}
use Rattle.dom_base.proofs.Lists.{Contains-slice_get}
use Rattle.dom_base.specs.declared.tri.Tri.{Tri}
use Rattle.deck.specs.Switches.{value_of}
use Rattle.switch_model.proofs.Targets.{target_unique}
use Rattle.switch_model.specs.LinksData.{LinksData, is_first}
use Rattle.switch_model.specs.Targets.{EventAt}
use Rattle.switch_model.specs.Pending.{AreKeptTargets, ArePending, IsPendingNet, Targets}
use Rattle.pending_nets.specs.PendingData.{PendingData}
use Rattle.event_sim.specs.Inside.{IsSim}
use Rattle.event_sim.specs.Pending.{IsResting}
use Rattle.event_sim.specs.SimData.{SimData}

-- without pending nets there is rest
pub rests_where_none : (links : LinksData) (values : List Tri) (nets : List ℕ) → ArePending links values nets → length nets ≡ 0 → IsResting links values
rests_where_none links values nets pending none = λ net v lt is.
    let at = (pending.exact net).1 (lt, (v, is)) in
    omega (arith, at.1, none)

-- at rest no net is pending
pub none_where_rests : (links : LinksData) (values : List Tri) (nets : List ℕ) → ArePending links values nets → IsResting links values → length nets ≡ 0
none_where_rests links values [] pending rest = refl
none_where_rests links values (n ∷ nets) pending rest =
    let at = (pending.exact n).0 (0, omega arith, refl) in
    absurd (rest n at.1.0 at.0 at.1.1)

-- with a pending net there is none
pub moves_where_some : (links : LinksData) (values : List Tri) (net : ℕ) → IsPendingNet links values net → IsResting links values → ⊥
moves_where_some links values net at rest = rest net at.1.0 at.0 at.1.1

-- what stands in the list is pending
pub pending_at : (links : LinksData) (values : List Tri) (nets : List ℕ) (place net : ℕ)
    → ArePending links values nets → slice_get nets place ≡ Some net → IsPendingNet links values net
pending_at links values nets place net pending is = (pending.exact net).0 (Contains-slice_get nets place net is)

-- a net that is no source and differs from its target
pub pending_where_differs : (links : LinksData) (values : List Tri) (net : ℕ) (target : Tri) → net < length values → links.sources ≤ net
    → Targets links values net target → (value_of values net ≡ target → ⊥) → IsPendingNet links values net
pending_where_differs links values net target lt free is differs =
    let first : nat_lt net links.sources ≡ false = grind (arith, nat_tests) in
    (lt, (target, (first, is, differs)))

pub differs_where_pending : (links : LinksData) (values : List Tri) (net : ℕ) (target : Tri)
    → Targets links values net target → IsPendingNet links values net → value_of values net ≡ target → ⊥
differs_where_pending links values net target is at e =
    at.1.1.2 (e ∙ target_unique links.devices (is_first links.sources) values net target at.1.0 is at.1.1.1)

pub pending_moved : {k l : LinksData} {v w : List Tri} {nets : List ℕ} → k ≡ l → v ≡ w → ArePending k v nets → ArePending l w nets
pending_moved {k} {l} {v} {w} {nets} e f h = subst (λ (x : List Tri). ArePending l x nets) f (subst (λ (x : LinksData). ArePending x v nets) e h)

pub kept_moved : {k l : LinksData} {v w : List Tri} (targets : List Tri) → k ≡ l → v ≡ w → AreKeptTargets k v targets → AreKeptTargets l w targets
kept_moved {k} {l} {v} {w} targets e f h = subst (λ (x : List Tri). AreKeptTargets l x targets) f (subst (λ (x : LinksData). AreKeptTargets x v targets) e h)

-- a simulation after one net has changed
pub sim_after : {k l : LinksData} {v w : List Tri} {p q : PendingData} (net : ℕ) (t : Tri) → l ≡ k → w ≡ set v net t → q.nets ≡ p.nets
    → ArePending k w q.listed → AreKeptTargets k w q.targets → IsSim k v p → IsSim l (set v net t) q
sim_after {k} {l} {v} {w} {p} {q} net t e f nets right targets is = record {
  within = omega (arith, is.within, ap (λ (x : LinksData). x.sources) e, ap (λ (x : LinksData). x.nets) e);
  whole = length-set v net t ∙ is.whole ∙ ap (λ (x : LinksData). x.nets) (sym e);
  few = omega (arith, is.few, ap (λ (x : LinksData). x.nets) e);
  nets = nets ∙ is.nets ∙ ap (λ (x : LinksData). x.nets) (sym e);
  right = pending_moved (sym e) f right;
  targets = kept_moved q.targets (sym e) f targets;
}

pub resting_moved : {k l : LinksData} {v w : List Tri} → k ≡ l → v ≡ w → IsResting k v → IsResting l w
resting_moved {k} {l} {v} {w} e f h = subst (λ (x : List Tri). IsResting l x) f (subst (λ (x : LinksData). IsResting x v) e h)

pub targets_moved : {k l : LinksData} {v w : List Tri} (net : ℕ) (t : Tri) → k ≡ l → v ≡ w → Targets k v net t → Targets l w net t
targets_moved {k} {l} {v} {w} net t e f h = subst (λ (x : List Tri). Targets l x net t) f (subst (λ (x : LinksData). Targets x v net t) e h)

pub event_moved : (links : LinksData) (net : ℕ) (before : List Tri) {after other : List Tri} → after ≡ other
    → EventAt links.devices (is_first links.sources) net before after → EventAt links.devices (is_first links.sources) net before other
event_moved links net before e h = (h.0, h.1, h.2, sym e ∙ h.3)

-- values with one of them set and set back
pub set_back : (values : List Tri) (net : ℕ) (v before : Tri) → net < length values → before ≡ get_or values net before
    → set (set values net v) net before ≡ values
set_back (x ∷ values) zero v before lt e = ap (λ (y : Tri). y ∷ values) e
set_back (x ∷ values) (suc net) v before lt e = ap (λ (l : List Tri). x ∷ l) (set_back values net v before (omega (arith, lt)) e)
set_back [] net v before lt e = absurd (omega (arith, lt))

module _ {F : Type 0} where
  pub links_same : {s t : SimData F} → s ≡ t → s.links ≡ t.links
  links_same e = ap (λ (s : SimData F). s.links) e

  pub values_same : {s t : SimData F} → s ≡ t → s.values ≡ t.values
  values_same e = ap (λ (s : SimData F). s.values) e

  -- what holds of who picks and of a count
  pub pick_moved : (P : F → ℕ → Type 0) {s t : SimData F} {m n : ℕ} → s ≡ t → m ≡ n → P s.pick m → P t.pick n
  pick_moved P {s} {t} {m} {n} e f h = subst (λ (k : ℕ). P t.pick k) f (subst (λ (x : SimData F). P x.pick m) e h)
