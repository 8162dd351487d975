-- Steps of legal runs by ports, one list after another.
use Rattle.std.specs.List.{AllByRecursion}
use Rattle.std.specs.Prelude.{◌≢◌}
use Rattle.std.proofs.Common.{Bool, List, [], ap, false, map, refl, subst, sym, ℕ, ◌++◌, ◌∙◌, ◌∷◌, ◌≡◌}
use Rattle.dom_base.specs.declared.tri.Tri.{Tri}
use Rattle.deck.specs.CircuitData.{CircuitData}
use Rattle.deck.specs.declared.role.Roles.{Roles}
use Rattle.port_runs.specs.Environment.{Fall, Happens, Moves, Open, Rise, Step, Take, World, stream_of, Evaluation, Move, Place, fallen_at}
use Rattle.port_runs.specs.declared.clocking.Clocking.{Clocking}
use Rattle.port_runs.specs.declared.clocking.Clocking.TheVariants.{Overlapping, Together}
use Rattle.port_runs.specs.LegalSteps.{ClockedLinks, DoesIn, LeadsIn, MayMoveIn}
use Rattle.port_runs.specs.PortRuns.{Does, DoesBy, Leads, LeadsBy, SetsPorts, clocked_ports}

pub stream_of-append : (a b : List Step) → stream_of (a ++ b) ≡ stream_of a ++ stream_of b
stream_of-append [] b = refl
stream_of-append (Happens n ∷ a) b = stream_of-append a b
stream_of-append (Moves (Open place) ∷ a) b = stream_of-append a b
stream_of-append (Moves (Take pins) ∷ a) b = ap (λ l. pins ∷ l) (stream_of-append a b)
stream_of-append (Moves Rise ∷ a) b = stream_of-append a b
stream_of-append (Moves (Fall k) ∷ a) b = stream_of-append a b

pub stream_of-events : (ns : List ℕ) → stream_of (map (λ n. Happens n) ns) ≡ []
stream_of-events [] = refl
stream_of-events (n ∷ ns) = stream_of-events ns

module _ (k : ClockedLinks) (Gives : Move → World → List Tri → Type 0) where
  -- one list of steps after another
  pub leads_on : (a b : List Step) (w u v : World) → LeadsIn k Gives a w u → LeadsIn k Gives b u v → LeadsIn k Gives (a ++ b) w v
  leads_on [] b w u v r q = subst (λ x. LeadsIn k Gives b x v) r q
  leads_on (step ∷ a) b w u v r q = (r.0, r.1, leads_on a b r.0 u v r.2 q)

  -- and one step after them
  pub leads_further : (steps : List Step) (step : Step) (w u v : World) → LeadsIn k Gives steps w u → DoesIn k Gives step u v
      → LeadsIn k Gives (steps ++ step ∷ []) w v
  leads_further steps step w u v r d = leads_on steps (step ∷ []) w u v r (v, d, refl)

  -- cut anywhere
  pub leads_cut : (a b : List Step) (w v : World) → LeadsIn k Gives (a ++ b) w v
      → (u : World) × LeadsIn k Gives a w u × LeadsIn k Gives b u v
  leads_cut [] b w v r = (w, refl, r)
  leads_cut (step ∷ a) b w v r = let q = leads_cut a b r.0 v r.2 in (q.0, (r.0, r.1, q.1), q.2)

  -- what each step keeps holds at the end
  pub leads_keep : (Keeps : World → Type 0) → ((step : Step) (w w' : World) → DoesIn k Gives step w w' → Keeps w → Keeps w')
      → (steps : List Step) (w w' : World) → LeadsIn k Gives steps w w' → Keeps w → Keeps w'
  leads_keep Keeps keeps [] w w' r h = subst Keeps (sym r) h
  leads_keep Keeps keeps (step ∷ steps) w w' r h = leads_keep Keeps keeps steps r.0 w' r.2 (keeps step w r.0 r.1 h)

  -- where each step is also one of another kind, steps lead there too
  pub leads_as : (k' : ClockedLinks) (Gives' : Move → World → List Tri → Type 0) (Keeps : World → Type 0)
      → ((step : Step) (w w' : World) → DoesIn k Gives step w w' → Keeps w → DoesIn k' Gives' step w w' × Keeps w')
      → (steps : List Step) (w w' : World) → LeadsIn k Gives steps w w' → Keeps w → LeadsIn k' Gives' steps w w' × Keeps w'
  leads_as k' Gives' Keeps keeps [] w w' r h = (r, subst Keeps (sym r) h)
  leads_as k' Gives' Keeps keeps (step ∷ steps) w w' r h =
      let one = keeps step w r.0 r.1 h in
      let rest = leads_as k' Gives' Keeps keeps steps r.0 w' r.2 one.1 in
      ((r.0, one.0, rest.0), rest.1)

-- no clock falls early where all fall together
no_fall : (k : ClockedLinks) (i : ℕ) (w : World) → k.clocking ≡ Together → MayMoveIn k (Fall i) w → ⊥
no_fall k i w e m = apart (sym e ∙ m.4)
  where
    apart : Together ≡ Overlapping → ⊥
    apart z = cc

-- runs in which all clocks fall together are runs in which they may overlap
pub leads_widen : (clocking : Clocking) (c : CircuitData) (roles : Roles) (steps : List Step) (w w' : World) → Leads c roles steps w w'
    → LeadsBy clocking c roles steps w w'
leads_widen clocking c roles steps w w' r =
    (leads_as (clocked_ports Together c roles) (SetsPorts roles) (clocked_ports clocking c roles) (SetsPorts roles) (λ u. Unit {0})
    (λ step u v d h. (wider step u v d, tt)) steps w w' r tt).0
  where
    wider : (step : Step) (u v : World) → Does c roles step u v → DoesBy clocking c roles step u v
    wider (Happens n) u v d = d
    wider (Moves (Open place)) u v d = d
    wider (Moves (Take pins)) u v d = d
    wider (Moves Rise) u v d = d
    wider (Moves (Fall i)) u v d = absurd (no_fall (clocked_ports Together c roles) i u refl d.0)

-- and no clock falls early in them
pub leads_none : (c : CircuitData) (roles : Roles) (steps : List Step) (w w' : World) → Leads c roles steps w w'
    → ((i : ℕ) → w.fallen i ≡ false) → (i : ℕ) → w'.fallen i ≡ false
leads_none c roles = leads_keep (clocked_ports Together c roles) (SetsPorts roles) (λ u. (i : ℕ) → u.fallen i ≡ false) none
  where
    opened : (place : Place) (fallen : ℕ → Bool) (i : ℕ) → fallen i ≡ false → fallen_at place fallen i ≡ false
    opened Evaluation fallen i e = refl
    opened _ fallen i e = e

    none : (step : Step) (u v : World) → Does c roles step u v → ((i : ℕ) → u.fallen i ≡ false) → (i : ℕ) → v.fallen i ≡ false
    none (Happens n) u v d h i = ap (λ (x : World). x.fallen i) d.1 ∙ h i
    none (Moves (Open place)) u v d h i = ap (λ (x : World). x.fallen i) (d.1).1 ∙ opened place u.fallen i (h i)
    none (Moves (Take pins)) u v d h i = ap (λ (x : World). x.fallen i) (d.1).1 ∙ h i
    none (Moves Rise) u v d h i = ap (λ (x : World). x.fallen i) (d.1).1 ∙ h i
    none (Moves (Fall k)) u v d h i = absurd (no_fall (clocked_ports Together c roles) k u refl d.0)

pub leads_no_falls : (c : CircuitData) (roles : Roles) (steps : List Step) (w w' : World) → Leads c roles steps w w' → (k : ℕ)
    → AllByRecursion (λ step. step ≢ Moves (Fall k)) steps
leads_no_falls c roles [] w w' r k = tt
leads_no_falls c roles (step ∷ steps) w w' r k = (no step r.1, leads_no_falls c roles steps r.0 w' r.2 k)
  where
    no : (step : Step) → Does c roles step w r.0 → step ≢ Moves (Fall k)
    no (Happens n) d e = cc
    no (Moves (Open place)) d e = cc
    no (Moves (Take pins)) d e = cc
    no (Moves Rise) d e = cc
    no (Moves (Fall j)) d e = no_fall (clocked_ports Together c roles) j w refl d.0
