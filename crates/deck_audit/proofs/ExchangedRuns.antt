-- Circuits with the same devices, but for their order and for exchanged drains and sources, have the same runs, joins and periods.
use Rattle.std.proofs.Common.{Bool, List, [], inl, inr, map, ℕ, ◌++◌, ◌∙◌, ◌∷◌, ◌≡◌}
use Rattle.dom_base.specs.declared.kind.Kind.TheVariants.{Keep}
use Rattle.dom_base.specs.declared.tri.Tri.{Tri}
use Rattle.dom_base.specs.declared.tri.Tri.TheVariants.{Zero}
use Rattle.deck.specs.CircuitData.{CircuitData}
use Rattle.deck.specs.Paths.{DefiniteStrong, Ends}
use Rattle.deck.specs.PortLayout.{source_count}
use Rattle.deck.specs.Switches.{value_of}
use Rattle.deck.specs.declared.device.Device.{Device}
use Rattle.deck.specs.declared.role.Roles.{Roles}
use Rattle.switch_model.specs.LinksData.{is_first}
use Rattle.circuit_law.specs.Counts.{Gates}
use Rattle.circuit_law.specs.Exchanged.{HasDevicesOf}
use Rattle.circuit_law.proofs.ExchangedTargets.{events_agree, targets_agree}
use Rattle.circuit_law.proofs.ExchangedTargets.{twin_in}
use Rattle.deck_audit.proofs.Twins.{Twins, definite_strong, not_off_twins, possible_strong, twin_path, weak_twins}
use Rattle.port_runs.specs.Environment.{Evaluation, Fall, Happens, Moves, Open, Rise, Step, Take, World}
use Rattle.port_runs.specs.declared.clocking.Clocking.TheVariants.{Together}
use Rattle.port_runs.specs.Periods.{IsDominoOutput, IsDynamicNet, IsInEvaluation, IsOnce, vdd_port, vss_port}
use Rattle.port_runs.specs.PortRuns.{Does, Leads, Rests, Runs, power_world}
use Rattle.port_runs.specs.Readings.{HasResetBy, IsLaunchedBy, IsReadBy, IsReading}
use Rattle.domino_law.specs.EveryRun.{ReachesRest}
use Rattle.domino_law.specs.Joins.{IsContest, IsOverpowered, IsShort}
use Rattle.deck_audit.specs.AuditedDeck.{with_cards}
use Rattle.deck_audit.specs.OwnRunRight.{IsOverpoweredByEnds}

module _ (c : CircuitData) (roles : Roles) (es : List Device) (w : HasDevicesOf c.devices es) (u : HasDevicesOf es c.devices) where
  abbrev pub d : CircuitData
  d = with_cards c es

  pub rests_to : (v : World) → Rests c roles v → Rests d roles v
  rests_to v h net t lt p = h net t lt (p.0, (targets_agree c.devices es w u (is_first (source_count roles)) v.values net t).1 p.1, p.2)

  pub rests_back : (v : World) → Rests d roles v → Rests c roles v
  rests_back v h net t lt p = h net t lt (p.0, (targets_agree c.devices es w u (is_first (source_count roles)) v.values net t).0 p.1, p.2)

  pub does_to : (step : Step) (v v' : World) → Does c roles step v v' → Does d roles step v v'
  does_to (Happens n) v v' h = (h.0, h.1, (events_agree c.devices es w u (is_first (source_count roles)) n v.values h.0).0 h.2)
  does_to (Moves (Open place)) v v' h = ((h.0.0, rests_to v h.0.1, h.0.2), h.1)
  does_to (Moves (Take pins)) v v' h = ((h.0.0, rests_to v h.0.1, h.0.2), h.1)
  does_to (Moves Rise) v v' h = h
  does_to (Moves (Fall k)) v v' h = ((h.0.0, rests_to v h.0.1, h.0.2, h.0.3, h.0.4, h.0.5), h.1)

  does_back : (step : Step) (v v' : World) → Does d roles step v v' → Does c roles step v v'
  does_back (Happens n) v v' h = (h.0, h.1, (events_agree c.devices es w u (is_first (source_count roles)) n v.values h.0).1 h.2)
  does_back (Moves (Open place)) v v' h = ((h.0.0, rests_back v h.0.1, h.0.2), h.1)
  does_back (Moves (Take pins)) v v' h = ((h.0.0, rests_back v h.0.1, h.0.2), h.1)
  does_back (Moves Rise) v v' h = h
  does_back (Moves (Fall k)) v v' h = ((h.0.0, rests_back v h.0.1, h.0.2, h.0.3, h.0.4, h.0.5), h.1)

  pub leads_to : (steps : List Step) (v v' : World) → Leads c roles steps v v' → Leads d roles steps v v'
  leads_to [] v v' h = h
  leads_to (step ∷ steps) v v' h = (h.0, does_to step v h.0 h.1, leads_to steps h.0 v' h.2)

  pub leads_back : (steps : List Step) (v v' : World) → Leads d roles steps v v' → Leads c roles steps v v'
  leads_back [] v v' h = h
  leads_back (step ∷ steps) v v' h = (h.0, does_back step v h.0 h.1, leads_back steps h.0 v' h.2)

  pub runs_to : (steps : List Step) (v : World) → Runs c roles steps v → Runs d roles steps v
  runs_to steps v h = leads_to steps (power_world c roles) v h

  pub runs_back : (steps : List Step) (v : World) → Runs d roles steps v → Runs c roles steps v
  runs_back steps v h = leads_back steps (power_world c roles) v h

  pub dynamic_to : (n : ℕ) → IsDynamicNet c roles n → IsDynamicNet d roles n
  dynamic_to n h =
      let t = twin_in c.devices es w h.precharge h.there in
      record { precharge = t.0; there = t.1; kind_is = (t.2).kind ∙ h.kind_is; gated = rw (t.2).gate h.gated; joined = (t.2).ends n vdd_port h.joined }

  pub output_to : (n : ℕ) → IsDominoOutput c roles n → IsDominoOutput d roles n
  output_to n h =
      let t = twin_in c.devices es w h.pull_up h.there in
      record { pull_up = t.0; there = t.1; kind_is = (t.2).kind ∙ h.kind_is; gated = rw (t.2).gate (dynamic_to (h.pull_up).gate h.gated); joined = (t.2).ends n vdd_port h.joined }

  pub period_to : (steps : List Step) (v : World) → IsInEvaluation c roles steps v → IsInEvaluation d roles steps v
  period_to steps v h = record { earlier = h.earlier; run = runs_to (h.earlier ++ Moves (Open Evaluation) ∷ steps) v h.run; period = h.period }

  pub once_back : (steps : List Step) (v : World) (n : ℕ) (from to : Tri) → IsOnce d roles steps v n from to → IsOnce c roles steps v n from to
  once_back steps v n from to h = record { once = h.once; event = λ v' e. h.event v' (does_to (Happens n) v v' e) }

  pub reset_to : (v : World) → HasResetBy Together c roles v → HasResetBy Together d roles v
  reset_to v h = record { steps = h.steps; run = runs_to h.steps v h.run; beyond = elim h.beyond [ inl x ↦ inl x | inr x ↦ inr (rests_to v x) ] }

  pub short_to : (values : List Tri) (a b : ℕ) → IsShort c.devices (is_first (source_count roles)) values a b → IsShort es (is_first (source_count roles)) values a b
  short_to values a b h = record { from = h.from; to = h.to; joined = possible_strong c.devices es w (is_first (source_count roles)) values a b h.joined; differ = h.differ }

  -- a contest in one circuit is one in the other, device by device
  pub contest_to : (values : List Tri) (p : List Device) → IsContest c.devices (is_first (source_count roles)) values vdd_port vss_port p
      → (q : List Device) × IsContest es (is_first (source_count roles)) values vdd_port vss_port q × Twins p q
  contest_to values p (inl path, there, not_off, weak) =
      let t = twin_path c.devices es w (is_first (source_count roles)) path there in
      (t.0, (inl t.1, t.2, not_off_twins c.devices es w (is_first (source_count roles)) values p t.0 t.3 not_off, weak_twins c.devices es w (is_first (source_count roles)) values p t.0 t.3 weak), t.3)
  contest_to values p (inr path, there, not_off, weak) =
      let t = twin_path c.devices es w (is_first (source_count roles)) path there in
      (t.0, (inr t.1, t.2, not_off_twins c.devices es w (is_first (source_count roles)) values p t.0 t.3 not_off, weak_twins c.devices es w (is_first (source_count roles)) values p t.0 t.3 weak), t.3)

  -- where no definite strong path joins the supplies, what overpowers from drains does so from the ends other than `vdd`
  pub overpowered_back : (values : List Tri) (p q : List Device) → Twins p q → (DefiniteStrong es (is_first (source_count roles)) values vdd_port vss_port → ⊥)
      → IsOverpowered es (is_first (source_count roles)) values vss_port q → IsOverpoweredByEnds c.devices (is_first (source_count roles)) values vdd_port vss_port p
  overpowered_back values [] q t away h = tt
  overpowered_back values (x ∷ p) [] t away h = absurd t
  overpowered_back values (x ∷ p) (y ∷ q) t away h = (one, overpowered_back values p q t.1 away h.1)
    where
      at_end : (n : ℕ) → DefiniteStrong es (is_first (source_count roles)) values y.drain vss_port → Ends y n vdd_port → DefiniteStrong c.devices (is_first (source_count roles)) values n vss_port
      at_end n k (inl e) = definite_strong es c.devices u (is_first (source_count roles)) values n vss_port (rw (← e.0) k)
      at_end n k (inr e) = absurd (away (rw (← e.1) k))

      one : x.kind ≡ Keep → (value_of values x.gate ≡ Zero) × ((n : ℕ) → Ends x n vdd_port → DefiniteStrong c.devices (is_first (source_count roles)) values n vss_port)
      one k = let z = h.0 ((t.0).kind ∙ k) in (rw (t.0).gate at z.0, (λ n e. at_end n z.1 ((t.0).ends n vdd_port e)))

  pub reaches_back : (v : World) → ReachesRest Together d roles v → ReachesRest Together c roles v
  reaches_back v h = record { events = h.events; end = h.end; leads = leads_back (map (λ n. Happens n) h.events) v h.end h.leads; rests = rests_back h.end h.rests; few = h.few }

  pub gates_to : (n : ℕ) → Gates c.devices n → Gates es n
  gates_to n h = let t = twin_in c.devices es w h.0 h.1 in (t.0, t.1, (t.2).gate ∙ h.2)

  pub reading_to : (v : World) → IsReading c roles v → IsReading d roles v
  reading_to v h = record { place = h.place; risen = h.risen; rests = rests_to v h.rests }

  pub read_back : (stream : List (List Bool)) (steps : List Step) (v : World) → IsReadBy Together d roles stream steps v → IsReadBy Together c roles stream steps v
  read_back stream steps v h = record {
    run = runs_back steps v h.run;
    stream_is = h.stream_is;
    reading = record { place = (h.reading).place; risen = (h.reading).risen; rests = rests_back v (h.reading).rests };
  }

  pub launched_back : (stream : List (List Bool)) (steps : List Step) (v : World) → IsLaunchedBy Together d roles stream steps v → IsLaunchedBy Together c roles stream steps v
  launched_back stream steps v h = record { run = runs_back steps v h.run; stream_is = h.stream_is; place = h.place; rests = rests_back v h.rests }
