-- A circuit with the devices of a loose deck is right by the deck's own run.
use Rattle.std.proofs.Common.{List, [], inl, inr, map, refl, subst, sym, true, ℕ, ◌++◌, ◌∙◌, ◌∷◌, ◌≡◌}
use Rattle.dom_base.specs.declared.tri.Tri.TheVariants.{One, Zero}
use Rattle.dom_base.proofs.Lists.{AllByRecursion-weaker}
use Rattle.deck.specs.CircuitData.{CircuitData}
use Rattle.deck.specs.Paths.{DefiniteStrong}
use Rattle.deck.specs.PortLayout.{source_count}
use Rattle.deck.specs.Switches.{IsNotOff, IsOn, value_of}
use Rattle.deck.specs.declared.device.Device.{Device}
use Rattle.deck.specs.declared.role.Roles.{Roles}
use Rattle.switch_model.specs.LinksData.{is_first, links_of}
use Rattle.port_runs.specs.Environment.{Happens, Step, World}
use Rattle.port_runs.specs.declared.clocking.Clocking.TheVariants.{Together}
use Rattle.port_runs.specs.Periods.{vdd_port, vss_port}
use Rattle.port_runs.specs.PortRuns.{Does, DoesBy, Runs, power_world}
use Rattle.port_runs.specs.Readings.{HasResetBy}
use Rattle.domino_law.specs.EveryRun.{RunsAsDomino}
use Rattle.domino_law.specs.Laws.{Realises}
use Rattle.domino_law.specs.Nets.{Net, Vdd, Vss}
use Rattle.domino_law.specs.Runs.{IsHonestWorld}
use Rattle.domino_law.specs.Shape.{Shape}
use Rattle.domino_law.specs.Spelled.{deck_devices}
use Rattle.domino_law.proofs.DominoDecks.{ports_read_own_run}
use Rattle.domino_law.proofs.HonestLaws.{keeps_honest, reset_reaches, runs_are_honest}
use Rattle.domino_law.proofs.PortLaws as by_ports
use Rattle.domino_law.proofs.OwnRunLaws.{realises_own_run}
use Rattle.domino_law.proofs.PortRunLaws.{step_is}
use Rattle.domino_law.proofs.RunOrder.{runs_stand_in_order}
use Rattle.deck_audit.specs.AuditedDeck.{ExchangedDeckIsRight, IsExchangedDeck, with_cards}
use Rattle.deck_audit.specs.OwnRunRight.{IsRightByOwnRun}
use Rattle.deck_audit.proofs.ExchangedRuns.{contest_to, does_to, dynamic_to, gates_to, launched_back, leads_to, once_back, output_to, overpowered_back, period_to, reaches_back, read_back, reading_to, reset_to, rests_to, runs_to, short_to}
use Rattle.deck_audit.proofs.HonestStates.{honest_exchanged}
use Rattle.port_runs.proofs.Steps.{leads_widen}

module _ (c : CircuitData) (roles : Roles) (net : Net → ℕ) (s : Shape) (x : IsExchangedDeck c roles net s) where
  abbrev es : List Device
  es = deck_devices net s

  abbrev d : CircuitData
  d = with_cards c es

  realises : (steps : List Step) (v : World) → Runs c roles steps v → Realises (links_of d roles) net s steps v
  realises steps v r =
      realises_own_run (links_of d roles) net s steps (power_world d roles) v (by_ports.loose d roles net s x.deck) (by_ports.start d roles net s x.deck)
      (by_ports.run_of d roles net s x.deck Together (inl refl) steps v (runs_to c roles es x.no_other x.has_deck steps v r))

  as_domino : RunsAsDomino Together d roles
  as_domino = by_ports.runs_as_domino d roles net s x.deck Together (inl refl)

  -- after power the supplies differ, so no definite strong path joins them
  supplies_apart : (v : World) → HasResetBy Together c roles v → DefiniteStrong es (is_first (source_count roles)) v.values vdd_port vss_port → ⊥
  supplies_apart v h p =
      let loose = by_ports.loose d roles net s x.deck in
      let run = by_ports.run_of d roles net s x.deck Together (inl refl) h.steps v (runs_to c roles es x.no_other x.has_deck h.steps v h.run) in
      let stands = runs_stand_in_order (links_of d roles) net s h.steps (power_world d roles) v loose (by_ports.start d roles net s x.deck) run in
      let vdd_is : net Vdd ≡ vdd_port = ((x.deck).ports).numbers Vdd tt in
      let vss_is : net Vss ≡ vss_port = ((x.deck).ports).numbers Vss tt in
      let high : value_of v.values vdd_port ≡ One = rw (← vdd_is) (stands.sources Vdd tt) in
      let low : value_of v.values vss_port ≡ Zero = rw (← vss_is) (stands.sources Vss tt) in
      as_domino.no_short v vdd_port vss_port (reset_to c roles es x.no_other x.has_deck v h)
      (record {
        from = subst (λ n. is_first (source_count roles) n ≡ true) vdd_is ((loose.deck).sources Vdd tt);
        to = subst (λ n. is_first (source_count roles) n ≡ true) vss_is ((loose.deck).sources Vss tt);
        joined = (p.0, p.1, p.2, AllByRecursion-weaker (IsOn v.values) (IsNotOff v.values) (λ e z y. one_zero (sym z ∙ y)) p.0 p.3, p.4);
        differ = λ z. one_zero (sym high ∙ z ∙ low);
      })
    where
      one_zero : One ≡ Zero → ⊥
      one_zero e = cc

  -- an honest state of one circuit is one of the other
  honest_to : (v : World) → IsHonestWorld (links_of c roles) net s v → IsHonestWorld (links_of d roles) net s v
  honest_to v h = honest_exchanged c.devices es x.no_other x.has_deck _ net s _ _ _ _ _ _ v.values h

  honest_back : (v : World) → IsHonestWorld (links_of d roles) net s v → IsHonestWorld (links_of c roles) net s v
  honest_back v h = honest_exchanged es c.devices x.has_deck x.no_other _ net s _ _ _ _ _ _ v.values h

  -- a step of the circuit is one of the deck, however its clocks fall
  does_own : (step : Step) (v v' : World) → Does c roles step v v' → DoesBy s.clocking d roles step v v'
  does_own step v v' h =
      let wide = by_ports.leads_own d roles net s x.deck Together (inl refl) (step ∷ []) v v' (v', does_to c roles es x.no_other x.has_deck step v v' h, refl) in
      subst (λ (u : World). DoesBy s.clocking d roles step v u) (sym wide.2) wide.1

  pub right : IsRightByOwnRun c roles net s
  right = record {
    domino = record {
      falls_once = λ steps v n dyn i. once_back c roles es x.no_other x.has_deck steps v n One Zero
          (as_domino.falls_once steps v n (dynamic_to c roles es x.no_other x.has_deck n dyn) (period_to c roles es x.no_other x.has_deck steps v i));
      rises_once = λ steps v n out i. once_back c roles es x.no_other x.has_deck steps v n Zero One
          (as_domino.rises_once steps v n (output_to c roles es x.no_other x.has_deck n out) (period_to c roles es x.no_other x.has_deck steps v i));
      no_short = λ v a b h z. as_domino.no_short v a b (reset_to c roles es x.no_other x.has_deck v h) (short_to c roles es x.no_other x.has_deck v.values a b z);
      no_contest = λ v p h rest z.
          let q = contest_to c roles es x.no_other x.has_deck v.values p z in
          as_domino.no_contest v q.0 (reset_to c roles es x.no_other x.has_deck v h) (rests_to c roles es x.no_other x.has_deck v rest) q.1;
      few_events = λ steps events v v' r more. as_domino.few_events steps events v v' (runs_to c roles es x.no_other x.has_deck steps v r)
          (leads_to c roles es x.no_other x.has_deck (map (λ n. Happens n) events) v v' more);
      reaches_rest = λ steps v r. reaches_back c roles es x.no_other x.has_deck v (as_domino.reaches_rest steps v (runs_to c roles es x.no_other x.has_deck steps v r));
      rests_alike = λ steps steps' v v' n r r' stream place risen rest rest' k.
          as_domino.rests_alike steps steps' v v' n (runs_to c roles es x.no_other x.has_deck steps v r) (runs_to c roles es x.no_other x.has_deck steps' v' r') stream place risen
          (rests_to c roles es x.no_other x.has_deck v rest) (rests_to c roles es x.no_other x.has_deck v' rest')
          (elim k [ inl g ↦ inl (gates_to c roles es x.no_other x.has_deck n g) | inr o ↦ inr o ]);
      is_read = λ past pins fit.
          let z = as_domino.is_read past pins fit in (
            (z.0.0, z.0.1, read_back c roles es x.no_other x.has_deck (past ++ pins ∷ []) z.0.0 z.0.1 z.0.2),
            (z.1.0, z.1.1, launched_back c roles es x.no_other x.has_deck (past ++ pins ∷ []) z.1.0 z.1.1 z.1.2),
          );
    };
    overpowered = λ v p h z.
        let q = contest_to c roles es x.no_other x.has_deck v.values p z in
        overpowered_back c roles es x.no_other x.has_deck v.values p q.0 q.2 (supplies_apart v h)
        (by_ports.overpowered d roles net s x.deck Together (inl refl) v q.0 (reset_to c roles es x.no_other x.has_deck v h) q.1);
    honest = λ v h.
        let k = reset_to c roles es x.no_other x.has_deck v h in
        honest_back v (runs_are_honest (links_of d roles) net s k.steps (power_world d roles) v (by_ports.loose d roles net s x.deck) (by_ports.start d roles net s x.deck)
        (by_ports.run_of d roles net s x.deck Together (inl refl) k.steps v k.run) k.beyond);
    kept = λ step v v' whole risen h does.
        let k = honest_to v h in
        honest_back v' (keeps_honest (links_of d roles) net s step v v' (by_ports.loose d roles net s x.deck) whole k
        (step_is d roles net s (x.deck).ports step v v' (does_own step v v' does) (record { whole = whole; sources = (k.frame).sources; first = risen })).0);
    starts = λ steps v r at.
        reset_reaches (links_of d roles) net s steps (power_world d roles) v (by_ports.loose d roles net s x.deck) (by_ports.start d roles net s x.deck)
        (by_ports.run_of d roles net s x.deck Together (inl refl) steps v (runs_to c roles es x.no_other x.has_deck steps v r)) (elim at [ inl z ↦ inl (z.0, rests_to c roles es x.no_other x.has_deck v z.1) | inr z ↦ inr z ]);
    stream = λ steps v r n n'. (realises steps v r).stream n n';
    reads = λ steps v r i.
        let j = reading_to c roles es x.no_other x.has_deck v i in
        let own = (realises steps v r).reading (record { place = j.place; risen = j.risen ∙ sym ((x.deck).ports).clocks_are; rests = j.rests }) in
        record {
          outputs = λ k lt. ports_read_own_run d roles net s steps v x.deck (leads_widen s.clocking d roles steps (power_world d roles) v (runs_to c roles es x.no_other x.has_deck steps v r)) j.place j.risen j.rests k lt;
          nexts = own.nexts;
        };
    launches = λ steps v r at. (realises steps v r).launched at;
  }

pub exchanged_deck_is_right : ExchangedDeckIsRight
exchanged_deck_is_right c roles net s x = right c roles net s x
