-- A loose domino deck that does what a network does is right in every run, where all clocks fall together and as its own do.
use Rattle.std.specs.Prelude.{codes, ◌≢◌}
use Rattle.std.specs.Fmt.{decimal}
use Rattle.std.specs.List.{AllByRecursion, range_with_len}
use Rattle.std.proofs.Common.{Bool, false, List, [], ap, arith, length, map, subst, suc, sym, zero, ℕ, ◌++◌, ◌+◌, ◌<◌, ◌∙◌, ◌∷◌, ◌≡◌, Some, slice_get, zero-add}
use Rattle.std.proofs.lemmas.Option.{get_or_from_slice_get, slice_get_within}
use Rattle.dom_base.specs.declared.tri.Tri.{Tri}
use Rattle.dom_base.proofs.Lists.{AllByRecursion-left, AllByRecursion-right}
use Rattle.deck.specs.CircuitData.{CircuitData}
use Rattle.deck.specs.Nets.{net_number}
use Rattle.deck.specs.PortLayout.{first_output}
use Rattle.deck.specs.Switches.{value_of}
use Rattle.deck.specs.declared.role.Roles.{Roles}
use Rattle.switch_model.specs.LinksData.{links_of}
use Rattle.network.specs.declared.network.NetLatch.{NetLatch}
use Rattle.network.specs.NetworkData.{NetworkData}
use Rattle.net_run.specs.Runs.{Cycle, IsNetworkRun, IsNetworkRunFrom}
use Rattle.port_runs.specs.Environment.{Evaluation, Launched, Released, Reset, Step, World, bit, stream_of}
use Rattle.port_runs.specs.declared.clocking.Clocking.{Clocking}
use Rattle.port_runs.specs.PortRuns.{RunsBy, power_world}
use Rattle.port_runs.specs.Readings.{IsReading}
use Rattle.port_runs.proofs.RunOrder.{runs_stand_in_order}
use Rattle.domino_law.specs.DominoDeck.{AreRunsOf}
use Rattle.domino_law.specs.Laws.{Realises}
use Rattle.domino_law.specs.Nets.{Net}
use Rattle.domino_law.specs.OwnRun.{bit_at, next_state, outputs_of, start_state, state_after}
use Rattle.domino_law.specs.Shape.{Shape}
use Rattle.domino_law.proofs.DominoDecks.{ports_read_own_run}
use Rattle.domino_law.proofs.OwnRunLaws.{realises_own_run}
use Rattle.domino_law.proofs.PortLaws.{leads_own, loose, overpowered, run_of, runs_as_domino, start}
use Rattle.domino_law.proofs.RunsHonest.{state_from-more}
use Rattle.deck_form.proofs.DeckForms.{length_map}
use Rattle.deck_law.specs.Headline.{IsCycleOf, IsRightInEveryRun, LaunchesCycle, ReadsCycle}
use Rattle.deck_law.specs.OwnRuns.{DoesNetwork, NetworkDecksAreRight}
use Rattle.deck_law.proofs.NetworkRuns.{run_to}
use Rattle.deck_law.proofs.OwnRun.{range_length, map_ext}

range_get : (a n k x : ℕ) → slice_get (range_with_len a n) k ≡ Some x → x ≡ a + k
range_get a zero k x e = absurd (cc)
range_get a (suc n) zero x e = let same : a ≡ x = cc in omega (arith, same)
range_get a (suc n) (suc k) x e = let more = range_get (a + 1) n k x e in omega (arith, more)

-- values in a row of nets are bits
pub row_is : (values : List Tri) (at : ℕ → ℕ) (a n : ℕ) (bits : List Bool) → length bits ≡ n → ((k : ℕ) → k < n → value_of values (at (a + k)) ≡ bit (bit_at bits k))
    → map (λ j. value_of values (at j)) (range_with_len a n) ≡ map bit bits
row_is values at a n bits count h =
    map_ext (λ j. value_of values (at j)) bit (range_with_len a n) bits (range_length a n ∙ sym count)
    (λ k x y e f.
    let lt = slice_get_within bits k y f in
    ap (λ m. value_of values (at m)) (range_get a n k x e) ∙ h k (omega (arith, lt, count)) ∙ ap bit (get_or_from_slice_get bits k y false f))

module _ {network : NetworkData} {circuit : CircuitData} {roles : Roles} {net : Net → ℕ} {s : Shape}
    (does : DoesNetwork network circuit roles net s) where
  -- the cycle of the last pins of a stream
  pub record HasCycle (past : List (List Bool)) (pins : List Bool) : Type 0 where
    pub cycle : Cycle
    pub earlier : List Cycle
    pub run : IsNetworkRun network (past ++ pins ∷ []) (earlier ++ cycle ∷ [])
    pub outputs : outputs_of s (state_after s past) pins ≡ cycle.outputs
    pub next : next_state s (state_after s past) pins ≡ cycle.next
    pub out_fits : length cycle.outputs ≡ length network.outputs
    pub next_fits : length cycle.next ≡ length network.latches

  pub has_cycle : (past : List (List Bool)) (pins : List Bool) → AllByRecursion (λ (u : List Bool). length u ≡ network.inputs) (past ++ pins ∷ []) → HasCycle past pins
  has_cycle past pins fit =
      let front = AllByRecursion-left (λ (u : List Bool). length u ≡ network.inputs) past (pins ∷ []) fit in
      let last = AllByRecursion-right (λ (u : List Bool). length u ≡ network.inputs) past (pins ∷ []) fit in
      let state_fits : length (start_state s) ≡ length network.latches = ap length does.runs.starts ∙ length_map (λ (l : NetLatch). l.init) network.latches in
      let r = run_to network s does.runs past (start_state s) pins front last.0 state_fits in
      record {
        earlier = r.0;
        cycle = r.1;
        run = subst (λ x. IsNetworkRunFrom network x (past ++ pins ∷ []) (r.0 ++ r.1 ∷ [])) does.runs.starts r.2;
        outputs = r.3;
        next = r.4;
        out_fits = r.5;
        next_fits = r.6;
      }

module _ {network : NetworkData} {circuit : CircuitData} {roles : Roles} {net : Net → ℕ} {s : Shape}
    (does : DoesNetwork network circuit roles net s) (clocking : Clocking) (are : AreRunsOf s clocking) where
  realises : (steps : List Step) (v : World) → RunsBy clocking circuit roles steps v → Realises (links_of circuit roles) net s steps v
  realises steps v r =
      realises_own_run (links_of circuit roles) net s steps (power_world circuit roles) v (loose circuit roles net s does.deck)
      (start circuit roles net s does.deck) (run_of circuit roles net s does.deck clocking are steps v r)

  -- the run stands in a cycle
  record IsInCycle (steps : List Step) (v : World) : Type 0 where
    of : HasCycle does v.past v.pins
    is_cycle : IsCycleOf network (stream_of steps) of.cycle

  in_cycle : (steps : List Step) (v : World) → RunsBy clocking circuit roles steps v → v.place ≢ Reset → v.place ≢ Released → IsInCycle steps v
  in_cycle steps v r a b =
      let stream = (realises steps v r).stream a b in
      let fit = (runs_stand_in_order clocking circuit roles steps v r).bits in
      let c = has_cycle does v.past v.pins
      (subst (λ n. AllByRecursion (λ (u : List Bool). length u ≡ n) (v.past ++ v.pins ∷ [])) does.pins_are (subst (AllByRecursion (λ (u : List Bool). length u ≡ roles.pins)) stream fit)) in
      record { of = c; is_cycle = record { earlier = c.earlier; run = subst (λ l. IsNetworkRun network l (c.earlier ++ c.cycle ∷ [])) (sym stream) c.run } }

  reads : (steps : List Step) (v : World) → RunsBy clocking circuit roles steps v → IsReading circuit roles v
      → ReadsCycle network circuit roles (stream_of steps) v.values
  reads steps v r at =
      let c = in_cycle steps v r (λ e. evaluation_reset (sym at.place ∙ e)) (λ e. evaluation_released (sym at.place ∙ e)) in
      let own = (realises steps v r).reading (record { place = at.place; risen = at.risen ∙ sym (does.deck.ports).clocks_are; rests = at.rests }) in
      record {
        cycle = (c.of).cycle;
        is_cycle = c.is_cycle;
        outputs = row_is v.values (λ n. n) (first_output roles) roles.outs (c.of).cycle.outputs ((c.of).out_fits ∙ sym does.outs_are)
            (λ k lt. ports_read_own_run circuit roles net s steps v does.deck (leads_own circuit roles net s does.deck clocking are steps (power_world circuit roles) v r) at.place at.risen at.rests k lt ∙ ap (λ l. bit (bit_at l k)) (c.of).outputs);
        nexts = row_is v.values (λ j. net_number circuit.nets (codes "x" ++ decimal j)) 0 (length network.latches) (c.of).cycle.next (c.of).next_fits
            (λ k lt.
            let b = does.latch_there k lt in
            ap (λ n. value_of v.values (net_number circuit.nets (codes "x" ++ decimal n))) (zero-add k) ∙ ap (value_of v.values) (sym (does.data_are k lt)) ∙ own.nexts k b.0 b.1 ∙ ap (λ l. bit (bit_at l k)) (c.of).next);
      }
    where
      evaluation_reset : Evaluation ≡ Reset → ⊥
      evaluation_reset e = cc

      evaluation_released : Evaluation ≡ Released → ⊥
      evaluation_released e = cc

  launches : (steps : List Step) (v : World) → RunsBy clocking circuit roles steps v → v.place ≡ Launched
      → LaunchesCycle network circuit (stream_of steps) v.values
  launches steps v r at =
      let c = in_cycle steps v r (λ e. launched_reset (sym at ∙ e)) (λ e. launched_released (sym at ∙ e)) in
      record {
        cycle = (c.of).cycle;
        is_cycle = c.is_cycle;
        state = row_is v.values (λ j. net_number circuit.nets (codes "q" ++ decimal j)) 0 (length network.latches) (c.of).cycle.next (c.of).next_fits
            (λ k lt.
            let b = does.latch_there k lt in
            ap (λ n. value_of v.values (net_number circuit.nets (codes "q" ++ decimal n))) (zero-add k)
            ∙ ap (value_of v.values) (sym (does.outputs_are k lt))
            ∙ (realises steps v r).launched at k b.0 b.1
            ∙ ap (λ l. bit (bit_at l k)) (state_from-more s (start_state s) v.past v.pins ∙ (c.of).next));
      }
    where
      launched_reset : Launched ≡ Reset → ⊥
      launched_reset e = cc

      launched_released : Launched ≡ Released → ⊥
      launched_released e = cc

  pub right : IsRightInEveryRun clocking network circuit roles
  right = record {
    domino = runs_as_domino circuit roles net s does.deck clocking are;
    overpowered = overpowered circuit roles net s does.deck clocking are;
    reads = reads;
    launches = launches;
  }

pub network_decks_are_right : NetworkDecksAreRight
network_decks_are_right clocking network c roles net s does are = right does clocking are
