-- Runs over cycles beside a network's: the invariant of the loop over them, and the verdict at its end.
use Rattle.std.proofs.Common.{◌≡◌, ℕ, ◌+◌, Bool, List, [], ◌∷◌, length, drop, map, refl, sym, ap, ◌∙◌, subst, arith, length-drop, length-take, Some, None}
use Rattle.network.specs.declared.network.NetLatch.{NetLatch}
use Rattle.network.specs.NetworkData.{NetworkData}
use Rattle.network.specs.Networks.{IsNetwork}
use Rattle.net_run.specs.RunnerData.{RunnerData, RunsNetwork}
use Rattle.net_run.specs.Runs.{Cycle, IsNetworkCycle, IsNetworkRunFrom, IsValuation, value_at}
use Rattle.net_run.proofs.Valuations.{one_valuation}
use Rattle.trace_tool.specs.Comparisons.{ComparesAll, ComparesCycle, IsBeside}
use Rattle.trace_tool.specs.Courses.{State}
use Rattle.trace_tool.specs.RunData.{RunData}
use Rattle.trace_tool.specs.SetupData.{SetupData}
use Rattle.trace_tool.specs.Verdicts.{IsCycleVerdict, IsVerdictFrom}
use Rattle.trace_tool.specs.declared.verdict.Verdict.{Verdict}
use Rattle.trace_tool.specs.declared.verdict.Verdict.TheVariants as verdicts
use Rattle.trace_tool.proofs.ComparedCycles.{cycle_weaker}

pins_width : (n : NetworkData) (pins state values : List Bool) → IsNetwork n → IsValuation n pins state values → length pins ≡ n.inputs
pins_width n pins state values is v = omega (arith, ap length (sym v.inputs), length-take n.inputs values, v.count, is.count)

state_width : (n : NetworkData) (pins state values : List Bool) → IsNetwork n → IsValuation n pins state values → length state ≡ length n.latches
state_width n pins state values is v =
    omega (arith, ap length (sym v.latches), length-take (length n.latches) (drop n.inputs values), length-drop n.inputs values, v.count, is.count)

-- for the same pins and state a network has one cycle
network_cycle_same : (n : NetworkData) (pins state : List Bool) (c d : Cycle) → IsNetwork n → IsNetworkCycle n pins state c → IsNetworkCycle n pins state d → c ≡ d
network_cycle_same n pins state c d is x y =
    let one = one_valuation n pins state is (pins_width n pins state x.values is x.valuation) (state_width n pins state x.values is x.valuation) in
    let same : x.values ≡ y.values = one.1.only x.values x.valuation ∙ sym (one.1.only y.values y.valuation) in
    let outputs = x.outputs_are ∙ ap (λ v. map (value_at v) n.outputs) same ∙ sym y.outputs_are in
    let next = x.next_is ∙ ap (λ v. map (λ (l : NetLatch). value_at v l.input) n.latches) same ∙ sym y.next_is in
    λ i. record { outputs = outputs i; next = next i }

module _ {F : Type 0} (P : F → ℕ → ℕ → ℕ → Type 0) where
  -- the first cycles are the network's, the runner has run them, and the verdict of what follows is that of the whole
  pub record GoesOn (s : RunData F) (n : NetworkData) (stream : List (List Bool)) (cycles : List Cycle) (number : ℕ) (now : RunData F) (runner : RunnerData) : Type 0 where
    pub runs : RunsNetwork n runner
    pub left : List Cycle
    pub wanted : IsNetworkRunFrom n runner.state (drop number stream) left
    pub follows : (verdict : Verdict) → IsVerdictFrom (P s.pick) s.setup now.state number (drop number stream) left verdict
        → IsVerdictFrom (P s.pick) s.setup s.state 0 stream cycles verdict

  pub record HasCompared (s : RunData F) (old : RunnerData) (stream : List (List Bool)) (number : ℕ) (now : RunData F) (runner : RunnerData) : Type 0 where
    pub beside : IsBeside now.setup.roles runner
    pub same_setup : now.setup ≡ s.setup
    pub same_pick : now.pick ≡ s.pick
    pub goes_on : (n : NetworkData) (cycles : List Cycle) → RunsNetwork n old → IsNetworkRunFrom n old.state stream cycles → GoesOn s n stream cycles number now runner

  pub compared_none : (s : RunData F) (old : RunnerData) (stream : List (List Bool)) → IsBeside s.setup.roles old → HasCompared s old stream 0 s old
  compared_none s old stream beside = record {
    beside = beside;
    same_setup = refl;
    same_pick = refl;
    goes_on = λ n cycles runs run. record { runs = runs; left = cycles; wanted = run; follows = λ verdict h. h };
  }

  -- a cycle's verdict in a run is one in an earlier run with the same setup and who picks
  cycle_moved : (s now : RunData F) (number : ℕ) (pins wanted : List Bool) (Follows : State → Type 0) (verdict : Verdict) → now.pick ≡ s.pick → now.setup ≡ s.setup
      → IsCycleVerdict (P now.pick) now.setup now.state number pins wanted Follows verdict → IsCycleVerdict (P s.pick) s.setup now.state number pins wanted Follows verdict
  cycle_moved s now number pins wanted Follows verdict pick setup h =
      subst (λ (p : F). IsCycleVerdict (P p) s.setup now.state number pins wanted Follows verdict) pick
      (subst (λ (c : SetupData). IsCycleVerdict (P now.pick) c now.state number pins wanted Follows verdict) setup h)

  -- the cycles that are left of the network's run begin with the one that the runner ran
  pub record Parts (n : NetworkData) (stream : List (List Bool)) (left : List Cycle) (number : ℕ) (pins outputs : List Bool) (runner new : RunnerData) : Type 0 where
    pub cycle : Cycle
    pub more : List Cycle
    pub left_is : left ≡ cycle ∷ more
    pub outputs_are : cycle.outputs ≡ outputs
    pub rest : IsNetworkRunFrom n new.state (drop (number + 1) stream) more

  parts : (n : NetworkData) (stream : List (List Bool)) (left : List Cycle) (number : ℕ) (pins outputs : List Bool) (runner new : RunnerData)
      → RunsNetwork n runner → IsNetworkRunFrom n runner.state (drop number stream) left → drop number stream ≡ pins ∷ drop (number + 1) stream
      → IsNetworkCycle n pins runner.state (record { outputs = outputs; next = new.state }) → Parts n stream left number pins outputs runner new
  parts n stream left number pins outputs runner new runs run split cycle =
      by left (subst (λ (l : List (List Bool)). IsNetworkRunFrom n runner.state l left) split run)
    where
      by : (left : List Cycle) → IsNetworkRunFrom n runner.state (pins ∷ drop (number + 1) stream) left → Parts n stream left number pins outputs runner new
      by [] h = absurd h
      by (c ∷ cs) h =
          let same = network_cycle_same n pins runner.state c (record { outputs = outputs; next = new.state }) runs.network h.0 cycle in
          record {
            cycle = c;
            more = cs;
            left_is = refl;
            outputs_are = ap (λ (d : Cycle). d.outputs) same;
            rest = subst (λ (d : Cycle). IsNetworkRunFrom n d.next (drop (number + 1) stream) cs) same h.1;
          }

  -- the verdict of what is left, by that of its first cycle
  from_cycle : (s now : RunData F) (n : NetworkData) (stream : List (List Bool)) (left : List Cycle) (number : ℕ) (pins outputs : List Bool) (runner new : RunnerData) (verdict : Verdict)
      → now.pick ≡ s.pick → now.setup ≡ s.setup → drop number stream ≡ pins ∷ drop (number + 1) stream
      → (part : Parts n stream left number pins outputs runner new)
      → IsCycleVerdict (P now.pick) now.setup now.state number pins outputs (λ last. IsVerdictFrom (P s.pick) s.setup last (number + 1) (drop (number + 1) stream) part.more verdict) verdict
      → IsVerdictFrom (P s.pick) s.setup now.state number (drop number stream) left verdict
  from_cycle s now n stream left number pins outputs runner new verdict pick setup split part h =
      subst (λ (l : List (List Bool)). IsVerdictFrom (P s.pick) s.setup now.state number l left verdict) (sym split)
      (subst (λ (l : List Cycle). IsVerdictFrom (P s.pick) s.setup now.state number (pins ∷ drop (number + 1) stream) l verdict) (sym part.left_is)
      (subst (λ (w : List Bool). IsCycleVerdict (P s.pick) s.setup now.state number pins w (λ last. IsVerdictFrom (P s.pick) s.setup last (number + 1) (drop (number + 1) stream) part.more verdict) verdict)
      (sym part.outputs_are)
      (cycle_moved s now number pins outputs (λ last. IsVerdictFrom (P s.pick) s.setup last (number + 1) (drop (number + 1) stream) part.more verdict) verdict pick setup h)))

  beside_next : (now next : RunData F) (runner new : RunnerData) (b : IsBeside now.setup.roles runner) → RunsNetwork b.0 new → next.setup ≡ now.setup → IsBeside next.setup.roles new
  beside_next now next runner new (n, runs, inputs, outs) more same = (
    n,
    more,
    inputs ∙ ap (λ (c : SetupData). c.roles.pins) (sym same),
    outs ∙ ap (λ (c : SetupData). c.roles.outs) (sym same),
  )

  -- one more cycle in which nothing differs
  pub compared_more : (s now next : RunData F) (old runner new : RunnerData) (stream : List (List Bool)) (number : ℕ) (pins : List Bool)
      → HasCompared s old stream number now runner → drop number stream ≡ pins ∷ drop (number + 1) stream
      → ComparesCycle P number pins now runner None next new → HasCompared s old stream (number + 1) next new
  compared_more s now next old runner new stream number pins h split one =
      let passed = one.compared in
      record {
        beside = beside_next now next runner new h.beside (one.cycle h.beside.0 h.beside.1).1 passed.same_setup;
        same_setup = passed.same_setup ∙ h.same_setup;
        same_pick = passed.same_pick ∙ h.same_pick;
        goes_on = λ n cycles runs run.
            let g = h.goes_on n cycles runs run in
            let made = one.cycle n g.runs in
            let part = parts n stream g.left number pins one.outputs runner new g.runs g.wanted split made.0 in
            record {
              runs = made.1;
              left = part.more;
              wanted = part.rest;
              follows = λ verdict more.
                  g.follows verdict
                  (from_cycle s now n stream g.left number pins one.outputs runner new verdict h.same_pick h.same_setup split part
                  (cycle_weaker (P now.pick) now.setup now.state number pins one.outputs (λ last. last ≡ next.state)
                  (λ last. IsVerdictFrom (P s.pick) s.setup last (number + 1) (drop (number + 1) stream) part.more verdict) verdict
                  (λ last is. subst (λ (t : State). IsVerdictFrom (P s.pick) s.setup t (number + 1) (drop (number + 1) stream) part.more verdict) (sym is) more)
                  (passed.follows verdict)));
            };
      }

  -- a cycle that decides the verdict
  pub compared_decided : (s now next : RunData F) (old runner new : RunnerData) (stream : List (List Bool)) (number : ℕ) (pins : List Bool) (verdict : Verdict)
      → HasCompared s old stream number now runner → drop number stream ≡ pins ∷ drop (number + 1) stream
      → ComparesCycle P number pins now runner (Some verdict) next new → ComparesAll P s old stream verdict
  compared_decided s now next old runner new stream number pins verdict h split one = λ n cycles runs run.
      let g = h.goes_on n cycles runs run in
      let made = one.cycle n g.runs in
      let part = parts n stream g.left number pins one.outputs runner new g.runs g.wanted split made.0 in
      g.follows verdict
      (from_cycle s now n stream g.left number pins one.outputs runner new verdict h.same_pick h.same_setup split part
      (cycle_weaker (P now.pick) now.setup now.state number pins one.outputs (λ last. ⊥)
      (λ last. IsVerdictFrom (P s.pick) s.setup last (number + 1) (drop (number + 1) stream) part.more verdict) verdict (λ last never. absurd never) one.compared))

  -- no cycle is left
  pub compared_all : (s now : RunData F) (old runner : RunnerData) (stream : List (List Bool)) (number : ℕ) (verdict : Verdict)
      → HasCompared s old stream number now runner → drop number stream ≡ [] → verdict ≡ verdicts.Same number now.state.step → ComparesAll P s old stream verdict
  compared_all s now old runner stream number verdict h none is = λ n cycles runs run.
      let g = h.goes_on n cycles runs run in
      g.follows verdict
      (subst (λ (l : List (List Bool)). IsVerdictFrom (P s.pick) s.setup now.state number l g.left verdict) (sym none)
      (ended n g.left runner.state (subst (λ (l : List (List Bool)). IsNetworkRunFrom n runner.state l g.left) none g.wanted)))
    where
      ended : (n : NetworkData) (left : List Cycle) (state : List Bool) → IsNetworkRunFrom n state [] left → IsVerdictFrom (P s.pick) s.setup now.state number [] left verdict
      ended n [] state run = is
      ended n (c ∷ cs) state run = absurd run
