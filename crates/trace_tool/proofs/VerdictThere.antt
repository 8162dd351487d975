-- A text of BLIF that has a network, a deck whose ports are in order, and a stimulus for the network's inputs have a verdict.
use Rattle.std.proofs.Common.{◌≡◌, ℕ, ◌+◌, inl, inr, Bool, List, [], ◌∷◌, drop, length, refl, sym, ap, ◌∙◌}
use Rattle.std.proofs.lemmas.List.{length-map}
use Rattle.deck.specs.CircuitData.{CircuitData}
use Rattle.deck.specs.PortLayout.{first_output, first_pin}
use Rattle.deck.specs.Roles.{AreRoles, ports_of}
use Rattle.deck.specs.declared.role.Roles.{Roles}
use Rattle.network.specs.NetworkData.{NetworkData}
use Rattle.net_run.specs.Runs.{Cycle, IsNetworkRunFrom, start, value_at}
use Rattle.net_run.proofs.OneRun.{one_run}
use Rattle.event_sim.specs.Laws.{IsBelow}
use Rattle.event_sim.specs.Orders.{By}
use Rattle.event_sim.proofs.PowerState.{power-length, sources_within}
use Rattle.trace_tool.specs.Courses.{Course, IsCourse, Settled, State, Unsettled}
use Rattle.trace_tool.specs.Moves.{evaluation_moves, latching_moves, power_moves}
use Rattle.trace_tool.specs.SetupData.{silent}
use Rattle.trace_tool.specs.Traces.{picked_place, outputs, power_state}
use Rattle.trace_tool.specs.VerdictLaws.{VerdictIsThere}
use Rattle.trace_tool.specs.Verdicts.{IsAfter, IsReadingVerdict, IsRunVerdict, IsVerdict, IsVerdictFrom, network_ports, pins_and_outputs}
use Rattle.trace_tool.specs.declared.verdict.Verdict.{Verdict}
use Rattle.trace_tool.specs.declared.verdict.Verdict.TheVariants as verdicts
use Rattle.trace_tool.proofs.CourseThere.{course_is_there}
use Rattle.trace_tool.proofs.CoursesJoined.{course-length}
use Rattle.trace_tool.proofs.FirstDifferences.{difference_there}
use Rattle.trace_tool.proofs.NetworkTexts.{text_network_kept}
use Rattle.trace_tool.proofs.PortCounts.{counts_agree, names_count, outputs_count}
use Rattle.trace_tool.proofs.TraceThere.{order-below}
use Rattle.trace_tool.proofs.WrongOutputs.{wrong_there}

-- what follows a course has a verdict where there is one that follows
after_there : (cycle : ℕ) (course : Course) (Rest : Verdict → Type 0) → (verdict : Verdict) × Rest verdict
    → (verdict : Verdict) × IsAfter cycle course (Rest verdict) verdict
after_there cycle (Settled events) Rest more = more
after_there cycle (Unsettled events last) Rest more = (verdicts.Unsettled cycle (length last), refl)

module _ (place : ℕ → ℕ → ℕ) (below : IsBelow place) (c : CircuitData) (roles : Roles) (are : AreRoles (ports_of c) roles) where
  read_there : (cycle : ℕ) (wanted : List Bool) (read : State) (Rest : Verdict → Type 0) → length wanted ≡ roles.outs → length read.values ≡ length c.nets
      → (verdict : Verdict) × Rest verdict → (verdict : Verdict) × IsReadingVerdict (silent c roles) cycle wanted read (Rest verdict) verdict
  read_there cycle wanted read Rest count whole more =
      elim (wrong_there (drop (first_output roles) (ports_of c)) wanted (outputs roles read.values) (names_count c roles are ∙ sym count) (outputs_count c roles read.values are whole ∙ sym count)) [
        | inl w ↦ (verdicts.Differ cycle w.0 w.1 w.2, inl (w.0, w.1, w.2, w.3, refl))
        | inr same ↦ (more.0, inr (same, more.1))
      ]

  from_there : (n : NetworkData) (s : State) (cycle : ℕ) (state : List Bool) (stream : List (List Bool)) (cycles : List Cycle)
      → length n.outputs ≡ roles.outs → length s.values ≡ length c.nets → IsNetworkRunFrom n state stream cycles
      → (verdict : Verdict) × IsVerdictFrom (By place) (silent c roles) s cycle stream cycles verdict
  from_there n s cycle state [] [] count whole run = (verdicts.Same cycle s.step, refl)
  from_there n s cycle state [] (d ∷ ds) count whole run = absurd run
  from_there n s cycle state (p ∷ ps) [] count whole run = absurd run
  from_there n s cycle state (p ∷ ps) (d ∷ ds) count whole run =
      let setup = silent c roles in
      let evaluated = course_is_there place setup below s (evaluation_moves roles p) in
      let read = evaluated.1 in
      let read_whole = course-length (By place) setup s read (evaluation_moves roles p) evaluated.0 evaluated.2 ∙ whole in
      let latched = course_is_there place setup below read (latching_moves roles) in
      let last = latched.1 in
      let last_whole = course-length (By place) setup read last (latching_moves roles) latched.0 latched.2 ∙ read_whole in
      let wide : length d.outputs ≡ roles.outs = ap length run.0.outputs_are ∙ length-map n.outputs (value_at run.0.values) ∙ count in
      let behind = after_there cycle latched.0 (λ v. IsVerdictFrom (By place) setup last (cycle + 1) ps ds v) (from_there n last (cycle + 1) d.next ps ds count last_whole run.1) in
      let reading = read_there cycle d.outputs read
      (λ v. (k : Course) × (t : State) × IsCourse (By place) setup read (latching_moves roles) k t × IsAfter cycle k (IsVerdictFrom (By place) setup t (cycle + 1) ps ds v) v)
      wide read_whole (behind.0, (latched.0, last, latched.2, behind.1)) in
      let all = after_there cycle evaluated.0
      (λ v. IsReadingVerdict setup cycle d.outputs read ((k : Course) × (t : State) × IsCourse (By place) setup read (latching_moves roles) k t × IsAfter cycle k (IsVerdictFrom (By place) setup t (cycle + 1) ps ds v) v) v)
      reading in
      (all.0, (evaluated.0, read, evaluated.2, all.1))

  run_there : (n : NetworkData) (state : List Bool) (stream : List (List Bool)) (cycles : List Cycle) → length n.outputs ≡ roles.outs → IsNetworkRunFrom n state stream cycles
      → (verdict : Verdict) × IsRunVerdict (By place) (silent c roles) stream cycles verdict
  run_there n state stream cycles count run =
      let setup = silent c roles in
      let power = course_is_there place setup below (power_state setup) (power_moves roles) in
      let whole = course-length (By place) setup (power_state setup) power.1 (power_moves roles) power.0 power.2 ∙ power-length roles (length c.nets) (sources_within c roles are) in
      let all = after_there 0 power.0 (λ v. IsVerdictFrom (By place) setup power.1 0 stream cycles v) (from_there n power.1 0 state stream cycles count whole run) in
      (all.0, (power.0, power.1, power.2, all.1))

pub verdict_there : (place : ℕ → ℕ → ℕ) → IsBelow place → (n : NetworkData) (c : CircuitData) (roles : Roles) (stream : List (List Bool)) (cycles : List Cycle)
    → AreRoles (ports_of c) roles → (pins_and_outputs c roles ≡ network_ports n → length n.outputs ≡ roles.outs) → IsNetworkRunFrom n (start n) stream cycles
    → (verdict : Verdict) × IsVerdict (By place) n c roles stream cycles verdict
verdict_there place below n c roles stream cycles are counts run = elim (difference_there (network_ports n) (pins_and_outputs c roles)) [
  | inl d ↦ (verdicts.PortsDiffer (first_pin roles + d.0), inl (d.0, d.1, refl))
  | inr same ↦
      let v = run_there place below c roles are n (start n) stream cycles (counts same) run in
      (v.0, inr (same, v.1))
]

pub verdict_is_there : VerdictIsThere
verdict_is_there blif deck stim order seed n c roles stream has is_deck are is_stimulus =
    let kept = text_network_kept blif n has in
    let run = one_run n stream kept is_stimulus.widths_are in
    let v = verdict_there (picked_place order seed) (order-below order seed) n c roles stream run.0 are (λ same. (counts_agree c roles n are kept same).1) run.1.is_run in (
      v.0,
      record {
        network = n;
        has = has;
        circuit = c;
        roles = roles;
        is_deck = is_deck;
        are_roles = are;
        stream = stream;
        is_stimulus = is_stimulus;
        cycles = run.0;
        is_run = run.1.is_run;
        is_verdict = v.1;
      },
    )
