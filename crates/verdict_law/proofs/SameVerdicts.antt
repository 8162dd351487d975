-- A circuit that realises a network in time has the verdict that all is the same.
use Rattle.std.proofs.Common.{◌≡◌, ℕ, suc, ◌+◌, Bool, List, [], ◌∷◌, ◌++◌, length, map, slice_get, refl, sym, subst, ap, ◌∙◌, arith, append_assoc, inl, inr, zero-add}
use Rattle.std.proofs.lemmas.Option.{same_Some}
use Rattle.dom_base.specs.declared.tri.Tri.{Tri}
use Rattle.deck.specs.CircuitData.{CircuitData}
use Rattle.deck.specs.declared.role.Roles.{Roles}
use Rattle.switch_model.specs.LinksData.{links_of}
use Rattle.event_sim.specs.Orders.{By}
use Rattle.network.specs.NetworkData.{NetworkData}
use Rattle.network.specs.Networks.{IsNetwork}
use Rattle.network.proofs.Lists.{get_map}
use Rattle.net_run.specs.Runs.{Cycle, IsNetworkRun, IsNetworkRunFrom, start}
use Rattle.port_runs.specs.Environment.{bit}
use Rattle.port_runs.specs.declared.clocking.Clocking.TheVariants.{Together}
use Rattle.trace_tool.specs.Courses.{Course, IsCourse, Settled, State, Unsettled}
use Rattle.trace_tool.specs.Moves.{evaluation_moves, latching_moves, power_moves}
use Rattle.trace_tool.specs.SetupData.{silent}
use Rattle.trace_tool.specs.Traces.{outputs, power_state}
use Rattle.trace_tool.specs.Verdicts.{DifferFirstAt, IsAfter, IsFirstWrong, IsReadingVerdict, IsRunVerdict, IsVerdictFrom}
use Rattle.trace_tool.specs.declared.verdict.Verdict.{Verdict}
use Rattle.trace_tool.specs.declared.verdict.Verdict.TheVariants.{Same}
use Rattle.trace_tool.proofs.FailedCourses.{fails}
use Rattle.verdict_law.specs.Laws.{IsSame, RealisesInTime}
use Rattle.verdict_law.proofs.NetworkReadings.{FitsPins, fits_front, long_at, reads_wanted, run_push, state_behind, state_behind-push}
use Rattle.verdict_law.proofs.PortCycles.{IsReadAt, IsReady, evaluates, evaluates_never, latches, latches_never, powers, powers_never}

module _ (order : ℕ → ℕ → ℕ) (network : NetworkData) (c : CircuitData) (roles : Roles) (more : ℕ) (verdict : Verdict)
    (is_network : IsNetwork network) (clocks : roles.clocks ≡ suc more) (widths : roles.pins ≡ network.inputs) (realises : RealisesInTime Together network c roles) where
  none_wrong : (names : List (List ℕ)) (wanted : List Bool) (found : List Tri) (pin : List ℕ) (one : Bool) (value : Tri) → found ≡ map bit wanted
      → IsFirstWrong names wanted found pin one value → ⊥
  none_wrong names wanted found pin one value same wrong =
      wrong.apart (same_Some value (bit one) (sym wrong.found_is ∙ (ap (λ l. slice_get l wrong.index) same ∙ get_map bit wanted wrong.index one wrong.wanted_is)))

  -- what follows a cycle after which the stream is this one is the same
  abbrev RestIsSame : List (List Bool) → List Cycle → List (List Bool) → ℕ → Type 0
  RestIsSame stream cycles done number =
      (last : State) → IsReady Together c roles (By order) done last.values → IsVerdictFrom (By order) (silent c roles) last number stream cycles verdict
      → (events : ℕ) × (verdict ≡ Same (number + length stream) events)

  same_from : (stream : List (List Bool)) (cycles : List Cycle) (done : List (List Bool)) (earlier : List Cycle) (s : State) (number : ℕ)
      → FitsPins network (done ++ stream) → IsNetworkRun network done earlier → IsNetworkRunFrom network (state_behind (start network) earlier) stream cycles
      → IsReady Together c roles (By order) done s.values → IsVerdictFrom (By order) (silent c roles) s number stream cycles verdict
      → (events : ℕ) × (verdict ≡ Same (number + length stream) events)
  same_from [] [] done earlier s number fits run rest ready v = (s.step, v ∙ ap (λ n. Same n s.step) (none number))
    where
      none : (n : ℕ) → n ≡ n + 0
      none n = omega arith
  same_from [] (wanted ∷ cycles) done earlier s number fits run rest ready v = absurd v
  same_from (pins ∷ stream) [] done earlier s number fits run rest ready v = absurd v
  same_from (pins ∷ stream) (wanted ∷ cycles) done earlier s number fits run rest ready v =
      evaluated
      (λ last between after.
      same_from stream cycles (done ++ pins ∷ []) (earlier ++ wanted ∷ []) last (number + 1) (subst (FitsPins network) (sym joined) fits) pushed
      (subst (λ x. IsNetworkRunFrom network x stream cycles) (sym (state_behind-push (start network) earlier wanted)) rest.1) between after)
      v.0 v.1 v.2 v.3
    where
      further : (n k : ℕ) → n + 1 + k ≡ n + suc k
      further n k = omega arith

      long : length pins ≡ roles.pins
      long = long_at network done stream pins fits ∙ sym widths

      joined : (done ++ pins ∷ []) ++ stream ≡ done ++ pins ∷ stream
      joined = append_assoc done (pins ∷ []) stream

      pushed : IsNetworkRun network (done ++ pins ∷ []) (earlier ++ wanted ∷ [])
      pushed = run_push network (start network) done earlier pins wanted run rest.0

      fits_now : FitsPins network (done ++ pins ∷ [])
      fits_now = fits_front network (done ++ pins ∷ []) stream (subst (FitsPins network) (sym joined) fits)

      latched : RestIsSame stream cycles (done ++ pins ∷ []) (number + 1) → (read : State) → IsReadAt Together c roles (By order) (done ++ pins ∷ []) read.values → (course : Course) (last : State)
          → IsCourse (By order) (silent c roles) read (latching_moves roles) course last
          → IsAfter number course (IsVerdictFrom (By order) (silent c roles) last (number + 1) stream cycles verdict) verdict
          → (events : ℕ) × (verdict ≡ Same (number + length (pins ∷ stream)) events)
      latched next read at (Settled events) last course after =
          let same = next last (latches Together c roles (By order) (done ++ pins ∷ []) read.values read.step events last at course) after in
          (same.0, same.1 ∙ ap (λ n. Same n same.0) (further number (length stream)))
      latched next read at (Unsettled events unrest) last course after =
          absurd (latches_never Together c roles (By order) realises.few_events (done ++ pins ∷ []) read.values read.step at (fails (By order) (links_of c roles) read (latching_moves roles) events unrest last course))

      reading : RestIsSame stream cycles (done ++ pins ∷ []) (number + 1) → (read : State) → IsReadAt Together c roles (By order) (done ++ pins ∷ []) read.values
          → IsReadingVerdict (silent c roles) number wanted.outputs read
          ((course : Course) × (last : State) × IsCourse (By order) (silent c roles) read (latching_moves roles) course last
          × IsAfter number course (IsVerdictFrom (By order) (silent c roles) last (number + 1) stream cycles verdict) verdict) verdict
          → (events : ℕ) × (verdict ≡ Same (number + length (pins ∷ stream)) events)
      reading next read at (inl wrong) =
          absurd (none_wrong _ wanted.outputs (outputs roles read.values) wrong.0 wrong.1 wrong.2 (reads_wanted Together network c roles (By order) is_network realises (done ++ pins ∷ []) earlier wanted read fits_now pushed at) wrong.3)
      reading next read at (inr right) = latched next read at (right.1).0 (right.1).1 (right.1).2 (right.1).3

      evaluated : RestIsSame stream cycles (done ++ pins ∷ []) (number + 1) → (course : Course) (read : State) → IsCourse (By order) (silent c roles) s (evaluation_moves roles pins) course read
          → IsAfter number course (IsReadingVerdict (silent c roles) number wanted.outputs read
          ((course : Course) × (last : State) × IsCourse (By order) (silent c roles) read (latching_moves roles) course last
          × IsAfter number course (IsVerdictFrom (By order) (silent c roles) last (number + 1) stream cycles verdict) verdict) verdict) verdict
          → (events : ℕ) × (verdict ≡ Same (number + length (pins ∷ stream)) events)
      evaluated next (Settled events) read course after = reading next read (evaluates Together c roles (By order) done pins more s.values s.step events read clocks long ready course) after
      evaluated next (Unsettled events unrest) read course after =
          absurd (evaluates_never Together c roles (By order) realises.few_events done pins more s.values s.step clocks long ready (fails (By order) (links_of c roles) s (evaluation_moves roles pins) events unrest read course))

  pub same_run : (stream : List (List Bool)) (cycles : List Cycle) → FitsPins network stream → IsNetworkRun network stream cycles
      → IsRunVerdict (By order) (silent c roles) stream cycles verdict → IsSame verdict (length stream)
  same_run stream cycles fits run v = powered v.0 v.1 v.2 v.3
    where
      powered : (course : Course) (begun : State) → IsCourse (By order) (silent c roles) (power_state (silent c roles)) (power_moves roles) course begun
          → IsAfter 0 course (IsVerdictFrom (By order) (silent c roles) begun 0 stream cycles verdict) verdict → IsSame verdict (length stream)
      powered (Settled events) begun course after =
          let same = same_from stream cycles [] [] begun 0 fits tt run (powers Together c roles (By order) events begun course) after in
          record { events = same.0; verdict_is = same.1 ∙ ap (λ n. Same n same.0) (zero-add (length stream)) }
      powered (Unsettled events unrest) begun course after =
          absurd (powers_never Together c roles (By order) realises.few_events (fails (By order) (links_of c roles) (power_state (silent c roles)) (power_moves roles) events unrest begun course))

-- the same lists don't differ
pub none_differ : (wanted found : List (List ℕ)) (index : ℕ) → wanted ≡ found → DifferFirstAt wanted found index → ⊥
none_differ wanted found index same differ = differ.apart (ap (λ l. slice_get l index) same)
