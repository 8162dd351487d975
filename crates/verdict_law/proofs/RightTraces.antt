-- The trace of a right deck settles, and has the outputs of the text's network.
use Rattle.std.proofs.Common.{◌≡◌, ◌⊎◌, ℕ, zero, suc, ◌+◌, ◌≤◌, Bool, List, [], ◌∷◌, ◌++◌, length, map, true, refl, sym, subst, ap, ◌∙◌, arith, append_assoc, inl, inr}
use Rattle.std.specs.Prelude.{Some}
use Rattle.dom_base.specs.declared.tri.Tri.{Tri}
use Rattle.deck.specs.CircuitData.{CircuitData}
use Rattle.deck.specs.DeckText.{IsDeckOf}
use Rattle.deck.specs.Roles.{AreRoles, ports_of}
use Rattle.deck.specs.declared.role.Roles.{Roles}
use Rattle.deck.proofs.PortLayout.{AreRoles-same}
use Rattle.event_sim.specs.Orders.{By}
use Rattle.event_sim.specs.declared.event.Event.{Event}
use Rattle.network.specs.NetworkData.{NetworkData}
use Rattle.network.specs.Networks.{IsNetwork}
use Rattle.net_run.specs.Runs.{Cycle, IsNetworkRun, IsNetworkRunFrom, start}
use Rattle.net_run.proofs.OneRun.{one_run}
use Rattle.port_runs.specs.Environment.{bit}
use Rattle.port_runs.specs.Moves.{PortValue}
use Rattle.port_runs.specs.declared.clocking.Clocking.{Clocking}
use Rattle.stim_text.specs.CycleLines.{cycle_line}
use Rattle.stim_text.specs.Stimuli.{IsStimFaultAt, IsStimulusOf}
use Rattle.switch_model.specs.LinksData.{LinksData, links_of}
use Rattle.trace_tool.specs.CosimRefusals.{HasNetworkOf}
use Rattle.trace_tool.specs.Courses.{Course, IsCourse, LeadsTo, Settled, State, Unsettled, after, moved}
use Rattle.trace_tool.specs.Moves.{cycle_moves, evaluation_by, latching_moves, power_moves}
use Rattle.trace_tool.specs.Probes.{AreNets}
use Rattle.trace_tool.specs.Refusals.{IsRefused}
use Rattle.trace_tool.specs.SetupData.{SetupData}
use Rattle.trace_tool.specs.TraceData.{TraceData, TraceOptionsData}
use Rattle.trace_tool.specs.TraceLines.{event_lines, power_line}
use Rattle.trace_tool.specs.Traces.{AreCycles, IsRun, IsTraceBy, IsTraceFrom, outputs, picked_place, power_state, row_line, setup_of}
use Rattle.trace_tool.specs.declared.fault.TraceFault.{TraceFault}
use Rattle.trace_tool.specs.declared.fault.TraceFault.TheVariants.{Blif, Flat, Deck, Ports, NoNet, Stim, Memory}
use Rattle.trace_tool.proofs.FailedCourses.{Fails, fails}
use Rattle.trace_tool.proofs.NetworkTexts.{network_same}
use Rattle.trace_tool.proofs.OneAnswer.{bad_ports_apart, no_circuit, no_stimulus, roles_same, stimulus_same}
use Rattle.trace_tool.proofs.TraceThere.{there_by}
use Rattle.deck_law.specs.Headline.{roles_of}
use Rattle.verdict_law.specs.Laws.{IsRightWhere, RealisesInTime}
use Rattle.verdict_law.specs.NetworkTraces.{AreNetworkLines, IsNetworkText, IsNetworkTrace, RightDeckHasOutputs, RightDeckHasTrace, RightDeckIsRefusedForNets, network_line}
use Rattle.verdict_law.proofs.NetworkReadings.{FitsPins, fits_front, long_at, reads_wanted, run_push, state_behind, state_behind-push}
use Rattle.verdict_law.proofs.PortCycles.{IsReadAt, IsReady, evaluates, evaluates_never, latches, latches_never, powers, powers_never}
use Rattle.verdict_law.proofs.RightDecks.{are, is_network, realises}

-- a course of moves and then of others is one of each
module _ (order : ℕ → ℕ → ℕ → Type 0) (links : LinksData) where
  leads_cut : (s t : State) (xs ys : List (List PortValue)) (events : List Event) → LeadsTo order links s (xs ++ ys) events t
      → (front back : List Event) × (mid : State) × LeadsTo order links s xs front mid × LeadsTo order links mid ys back t
  leads_cut s t [] ys events l = ([], events, s, (refl, refl), l)
  leads_cut s t (x ∷ xs) ys events (first, rest, is, ends, later) =
      let cut = leads_cut (after (moved s x) first) t xs ys rest later in
      (first ++ cut.0, cut.1, cut.2, (first, cut.0, refl, ends, cut.3), cut.4)

  fails_cut : (s : State) (xs ys : List (List PortValue)) → Fails order links s (xs ++ ys)
      → Fails order links s xs ⊎ ((front : List Event) × (mid : State) × LeadsTo order links s xs front mid × Fails order links mid ys)
  fails_cut s [] ys f = inr ([], s, (refl, refl), f)
  fails_cut s (x ∷ xs) ys (inl u) = inl (inl u)
  fails_cut s (x ∷ xs) ys (inr (first, ends, later)) = by (fails_cut (after (moved s x) first) xs ys later)
    where
      by : Fails order links (after (moved s x) first) xs
          ⊎ ((front : List Event) × (mid : State) × LeadsTo order links (after (moved s x) first) xs front mid × Fails order links mid ys)
          → Fails order links s (x ∷ xs) ⊎ ((front : List Event) × (mid : State) × LeadsTo order links s (x ∷ xs) front mid × Fails order links mid ys)
      by (inl f) = inl (inr (first, ends, f))
      by (inr (front, mid, leads, f)) = inr (first ++ front, mid, (first, front, refl, ends, leads), f)

module _ (order : ℕ → ℕ → ℕ) (network : NetworkData) (setup : SetupData) (more : ℕ) (is : IsNetwork network)
    (clocks : setup.roles.clocks ≡ suc more) (widths : setup.roles.pins ≡ network.inputs)
    (time : RealisesInTime setup.clocking network setup.circuit setup.roles) where
  abbrev c : CircuitData
  c = setup.circuit

  abbrev roles : Roles
  roles = setup.roles

  abbrev links : LinksData
  links = links_of setup.circuit setup.roles

  abbrev Ready : List (List Bool) → List Tri → Type 0
  Ready done values = IsReady setup.clocking setup.circuit setup.roles (By order) done values

  abbrev ReadAt : List (List Bool) → List Tri → Type 0
  ReadAt done values = IsReadAt setup.clocking setup.circuit setup.roles (By order) done values

  -- one cycle, from rest to rest
  module _ (done : List (List Bool)) (pins : List Bool) (s : State) (long : length pins ≡ roles.pins) (ready : Ready done s.values) where
    read_at : (course : Course) (read : State) → IsCourse (By order) setup s (evaluation_by setup.clocking roles pins) course read
        → ReadAt (done ++ pins ∷ []) read.values
    read_at (Settled events) read is_course =
        evaluates setup.clocking c roles (By order) done pins more s.values s.step events read clocks long ready is_course
    read_at (Unsettled events last) read is_course =
        absurd (evaluates_never setup.clocking c roles (By order) time.few_events done pins more s.values s.step clocks long ready
        (fails (By order) links s (evaluation_by setup.clocking roles pins) events last read is_course))

    never : (events last : List Event) (t : State) → IsCourse (By order) setup s (cycle_moves setup.clocking roles pins) (Unsettled events last) t → ⊥
    never events last t is_course =
        by (fails_cut (By order) links s (evaluation_by setup.clocking roles pins) (latching_moves roles)
        (fails (By order) links s (cycle_moves setup.clocking roles pins) events last t is_course))
      where
        by : Fails (By order) links s (evaluation_by setup.clocking roles pins)
            ⊎ ((front : List Event) × (mid : State) × LeadsTo (By order) links s (evaluation_by setup.clocking roles pins) front mid
            × Fails (By order) links mid (latching_moves roles)) → ⊥
        by (inl f) = evaluates_never setup.clocking c roles (By order) time.few_events done pins more s.values s.step clocks long ready f
        by (inr (front, mid, leads, f)) =
            latches_never setup.clocking c roles (By order) time.few_events (done ++ pins ∷ []) mid.values mid.step
            (read_at (Settled front) mid leads) f

    ends : (events : List Event) (t : State) → IsCourse (By order) setup s (cycle_moves setup.clocking roles pins) (Settled events) t
        → Ready (done ++ pins ∷ []) t.values
    ends events t leads =
        let cut = leads_cut (By order) links s t (evaluation_by setup.clocking roles pins) (latching_moves roles) events leads in
        latches setup.clocking c roles (By order) (done ++ pins ∷ []) (cut.2).values (cut.2).step cut.1 t
        (read_at (Settled cut.0) cut.2 cut.3) cut.4

  -- the trace of the cycles from one on
  abbrev HasLines : ℕ → List (List Bool) → List Cycle → TraceData → Type 0
  HasLines number stream cycles trace = (trace.settled ≡ true) × AreNetworkLines setup number stream cycles trace.text

  lines_from : (stream : List (List Bool)) (cycles : List Cycle) (done : List (List Bool)) (earlier : List Cycle) (s : State) (number : ℕ)
      (trace : TraceData) → FitsPins network (done ++ stream) → IsNetworkRun network done earlier
      → IsNetworkRunFrom network (state_behind (start network) earlier) stream cycles → Ready done s.values
      → AreCycles (By order) setup s number stream trace → HasLines number stream cycles trace
  lines_from [] [] done earlier s number trace fits run rest ready lines =
      (ap (λ (t : TraceData). t.settled) lines, ap (λ (t : TraceData). t.text) lines)
  lines_from [] (wanted ∷ cycles) done earlier s number trace fits run rest ready lines = absurd rest
  lines_from (pins ∷ stream) [] done earlier s number trace fits run rest ready lines = absurd rest
  lines_from (pins ∷ stream) (wanted ∷ cycles) done earlier s number trace fits run rest ready (course, read, last, one, from) =
      by course one.whole from
      (λ next between lines.
      lines_from stream cycles (done ++ pins ∷ []) (earlier ++ wanted ∷ []) last (number + 1) next
      (subst (FitsPins network) (sym joined) fits) pushed
      (subst (λ x. IsNetworkRunFrom network x stream cycles) (sym (state_behind-push (start network) earlier wanted)) rest.1) between lines)
    where
      long : length pins ≡ roles.pins
      long = long_at network done stream pins fits ∙ sym widths

      joined : (done ++ pins ∷ []) ++ stream ≡ done ++ pins ∷ stream
      joined = append_assoc done (pins ∷ []) stream

      pushed : IsNetworkRun network (done ++ pins ∷ []) (earlier ++ wanted ∷ [])
      pushed = run_push network (start network) done earlier pins wanted run rest.0

      fits_now : FitsPins network (done ++ pins ∷ [])
      fits_now = fits_front network (done ++ pins ∷ []) stream (subst (FitsPins network) (sym joined) fits)

      read_is : outputs roles read.values ≡ map bit wanted.outputs
      read_is =
          reads_wanted setup.clocking network c roles (By order) is time (done ++ pins ∷ []) earlier wanted read fits_now pushed
          (read_at done pins s long ready one.evaluated read one.evaluation)

      text_of : (events : List Event) (next : TraceData)
          → event_lines setup events ++ row_line setup number pins read (length events) ++ next.text
          ≡ event_lines setup events ++ network_line number pins wanted (length events) ++ next.text
      text_of events next =
          ap (λ outs. event_lines setup events
          ++ cycle_line (record { cycle = number; pins = pins; outs = outs; events = Some (length events) }) ++ next.text) read_is

      by : (course : Course) → IsCourse (By order) setup s (cycle_moves setup.clocking roles pins) course last
          → IsTraceFrom setup number (row_line setup number pins read) course (AreCycles (By order) setup last (number + 1) stream) trace
          → ((next : TraceData) → Ready (done ++ pins ∷ []) last.values → AreCycles (By order) setup last (number + 1) stream next
          → HasLines (number + 1) stream cycles next)
          → HasLines number (pins ∷ stream) (wanted ∷ cycles) trace
      by (Settled events) whole (next, lines, trace_is) go =
          let more = go next (ends done pins s long ready events last whole) lines in (
            ap (λ (t : TraceData). t.settled) trace_is ∙ more.0,
            (events, next.text, more.1, ap (λ (t : TraceData). t.text) trace_is ∙ text_of events next),
          )
      by (Unsettled events unrest) whole from go = absurd (never done pins s long ready events unrest last whole)

  -- and of a run
  pub run_lines : (stream : List (List Bool)) (cycles : List Cycle) (trace : TraceData) → FitsPins network stream
      → IsNetworkRun network stream cycles → IsRun (By order) setup stream trace
      → (trace.settled ≡ true) × IsNetworkText network setup stream trace.text
  run_lines stream cycles trace fits run (course, begun, powered, from) = by course powered from
    where
      by : (course : Course) → IsCourse (By order) setup (power_state setup) (power_moves roles) course begun
          → IsTraceFrom setup 0 power_line course (AreCycles (By order) setup begun 0 stream) trace
          → (trace.settled ≡ true) × IsNetworkText network setup stream trace.text
      by (Settled events) leads (next, lines, trace_is) =
          let told = lines_from stream cycles [] [] begun 0 next fits tt run (powers setup.clocking c roles (By order) events begun leads) lines in (
            ap (λ (t : TraceData). t.settled) trace_is ∙ told.0,
            record {
              cycles = cycles;
              is_run = run;
              powered = events;
              rest = next.text;
              lines = told.1;
              text_is = ap (λ (t : TraceData). t.text) trace_is;
            },
          )
      by (Unsettled events unrest) ends_so from =
          absurd (powers_never setup.clocking c roles (By order) time.few_events
          (fails (By order) links (power_state setup) (power_moves roles) events unrest begun ends_so))

module _ (clocking : Clocking) (blif deck stim : List ℕ) (phases : ℕ) (network : NetworkData) (stream : List (List Bool))
    (options : TraceOptionsData) (right : IsRightWhere clocking blif phases deck) (theirs : HasNetworkOf blif network)
    (stimulus : IsStimulusOf network.inputs stim stream) where
  networks : right.network ≡ network
  networks = network_same blif right.network network right.has theirs

  is_one : IsNetwork network
  is_one = subst IsNetwork networks (is_network clocking blif deck phases right)

  abbrev circuit : CircuitData
  circuit = right.circuit

  roles_are : AreRoles (ports_of circuit) (roles_of network phases)
  roles_are = subst (λ (n : NetworkData). AreRoles (ports_of circuit) (roles_of n phases)) networks (are clocking blif deck phases right)

  in_time : RealisesInTime clocking network circuit (roles_of network phases)
  in_time =
      subst (λ (n : NetworkData). RealisesInTime clocking n circuit (roles_of n phases)) networks
      (realises clocking right.network circuit (roles_of right.network phases) (are clocking blif deck phases right) right.right)

  some_more : (n : ℕ) → 1 ≤ n → (more : ℕ) × (n ≡ suc more)
  some_more zero some = absurd (omega (arith, some))
  some_more (suc more) some = (more, refl)

  -- the trace of a right deck has the network's outputs
  has_outputs : (trace : TraceData) → IsTraceBy clocking deck stim options trace
      → IsNetworkTrace clocking deck options network stream trace
  has_outputs trace t =
      let roles : Roles = roles_of network phases in
      let circuits = right.no_other t.circuit t.is_deck in
      let same_roles = AreRoles-same (ports_of circuit) t.roles roles
      (subst (λ (d : CircuitData). AreRoles (ports_of d) t.roles) circuits t.are_roles) roles_are in
      let streams = stimulus_same network.inputs stim t.cycles stream
      (subst (λ (r : Roles). IsStimulusOf r.pins stim t.cycles) same_roles t.is_stimulus) stimulus in
      let order = picked_place options.order options.seed in
      let run : IsRun (By order) (setup_of clocking circuit roles options) stream trace =
      subst (λ (cs : List (List Bool)). IsRun (By order) (setup_of clocking circuit roles options) cs trace) streams
      (subst (λ (r : Roles). IsRun (By order) (setup_of clocking circuit r options) t.cycles trace) same_roles
      (subst (λ (d : CircuitData). IsRun (By order) (setup_of clocking d t.roles options) t.cycles trace) circuits t.is_run)) in
      let fits : FitsPins network stream = stimulus.widths_are in
      let theirs_run = one_run network stream is_one fits in
      let one = some_more phases right.some_clock in
      let told = run_lines order network (setup_of clocking circuit roles options) one.0 is_one one.1 refl in_time stream theirs_run.0 trace
      fits theirs_run.1.is_run run in
      record {
        settled = told.0;
        outputs = record { circuit = circuit; roles = roles; is_deck = right.reads_back; are_roles = roles_are; is_text = told.1 };
      }

  -- there is one where its probes name nets
  has_trace : (d : CircuitData) → IsDeckOf deck d → AreNets d.nets options.probes → (trace : TraceData) × IsTraceBy clocking deck stim options trace
  has_trace d is_deck nets =
      there_by clocking deck stim options circuit (roles_of network phases) stream right.reads_back roles_are
      (subst (λ (d : CircuitData). AreNets d.nets options.probes) (right.no_other d is_deck) nets) stimulus

  refused_for : (why : TraceFault) → IsRefused deck stim options.probes why → (why ≡ Memory) ⊎ ((name : List ℕ) × (why ≡ NoNet name))
  refused_for (Blif line kind) r = absurd r
  refused_for (Flat fault) r = absurd r
  refused_for (Deck line kind) r = absurd (no_circuit deck line kind circuit r right.reads_back)
  refused_for (Ports place) r = absurd (bad_ports_apart deck place circuit (roles_of network phases) r right.reads_back roles_are)
  refused_for (NoNet name) r = inr (name, refl)
  refused_for (Stim line kind) r =
      let same = roles_same deck r.circuit circuit r.roles (roles_of network phases) r.is_deck right.reads_back r.are_roles roles_are in
      absurd (no_stimulus network.inputs stim line kind stream (subst (λ (q : Roles). IsStimFaultAt q.pins stim line kind) same r.fault) stimulus)
  refused_for Memory r = inl refl

pub right_deck_has_outputs : RightDeckHasOutputs
right_deck_has_outputs clocking blif deck stim phases network stream options trace right theirs stimulus t =
    has_outputs clocking blif deck stim phases network stream options right theirs stimulus trace t

pub right_deck_has_trace : RightDeckHasTrace
right_deck_has_trace clocking blif deck stim phases network stream options circuit right theirs stimulus is nets =
    has_trace clocking blif deck stim phases network stream options right theirs stimulus circuit is nets

pub right_deck_is_refused_for_nets : RightDeckIsRefusedForNets
right_deck_is_refused_for_nets clocking blif deck stim phases network stream options why right theirs stimulus r =
    refused_for clocking blif deck stim phases network stream options right theirs stimulus why r
