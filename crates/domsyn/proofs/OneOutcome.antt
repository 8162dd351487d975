-- Over files that are known, a command has one outcome.
use Rattle.std.proofs.Common.{◌≡◌, ◌≢◌, ◌<◌, ◌∙◌, ◌⊎◌, inl, inr, ℕ, Bool, List, [], ◌∷◌, length, None, Some, sym, ap, subst, arith}
use Rattle.std.specs.Prelude.{if◌then◌else◌}
use Rattle.std.proofs.lemmas.Option.{same_Some}
use Rattle.blif_ast.specs.Printed.{printed}
use Rattle.dom_io.specs.Held.{file_limit, held}
use Rattle.net_flatten.specs.OneModel.{file_of}
use Rattle.domsyn.specs.declared.refusal.Refusal.{Refusal}
use Rattle.domsyn.specs.declared.refusal.Refusal.TheVariants.{TooLong}
use Rattle.command_words.specs.Commands.{Command, Synth, Flat as flat, Run as run, Sim, Cosim, Report, Bench, Audit}
use Rattle.command_words.specs.declared.command.Method.{Method}
use Rattle.synth_flow.specs.Summaries.{IsSummaryOf}
use Rattle.synth_flow.specs.SummaryLines.{summary_lines}
use Rattle.deck_form.specs.declared.options.SynthOptions.{SynthOptions}
use Rattle.port_runs.specs.declared.clocking.Clocking.{Clocking}
use Rattle.port_runs.specs.declared.clocking.Clocking.TheVariants.{Together}
use Rattle.domsyn.proofs.DeckCauses.{deck_causes_alike, deck_or_cause}
use Rattle.command_answers.specs.Verdicts.{is_same_verdict}
use Rattle.command_answers.proofs.OneNetwork.{network_kept, networks_alike, runs_alike}
use Rattle.command_answers.proofs.MethodTexts.{text_one}
use Rattle.command_answers.specs.Decks.{AreFiguresFor, IsDeckFor, IsTextBy}
use Rattle.domsyn.specs.Outcomes.{IsAuditReport, IsComparison, IsDeck, IsFile, IsFirstTooLong, IsFlat, HasNoDeck, HasNone, IsNoAudit, IsNoComparison, IsNoRun, IsNoTrace, IsOutcome, IsPrintedRun, IsFigureReport, IsTooLong, IsTrace, Outcome, Printed, Refused}
use Rattle.command_answers.specs.Networks.{HasNetwork, IsRunOf}
use Rattle.domsyn.specs.Refusals.{HasNoDeckFor, HasNoNetworkFor, IsFaulty, IsNotRunFor, about, refusal_of}
use Rattle.command_answers.specs.Audits.{IsAuditOf, IsUnaudited}
use Rattle.command_answers.proofs.Benches.{bench_one}
use Rattle.domsyn.proofs.KnownFiles.{Pairs}
use Rattle.command_answers.proofs.OneAudit.{audit_one, unaudited_apart, unaudited_same}
use Rattle.command_answers.proofs.OneSummary.{summaries_one}
use Rattle.domsyn.proofs.NetworkCauses.{network_causes_alike, network_or_cause, run_causes_alike, run_or_cause}
use Rattle.trace_tool.specs.Refusals.{IsRefused}
use Rattle.trace_tool.specs.TraceData.{TraceData, TraceOptionsData}
use Rattle.trace_tool.specs.Traces.{IsTraceBy}
use Rattle.trace_tool.specs.CosimRefusals.{IsCosimRefused}
use Rattle.trace_tool.specs.VerdictLines.{verdict_line}
use Rattle.trace_tool.specs.Verdicts.{IsVerdictOf}
use Rattle.trace_tool.specs.declared.fault.TraceFault.{TraceFault}
use Rattle.trace_tool.specs.declared.fault.TraceFault.TheVariants.{Memory}
use Rattle.trace_tool.specs.declared.options.Order.{Order}
use Rattle.trace_tool.specs.declared.options.ProbeWord.{ProbeWord}
use Rattle.trace_tool.specs.declared.verdict.Verdict.{Verdict}
use Rattle.trace_tool.proofs.OneAnswer.{answer_by}
use Rattle.trace_tool.proofs.OneVerdictOrCause.{verdict_is_one}

-- a file has one list of bytes
pub bytes_alike : (known : Pairs) (name a b : List ℕ) → held known name ≡ Some a → held known name ≡ Some b → a ≡ b
bytes_alike known name a b x y = same_Some a b (sym x ∙ y)

-- a file that has few enough bytes hasn't too many
pub not_too_long : (known : Pairs) (name bytes : List ℕ) → IsFile (Some known) name bytes → IsTooLong (Some known) name → ⊥
not_too_long known name bytes is long =
    let same = bytes_alike known name bytes long.bytes is.holds long.holds in
    let fits = is.within in
    let more = subst (λ (b : List ℕ). file_limit < length b) (sym same) long.long in
    omega (arith, fits, more)

pub printed_alike : (s s' : ℕ) (t t' : List ℕ) → s ≡ s' → t ≡ t' → Printed s t ≡ Printed s' t'
printed_alike s s' t t' x y = λ i. Printed (x i) (y i)

pub refused_alike : (f f' : List ℕ) (w w' : Refusal) → f ≡ f' → w ≡ w' → Refused f w ≡ Refused f' w'
refused_alike f f' w w' x y = λ i. Refused (x i) (y i)

-- the trace of a deck over a stimulus
sim_printed : (known : Pairs) (deck stim : List ℕ) (options : TraceOptionsData) (clocking : Clocking) (s s' : ℕ) (t t' : List ℕ)
    → IsTrace (Some known) deck stim options clocking s t → IsTrace (Some known) deck stim options clocking s' t' → Printed s t ≡ Printed s' t'
sim_printed known deck stim options clocking s s' t t' x y =
    let decks = bytes_alike known deck y.deck_bytes x.deck_bytes y.is_deck.holds x.is_deck.holds in
    let stims = bytes_alike known stim y.stim_bytes x.stim_bytes y.is_stim.holds x.is_stim.holds in
    let first : TraceData = record { text = t; settled = x.settled } in
    let second : TraceData = record { text = t'; settled = y.settled } in
    let moved : IsTraceBy clocking x.deck_bytes x.stim_bytes options second =
    subst (λ (b : List ℕ). IsTraceBy clocking b x.stim_bytes options second) decks (subst (λ (b : List ℕ). IsTraceBy clocking y.deck_bytes b options second) stims y.trace) in
    let same : first ≡ second = (answer_by clocking).trace x.deck_bytes x.stim_bytes options first second x.trace moved in
    printed_alike s s' t t' (x.status_is ∙ (ap (λ (trace : TraceData). if trace.settled then 0 else 6) same ∙ sym y.status_is)) (ap (λ (trace : TraceData). trace.text) same)

-- a fault that is reported as a cause isn't that it is out of memory
pub reported_fault : (fault : TraceFault) (why : Refusal) → refusal_of fault ≡ Some why → fault ≢ Memory
reported_fault fault why is = λ e. let none : None ≡ Some why = sym (ap refusal_of e) ∙ is in absurd cc

-- where files are refused for one fault, what is reported of it is one
pub faulty_alike : (Refuses : TraceFault → Type 0) (file deck stim f f' : List ℕ) (w w' : Refusal)
    → ((a b : TraceFault) → a ≢ Memory → b ≢ Memory → Refuses a → Refuses b → a ≡ b) → IsFaulty Refuses file deck stim f w → IsFaulty Refuses file deck stim f' w' → Refused f w ≡ Refused f' w'
faulty_alike Refuses file deck stim f f' w w' one x y =
    let same = one x.fault y.fault (reported_fault x.fault w x.cause) (reported_fault y.fault w' y.cause) x.refuses y.refuses in
    let causes = same_Some w w' (sym x.cause ∙ ap refusal_of same ∙ y.cause) in
    refused_alike f f' w w' (x.name_is ∙ ap (about file deck stim) causes ∙ sym y.name_is) causes

-- files that were read: none is too long
one_long : (known : Pairs) (file name bytes : List ℕ) → IsFile (Some known) file bytes → IsFirstTooLong (Some known) (file ∷ []) name → ⊥
one_long known file name bytes a (inl long) = not_too_long known file bytes a long.1
one_long known file name bytes a (inr more) = more.2

pub no_long : (known : Pairs) (deck stim name deck_bytes stim_bytes : List ℕ) → IsFile (Some known) deck deck_bytes → IsFile (Some known) stim stim_bytes
    → IsFirstTooLong (Some known) (deck ∷ stim ∷ []) name → ⊥
no_long known deck stim name deck_bytes stim_bytes a b (inl long) = not_too_long known deck deck_bytes a long.1
no_long known deck stim name deck_bytes stim_bytes a b (inr more) = one_long known stim name stim_bytes b more.2

pub none_long : (known : Pairs) (file deck stim name bytes deck_bytes stim_bytes : List ℕ) → IsFile (Some known) file bytes → IsFile (Some known) deck deck_bytes → IsFile (Some known) stim stim_bytes
    → IsFirstTooLong (Some known) (file ∷ deck ∷ stim ∷ []) name → ⊥
none_long known file deck stim name bytes deck_bytes stim_bytes a b c (inl long) = not_too_long known file bytes a long.1
none_long known file deck stim name bytes deck_bytes stim_bytes a b c (inr more) = no_long known deck stim name deck_bytes stim_bytes b c more.2

-- the first file that is too long is one
pub first_alike : (known : Pairs) (names : List (List ℕ)) (f f' : List ℕ) → IsFirstTooLong (Some known) names f → IsFirstTooLong (Some known) names f' → f ≡ f'
first_alike known [] f f' x y = absurd x
first_alike known (file ∷ more) f f' (inl x) (inl y) = x.0 ∙ sym y.0
first_alike known (file ∷ more) f f' (inl x) (inr y) = absurd (not_too_long known file y.0 y.1 x.1)
first_alike known (file ∷ more) f f' (inr x) (inl y) = absurd (not_too_long known file x.0 x.1 y.1)
first_alike known (file ∷ more) f f' (inr x) (inr y) = first_alike known more f f' x.2 y.2

-- the cause for which a deck and a stimulus have no trace
sim_refused_here : (known : Pairs) (deck stim deck_bytes stim_bytes name : List ℕ) (probes : List ProbeWord) (why : Refusal) → IsFile (Some known) deck deck_bytes → IsFile (Some known) stim stim_bytes
    → IsNoTrace (Some known) deck stim probes name why → IsFaulty (IsRefused deck_bytes stim_bytes probes) deck deck stim name why
sim_refused_here known deck stim deck_bytes stim_bytes name probes why a b x =
    let decks = bytes_alike known deck x.deck_bytes deck_bytes x.is_deck.holds a.holds in
    let stims = bytes_alike known stim x.stim_bytes stim_bytes x.is_stim.holds b.holds in
    subst (λ (bytes : List ℕ). IsFaulty (IsRefused bytes stim_bytes probes) deck deck stim name why) decks
    (subst (λ (bytes : List ℕ). IsFaulty (IsRefused x.deck_bytes bytes probes) deck deck stim name why) stims x.faulty)

-- the file that is refused, of a deck and a stimulus, and the cause
abbrev IsSimRefusal : Pairs → List ℕ → List ℕ → List ProbeWord → List ℕ → Refusal → Type 0
IsSimRefusal known deck stim probes name why = ((why ≡ TooLong) × IsFirstTooLong (Some known) (deck ∷ stim ∷ []) name) ⊎ IsNoTrace (Some known) deck stim probes name why

sim_refused : (known : Pairs) (deck stim f f' : List ℕ) (probes : List ProbeWord) (w w' : Refusal) → IsSimRefusal known deck stim probes f w → IsSimRefusal known deck stim probes f' w'
    → Refused f w ≡ Refused f' w'
sim_refused known deck stim f f' probes w w' (inl x) (inl y) = refused_alike f f' w w' (first_alike known (deck ∷ stim ∷ []) f f' x.1 y.1) (x.0 ∙ sym y.0)
sim_refused known deck stim f f' probes w w' (inl x) (inr y) = absurd (no_long known deck stim f y.deck_bytes y.stim_bytes y.is_deck y.is_stim x.1)
sim_refused known deck stim f f' probes w w' (inr x) (inl y) = absurd (no_long known deck stim f' x.deck_bytes x.stim_bytes x.is_deck x.is_stim y.1)
sim_refused known deck stim f f' probes w w' (inr x) (inr y) =
    faulty_alike (IsRefused x.deck_bytes x.stim_bytes probes) deck deck stim f f' w w' ((answer_by Together).cause x.deck_bytes x.stim_bytes probes) x.faulty
    (sim_refused_here known deck stim x.deck_bytes x.stim_bytes f' probes w' x.is_deck x.is_stim y)

sim_apart : (known : Pairs) (deck stim f : List ℕ) (options : TraceOptionsData) (clocking : Clocking) (s : ℕ) (t : List ℕ) (w : Refusal)
    → IsTrace (Some known) deck stim options clocking s t → IsSimRefusal known deck stim options.probes f w → ⊥
sim_apart known deck stim f options clocking s t w x (inl y) = no_long known deck stim f x.deck_bytes x.stim_bytes x.is_deck x.is_stim y.1
sim_apart known deck stim f options clocking s t w x (inr y) =
    let faulty = sim_refused_here known deck stim x.deck_bytes x.stim_bytes f options.probes w x.is_deck x.is_stim y in
    (answer_by clocking).apart x.deck_bytes x.stim_bytes options (record { text = t; settled = x.settled }) faulty.fault (reported_fault faulty.fault w faulty.cause) x.trace faulty.refuses

-- the verdict of a deck beside a file over a stimulus
module _ (known : Pairs) (file deck stim : List ℕ) (order : Order) (seed : ℕ) where
  cosim_printed : (s s' : ℕ) (t t' : List ℕ) → IsComparison (Some known) file deck stim order seed s t → IsComparison (Some known) file deck stim order seed s' t' → Printed s t ≡ Printed s' t'
  cosim_printed s s' t t' x y =
      let files = bytes_alike known file y.bytes x.bytes y.is_file.holds x.is_file.holds in
      let decks = bytes_alike known deck y.deck_bytes x.deck_bytes y.is_deck.holds x.is_deck.holds in
      let stims = bytes_alike known stim y.stim_bytes x.stim_bytes y.is_stim.holds x.is_stim.holds in
      let moved : IsVerdictOf x.bytes x.deck_bytes x.stim_bytes order seed y.verdict =
      subst (λ (b : List ℕ). IsVerdictOf b x.deck_bytes x.stim_bytes order seed y.verdict) files
      (subst (λ (b : List ℕ). IsVerdictOf y.bytes b x.stim_bytes order seed y.verdict) decks
      (subst (λ (b : List ℕ). IsVerdictOf y.bytes y.deck_bytes b order seed y.verdict) stims y.is_verdict)) in
      let same = verdict_is_one.verdict x.bytes x.deck_bytes x.stim_bytes order seed x.verdict y.verdict x.is_verdict moved in
      printed_alike s s' t t' (x.status_is ∙ ap (λ (verdict : Verdict). if is_same_verdict verdict then 0 else 6) same ∙ sym y.status_is) (x.text_is ∙ ap verdict_line same ∙ sym y.text_is)

  cosim_refused_here : (bytes deck_bytes stim_bytes name : List ℕ) (why : Refusal) → IsFile (Some known) file bytes → IsFile (Some known) deck deck_bytes → IsFile (Some known) stim stim_bytes
      → IsNoComparison (Some known) file deck stim name why → IsFaulty (IsCosimRefused bytes deck_bytes stim_bytes) file deck stim name why
  cosim_refused_here bytes deck_bytes stim_bytes name why a b c x =
      let files = bytes_alike known file x.bytes bytes x.is_file.holds a.holds in
      let decks = bytes_alike known deck x.deck_bytes deck_bytes x.is_deck.holds b.holds in
      let stims = bytes_alike known stim x.stim_bytes stim_bytes x.is_stim.holds c.holds in
      subst (λ (b : List ℕ). IsFaulty (IsCosimRefused b deck_bytes stim_bytes) file deck stim name why) files
      (subst (λ (b : List ℕ). IsFaulty (IsCosimRefused x.bytes b stim_bytes) file deck stim name why) decks
      (subst (λ (b : List ℕ). IsFaulty (IsCosimRefused x.bytes x.deck_bytes b) file deck stim name why) stims x.faulty))

  -- the file that is refused, and the cause
  abbrev IsCosimRefusal : List ℕ → Refusal → Type 0
  IsCosimRefusal name why = ((why ≡ TooLong) × IsFirstTooLong (Some known) (file ∷ deck ∷ stim ∷ []) name) ⊎ IsNoComparison (Some known) file deck stim name why

  cosim_refused : (f f' : List ℕ) (w w' : Refusal) → IsCosimRefusal f w → IsCosimRefusal f' w' → Refused f w ≡ Refused f' w'
  cosim_refused f f' w w' (inl x) (inl y) = refused_alike f f' w w' (first_alike known (file ∷ deck ∷ stim ∷ []) f f' x.1 y.1) (x.0 ∙ sym y.0)
  cosim_refused f f' w w' (inl x) (inr y) = absurd (none_long known file deck stim f y.bytes y.deck_bytes y.stim_bytes y.is_file y.is_deck y.is_stim x.1)
  cosim_refused f f' w w' (inr x) (inl y) = absurd (none_long known file deck stim f' x.bytes x.deck_bytes x.stim_bytes x.is_file x.is_deck x.is_stim y.1)
  cosim_refused f f' w w' (inr x) (inr y) =
      faulty_alike (IsCosimRefused x.bytes x.deck_bytes x.stim_bytes) file deck stim f f' w w' (verdict_is_one.cause x.bytes x.deck_bytes x.stim_bytes) x.faulty
      (cosim_refused_here x.bytes x.deck_bytes x.stim_bytes f' w' x.is_file x.is_deck x.is_stim y)

  cosim_apart : (f : List ℕ) (s : ℕ) (t : List ℕ) (w : Refusal) → IsComparison (Some known) file deck stim order seed s t → IsCosimRefusal f w → ⊥
  cosim_apart f s t w x (inl y) = none_long known file deck stim f x.bytes x.deck_bytes x.stim_bytes x.is_file x.is_deck x.is_stim y.1
  cosim_apart f s t w x (inr y) =
      let faulty = cosim_refused_here x.bytes x.deck_bytes x.stim_bytes f w x.is_file x.is_deck x.is_stim y in
      verdict_is_one.apart x.bytes x.deck_bytes x.stim_bytes order seed x.verdict faulty.fault (reported_fault faulty.fault w faulty.cause) x.is_verdict faulty.refuses

-- the network of a file
flat_printed : (known : Pairs) (file : List ℕ) (s s' : ℕ) (t t' : List ℕ) → IsFlat (Some known) file s t → IsFlat (Some known) file s' t' → Printed s t ≡ Printed s' t'
flat_printed known file s s' t t' x y =
    let same = bytes_alike known file y.bytes x.bytes y.is_file.holds x.is_file.holds in
    let networks = networks_alike x.bytes x.network y.network x.has (subst (λ b. HasNetwork b y.network) same y.has) in
    printed_alike s s' t t' (x.done ∙ sym y.done) (x.text_is ∙ ap (λ n. printed (file_of n)) networks ∙ sym y.text_is)

-- the deck of a file by a method
module _ (known : Pairs) (file : List ℕ) (options : SynthOptions) (method : Method) where
  synth_printed : (s s' : ℕ) (t t' : List ℕ) → IsDeck (Some known) file options method s t → IsDeck (Some known) file options method s' t' → Printed s t ≡ Printed s' t'
  synth_printed s s' t t' x y =
      let same = bytes_alike known file y.bytes x.bytes y.is_file.holds x.is_file.holds in
      let deck = subst (λ b. IsDeckFor b options method t') same y.deck in
      let networks = networks_alike x.bytes deck.network x.deck.network deck.has x.deck.has in
      let text = subst (λ n. IsTextBy method n options t') networks deck.is_text in
      printed_alike s s' t t' (x.done ∙ sym y.done)
      (text_one method x.deck.network (network_kept x.bytes x.deck.network x.deck.has) options t t' x.deck.is_text text)

  synth_apart : (f : List ℕ) (s : ℕ) (t : List ℕ) (w : Refusal) → IsDeck (Some known) file options method s t → HasNoDeck (Some known) file method f w → ⊥
  synth_apart f s t w x y =
      let same = bytes_alike known file y.bytes x.bytes y.holds x.is_file.holds in
      deck_or_cause method x.bytes x.deck.network w x.deck.has x.deck.suited (subst (λ b. HasNoDeckFor method b w) same y.refused)

  synth_refused : (f f' : List ℕ) (w w' : Refusal) → HasNoDeck (Some known) file method f w → HasNoDeck (Some known) file method f' w' → Refused f w ≡ Refused f' w'
  synth_refused f f' w w' x y =
      let same = bytes_alike known file y.bytes x.bytes y.holds x.holds in
      refused_alike f f' w w' (x.name_is ∙ sym y.name_is) (deck_causes_alike method x.bytes w w' x.refused (subst (λ b. HasNoDeckFor method b w') same y.refused))

-- the figures of the deck of a file
report_printed : (known : Pairs) (file : List ℕ) (options : SynthOptions) (s s' : ℕ) (t t' : List ℕ) → IsFigureReport (Some known) file options s t → IsFigureReport (Some known) file options s' t' → Printed s t ≡ Printed s' t'
report_printed known file options s s' t t' x y =
    let same = bytes_alike known file y.bytes x.bytes y.is_file.holds x.is_file.holds in
    let there = subst (λ b. AreFiguresFor b options t') same y.figures in
    let networks = networks_alike x.bytes there.network x.figures.network there.has x.figures.has in
    let summary = subst (λ n. IsSummaryOf n options there.lines.summary) networks there.lines.is_summary in
    let figures = summaries_one x.figures.network (network_kept x.bytes x.figures.network x.figures.has) options x.figures.lines.summary there.lines.summary
    x.figures.lines.is_summary summary in
    let back = sym networks in
    printed_alike s s' t t' (x.done ∙ sym y.done) (x.figures.lines.text_is ∙ (λ i. summary_lines (back i).name (figures i)) ∙ sym there.lines.text_is)

report_apart : (known : Pairs) (file f : List ℕ) (options : SynthOptions) (s : ℕ) (t : List ℕ) (w : Refusal) → IsFigureReport (Some known) file options s t → HasNone (Some known) file f w → ⊥
report_apart known file f options s t w x y =
    let same = bytes_alike known file y.bytes x.bytes y.holds x.is_file.holds in
    network_or_cause x.bytes x.figures.network w x.figures.has (subst (λ b. HasNoNetworkFor b w) same y.refused)

-- the cause for which it has no network
none_alike : (known : Pairs) (file f f' : List ℕ) (w w' : Refusal) → HasNone (Some known) file f w → HasNone (Some known) file f' w' → Refused f w ≡ Refused f' w'
none_alike known file f f' w w' x y =
    let same = bytes_alike known file y.bytes x.bytes y.holds x.holds in
    refused_alike f f' w w' (x.name_is ∙ sym y.name_is) (network_causes_alike x.bytes w w' x.refused (subst (λ b. HasNoNetworkFor b w') same y.refused))

flat_apart : (known : Pairs) (file f : List ℕ) (s : ℕ) (t : List ℕ) (w : Refusal) → IsFlat (Some known) file s t → HasNone (Some known) file f w → ⊥
flat_apart known file f s t w x y =
    let same = bytes_alike known file y.bytes x.bytes y.holds x.is_file.holds in
    network_or_cause x.bytes x.network w x.has (subst (λ b. HasNoNetworkFor b w) same y.refused)

-- the run of the network of a file over a stimulus
module _ (known : Pairs) (file stim : List ℕ) where
  run_printed : (s s' : ℕ) (t t' : List ℕ) → IsPrintedRun (Some known) file stim s t → IsPrintedRun (Some known) file stim s' t' → Printed s t ≡ Printed s' t'
  run_printed s s' t t' x y =
      let files = bytes_alike known file y.bytes x.bytes y.is_file.holds x.is_file.holds in
      let stims = bytes_alike known stim y.stim_bytes x.stim_bytes y.is_stim.holds x.is_stim.holds in
      let moved = subst (λ b. IsRunOf b x.stim_bytes t') files (subst (λ b. IsRunOf y.bytes b t') stims y.run_is) in
      printed_alike s s' t t' (x.done ∙ sym y.done) (runs_alike x.bytes x.stim_bytes t t' x.run_is moved)

  not_run_here : (bytes stim_bytes f : List ℕ) (w : Refusal) → IsFile (Some known) file bytes → IsFile (Some known) stim stim_bytes → IsNoRun (Some known) file stim f w → IsNotRunFor bytes stim_bytes w
  not_run_here bytes stim_bytes f w a b x =
      let files = bytes_alike known file x.bytes bytes x.is_file.holds a.holds in
      let stims = bytes_alike known stim x.stim_bytes stim_bytes x.is_stim.holds b.holds in
      subst (λ b. IsNotRunFor b stim_bytes w) files (subst (λ b. IsNotRunFor x.bytes b w) stims x.refused)

  -- the file that is refused, and the cause
  abbrev IsRunRefusal : List ℕ → Refusal → Type 0
  IsRunRefusal name why = ((why ≡ TooLong) × IsFirstTooLong (Some known) (file ∷ stim ∷ []) name) ⊎ IsNoRun (Some known) file stim name why

  run_refused : (f f' : List ℕ) (w w' : Refusal) → IsRunRefusal f w → IsRunRefusal f' w' → Refused f w ≡ Refused f' w'
  run_refused f f' w w' (inl x) (inl y) = refused_alike f f' w w' (first_alike known (file ∷ stim ∷ []) f f' x.1 y.1) (x.0 ∙ sym y.0)
  run_refused f f' w w' (inl x) (inr y) = absurd (no_long known file stim f y.bytes y.stim_bytes y.is_file y.is_stim x.1)
  run_refused f f' w w' (inr x) (inl y) = absurd (no_long known file stim f' x.bytes x.stim_bytes x.is_file x.is_stim y.1)
  run_refused f f' w w' (inr x) (inr y) =
      let same = run_causes_alike x.bytes x.stim_bytes w w' x.refused (not_run_here x.bytes x.stim_bytes f' w' x.is_file x.is_stim y) in
      refused_alike f f' w w' (x.name_is ∙ ap (about file file stim) same ∙ sym y.name_is) same

  run_apart : (f : List ℕ) (s : ℕ) (t : List ℕ) (w : Refusal) → IsPrintedRun (Some known) file stim s t → IsRunRefusal f w → ⊥
  run_apart f s t w x (inl y) = no_long known file stim f x.bytes x.stim_bytes x.is_file x.is_stim y.1
  run_apart f s t w x (inr y) = run_or_cause x.bytes x.stim_bytes t w x.run_is (not_run_here x.bytes x.stim_bytes f w x.is_file x.is_stim y)

-- what the audit of a deck says
module _ (known : Pairs) (deck : List ℕ) where
  audit_printed : (s s' : ℕ) (t t' : List ℕ) → IsAuditReport (Some known) deck s t → IsAuditReport (Some known) deck s' t' → Printed s t ≡ Printed s' t'
  audit_printed s s' t t' x y =
      let decks = bytes_alike known deck y.bytes x.bytes y.is_file.holds x.is_file.holds in
      let same = audit_one x.bytes x.circuit y.circuit x.answer y.answer x.is_audit (subst (λ (b : List ℕ). IsAuditOf b y.circuit y.answer) decks y.is_audit) in
      printed_alike s s' t t' (x.status_is ∙ ap (λ (yes : Bool). if yes then 0 else 6) same.1 ∙ sym y.status_is) (x.text_is ∙ same.0 ∙ sym y.text_is)

  not_audited_here : (bytes f : List ℕ) (w : Refusal) → IsFile (Some known) deck bytes → IsNoAudit (Some known) deck f w → IsFaulty (IsUnaudited bytes) deck deck deck f w
  not_audited_here bytes f w a x =
      subst (λ (b : List ℕ). IsFaulty (IsUnaudited b) deck deck deck f w) (bytes_alike known deck x.bytes bytes x.is_file.holds a.holds) x.faulty

  -- the file that is refused, and the cause
  abbrev IsAuditRefusal : List ℕ → Refusal → Type 0
  IsAuditRefusal name why = ((why ≡ TooLong) × IsFirstTooLong (Some known) (deck ∷ []) name) ⊎ IsNoAudit (Some known) deck name why

  audit_refused : (f f' : List ℕ) (w w' : Refusal) → IsAuditRefusal f w → IsAuditRefusal f' w' → Refused f w ≡ Refused f' w'
  audit_refused f f' w w' (inl x) (inl y) = refused_alike f f' w w' (first_alike known (deck ∷ []) f f' x.1 y.1) (x.0 ∙ sym y.0)
  audit_refused f f' w w' (inl x) (inr y) = absurd (one_long known deck f y.bytes y.is_file x.1)
  audit_refused f f' w w' (inr x) (inl y) = absurd (one_long known deck f' x.bytes x.is_file y.1)
  audit_refused f f' w w' (inr x) (inr y) =
      faulty_alike (IsUnaudited x.bytes) deck deck deck f f' w w' (unaudited_same x.bytes) x.faulty (not_audited_here x.bytes f' w' x.is_file y)

  audit_apart : (f : List ℕ) (s : ℕ) (t : List ℕ) (w : Refusal) → IsAuditReport (Some known) deck s t → IsAuditRefusal f w → ⊥
  audit_apart f s t w x (inl y) = one_long known deck f x.bytes x.is_file y.1
  audit_apart f s t w x (inr y) =
      let faulty = not_audited_here x.bytes f w x.is_file y in
      unaudited_apart x.bytes x.circuit x.answer faulty.fault (reported_fault faulty.fault w faulty.cause) x.is_audit faulty.refuses

pub one_outcome : (known : List (List ℕ × List ℕ)) (command : Command) (a b : Outcome) → IsOutcome (Some known) command a → IsOutcome (Some known) command b → a ≡ b
one_outcome known (Synth file o m) (Printed s t) (Printed s' t') x y = synth_printed known file o m s s' t t' x y
one_outcome known (Synth file o m) (Printed s t) (Refused f w) x y = absurd (synth_apart known file o m f s t w x y)
one_outcome known (Synth file o m) (Refused f w) (Printed s t) x y = absurd (synth_apart known file o m f s t w y x)
one_outcome known (Synth file o m) (Refused f w) (Refused f' w') x y = synth_refused known file o m f f' w w' x y
one_outcome known (flat file) (Printed s t) (Printed s' t') x y = flat_printed known file s s' t t' x y
one_outcome known (flat file) (Printed s t) (Refused f w) x y = absurd (flat_apart known file f s t w x y)
one_outcome known (flat file) (Refused f w) (Printed s t) x y = absurd (flat_apart known file f s t w y x)
one_outcome known (flat file) (Refused f w) (Refused f' w') x y = none_alike known file f f' w w' x y
one_outcome known (run file stim) (Printed s t) (Printed s' t') x y = run_printed known file stim s s' t t' x y
one_outcome known (run file stim) (Printed s t) (Refused f w) x y = absurd (run_apart known file stim f s t w x y)
one_outcome known (run file stim) (Refused f w) (Printed s t) x y = absurd (run_apart known file stim f s t w y x)
one_outcome known (run file stim) (Refused f w) (Refused f' w') x y = run_refused known file stim f f' w w' x y
one_outcome known (Sim deck stim options clocking) (Printed s t) (Printed s' t') x y = sim_printed known deck stim options clocking s s' t t' x y
one_outcome known (Sim deck stim options clocking) (Printed s t) (Refused f w) x y = absurd (sim_apart known deck stim f options clocking s t w x y)
one_outcome known (Sim deck stim options clocking) (Refused f w) (Printed s t) x y = absurd (sim_apart known deck stim f options clocking s t w y x)
one_outcome known (Sim deck stim options clocking) (Refused f w) (Refused f' w') x y = sim_refused known deck stim f f' options.probes w w' x y
one_outcome known (Cosim file deck stim order seed) (Printed s t) (Printed s' t') x y = cosim_printed known file deck stim order seed s s' t t' x y
one_outcome known (Cosim file deck stim order seed) (Printed s t) (Refused f w) x y = absurd (cosim_apart known file deck stim order seed f s t w x y)
one_outcome known (Cosim file deck stim order seed) (Refused f w) (Printed s t) x y = absurd (cosim_apart known file deck stim order seed f s t w y x)
one_outcome known (Cosim file deck stim order seed) (Refused f w) (Refused f' w') x y = cosim_refused known file deck stim order seed f f' w w' x y
one_outcome known (Report file o) (Printed s t) (Printed s' t') x y = report_printed known file o s s' t t' x y
one_outcome known (Report file o) (Printed s t) (Refused f w) x y = absurd (report_apart known file f o s t w x y)
one_outcome known (Report file o) (Refused f w) (Printed s t) x y = absurd (report_apart known file f o s t w y x)
one_outcome known (Report file o) (Refused f w) (Refused f' w') x y = none_alike known file f f' w w' x y
one_outcome known (Bench seed size o) (Printed s t) (Printed s' t') x y = let same = bench_one seed size o s s' t t' x y in printed_alike s s' t t' same.0 same.1
one_outcome known (Bench seed size o) (Printed s t) (Refused f w) x y = absurd y
one_outcome known (Bench seed size o) (Refused f w) (Printed s t) x y = absurd x
one_outcome known (Bench seed size o) (Refused f w) (Refused f' w') x y = absurd x
one_outcome known (Audit deck) (Printed s t) (Printed s' t') x y = audit_printed known deck s s' t t' x y
one_outcome known (Audit deck) (Printed s t) (Refused f w) x y = absurd (audit_apart known deck f s t w x y)
one_outcome known (Audit deck) (Refused f w) (Printed s t) x y = absurd (audit_apart known deck f s t w y x)
one_outcome known (Audit deck) (Refused f w) (Refused f' w') x y = audit_refused known deck f f' w w' x y
