-- The outcome of a command over files: a text with its status, or the file that is refused and the cause.
use Rattle.std.specs.Prelude.{ℕ, ◌<◌, ◌≤◌, ◌≡◌, ◌⊎◌, Bool, if◌then◌else◌, List, [], ◌∷◌, Option, Some, IfSome, length}
use Rattle.dom_io.specs.Held.{file_limit, held}
use Rattle.blif_ast.specs.Printed.{printed}
use Rattle.network.specs.NetworkData.{NetworkData}
use Rattle.net_flatten.specs.OneModel.{file_of}
use Rattle.domsyn.specs.declared.refusal.Refusal.{Refusal}
use Rattle.domsyn.specs.declared.refusal.Refusal.TheVariants.{TooLong}
use Rattle.command_words.specs.Commands.{Command, Synth, Flat, Run, Sim, Cosim, Report, Bench, Audit, files_of}
use Rattle.deck.specs.CircuitData.{CircuitData}
use Rattle.deck_audit.specs.Audits.{Answer}
use Rattle.deck_form.specs.declared.options.SynthOptions.{SynthOptions}
use Rattle.port_runs.specs.declared.clocking.Clocking.{Clocking}
use Rattle.command_answers.specs.Audits.{IsAuditOf, IsUnaudited, audit_line, is_yes}
use Rattle.command_answers.specs.Benches.{IsBench}
use Rattle.command_words.specs.declared.command.Method.{Method}
use Rattle.command_answers.specs.Decks.{AreFiguresFor, IsDeckFor}
use Rattle.command_answers.specs.Networks.{HasNetwork, IsRunOf}
use Rattle.command_answers.specs.Verdicts.{is_same_verdict}
use Rattle.domsyn.specs.Refusals.{HasNoDeckFor, HasNoNetworkFor, IsFaulty, IsNotRunFor, about}
use Rattle.trace_tool.specs.CosimRefusals.{IsCosimRefused}
use Rattle.trace_tool.specs.Refusals.{IsRefused}
use Rattle.trace_tool.specs.TraceData.{TraceOptionsData}
use Rattle.trace_tool.specs.Traces.{IsTraceBy}
use Rattle.trace_tool.specs.VerdictLines.{verdict_line}
use Rattle.trace_tool.specs.Verdicts.{IsVerdictOf}
use Rattle.trace_tool.specs.declared.options.Order.{Order}
use Rattle.trace_tool.specs.declared.options.ProbeWord.{ProbeWord}
use Rattle.trace_tool.specs.declared.verdict.Verdict.{Verdict}

-- names with their bytes, where they are known
abbrev pub Files : Type 0
Files = Option (List (List ℕ × List ℕ))

-- where the files are known, these are the bytes of this one
abbrev pub HasBytes : Files → List ℕ → List ℕ → Type 0
HasBytes files name bytes = IfSome files (λ known. held known name ≡ Some bytes)

-- the file has these bytes, no more than a file may have
pub record IsFile (files : Files) (name bytes : List ℕ) : Type 0 where
  pub holds : HasBytes files name bytes
  pub within : length bytes ≤ file_limit

-- the file has more bytes than a file may have
pub record IsTooLong (files : Files) (name : List ℕ) : Type 0 where
  pub bytes : List ℕ
  pub holds : HasBytes files name bytes
  pub long : file_limit < length bytes

-- the first of these files that has too many bytes
abbrev pub IsFirstTooLong : Files → List (List ℕ) → List ℕ → Type 0
IsFirstTooLong files [] name = ⊥
IsFirstTooLong files (file ∷ more) name =
    ((name ≡ file) × IsTooLong files file) ⊎ ((bytes : List ℕ) × IsFile files file bytes × IsFirstTooLong files more name)

-- one of these files, before which each one was read and isn't too long
abbrev pub IsUnreadOf : Files → List (List ℕ) → List ℕ → Type 0
IsUnreadOf files [] name = ⊥
IsUnreadOf files (file ∷ more) name = (name ≡ file) ⊎ ((bytes : List ℕ) × IsFile files file bytes × IsUnreadOf files more name)

-- the outcome of a command: a text with its status, or the file that is refused and the cause
pub data Outcome : Type 0 where
  Printed : (status : ℕ) → (text : List ℕ) → Outcome
  Refused : (file : List ℕ) → (why : Refusal) → Outcome

abbrev pub status_of : Outcome → ℕ
status_of (Printed status text) = status
status_of (Refused file why) = 1

-- the deck of a file by a method, with options
pub record IsDeck (files : Files) (file : List ℕ) (options : SynthOptions) (method : Method) (status : ℕ) (text : List ℕ) : Type 0 where
  pub bytes : List ℕ
  pub is_file : IsFile files file bytes
  pub deck : IsDeckFor bytes options method text
  pub done : status ≡ 0

-- the network of a file as the text of one model
pub record IsFlat (files : Files) (file : List ℕ) (status : ℕ) (text : List ℕ) : Type 0 where
  pub bytes : List ℕ
  pub is_file : IsFile files file bytes
  pub network : NetworkData
  pub has : HasNetwork bytes network
  pub text_is : text ≡ printed (file_of network)
  pub done : status ≡ 0

-- a file has no network for this cause
pub record HasNone (files : Files) (file name : List ℕ) (why : Refusal) : Type 0 where
  pub bytes : List ℕ
  pub holds : HasBytes files file bytes
  pub refused : HasNoNetworkFor bytes why
  pub name_is : name ≡ file

-- a file has no deck by a method for this cause
pub record HasNoDeck (files : Files) (file : List ℕ) (method : Method) (name : List ℕ) (why : Refusal) : Type 0 where
  pub bytes : List ℕ
  pub holds : HasBytes files file bytes
  pub refused : HasNoDeckFor method bytes why
  pub name_is : name ≡ file

-- the trace of a deck over a stimulus, where its clocks fall so; the status says whether each settling ended
pub record IsTrace (files : Files) (deck stim : List ℕ) (options : TraceOptionsData) (clocking : Clocking) (status : ℕ) (text : List ℕ)
    : Type 0 where
  pub deck_bytes : List ℕ
  pub stim_bytes : List ℕ
  pub settled : Bool
  pub is_deck : IsFile files deck deck_bytes
  pub is_stim : IsFile files stim stim_bytes
  pub trace : IsTraceBy clocking deck_bytes stim_bytes options (record { text = text; settled = settled })
  pub status_is : status ≡ (if settled then 0 else 6)

-- the run of the network of a file over a stimulus
pub record IsPrintedRun (files : Files) (file stim : List ℕ) (status : ℕ) (text : List ℕ) : Type 0 where
  pub bytes : List ℕ
  pub stim_bytes : List ℕ
  pub is_file : IsFile files file bytes
  pub is_stim : IsFile files stim stim_bytes
  pub run_is : IsRunOf bytes stim_bytes text
  pub done : status ≡ 0

-- a file and a stimulus of files have no run for this cause
pub record IsNoRun (files : Files) (file stim name : List ℕ) (why : Refusal) : Type 0 where
  pub bytes : List ℕ
  pub stim_bytes : List ℕ
  pub is_file : IsFile files file bytes
  pub is_stim : IsFile files stim stim_bytes
  pub refused : IsNotRunFor bytes stim_bytes why
  pub name_is : name ≡ about file file stim why

-- a deck and a stimulus of files are not simulated for this cause
pub record IsNoTrace (files : Files) (deck stim : List ℕ) (probes : List ProbeWord) (name : List ℕ) (why : Refusal) : Type 0 where
  pub deck_bytes : List ℕ
  pub stim_bytes : List ℕ
  pub is_deck : IsFile files deck deck_bytes
  pub is_stim : IsFile files stim stim_bytes
  pub faulty : IsFaulty (IsRefused deck_bytes stim_bytes probes) deck deck stim name why

-- the verdict of a deck beside a file over a stimulus; the status says whether all is the same
pub record IsComparison (files : Files) (file deck stim : List ℕ) (order : Order) (seed : ℕ) (status : ℕ) (text : List ℕ) : Type 0 where
  pub bytes : List ℕ
  pub deck_bytes : List ℕ
  pub stim_bytes : List ℕ
  pub verdict : Verdict
  pub is_file : IsFile files file bytes
  pub is_deck : IsFile files deck deck_bytes
  pub is_stim : IsFile files stim stim_bytes
  pub is_verdict : IsVerdictOf bytes deck_bytes stim_bytes order seed verdict
  pub text_is : text ≡ verdict_line verdict
  pub status_is : status ≡ (if is_same_verdict verdict then 0 else 6)

-- a file, a deck and a stimulus of files have no verdict for this cause
pub record IsNoComparison (files : Files) (file deck stim name : List ℕ) (why : Refusal) : Type 0 where
  pub bytes : List ℕ
  pub deck_bytes : List ℕ
  pub stim_bytes : List ℕ
  pub is_file : IsFile files file bytes
  pub is_deck : IsFile files deck deck_bytes
  pub is_stim : IsFile files stim stim_bytes
  pub faulty : IsFaulty (IsCosimRefused bytes deck_bytes stim_bytes) file deck stim name why

-- the figures of the deck of a file, with options
pub record IsFigureReport (files : Files) (file : List ℕ) (options : SynthOptions) (status : ℕ) (text : List ℕ) : Type 0 where
  pub bytes : List ℕ
  pub is_file : IsFile files file bytes
  pub figures : AreFiguresFor bytes options text
  pub done : status ≡ 0

-- what the audit of a deck says; the status says whether it is a yes
pub record IsAuditReport (files : Files) (deck : List ℕ) (status : ℕ) (text : List ℕ) : Type 0 where
  pub bytes : List ℕ
  pub is_file : IsFile files deck bytes
  pub circuit : CircuitData
  pub answer : Answer
  pub is_audit : IsAuditOf bytes circuit answer
  pub text_is : text ≡ audit_line circuit.nets answer
  pub status_is : status ≡ (if is_yes answer then 0 else 6)

-- a deck of files is not audited for this cause
pub record IsNoAudit (files : Files) (deck name : List ℕ) (why : Refusal) : Type 0 where
  pub bytes : List ℕ
  pub is_file : IsFile files deck bytes
  pub faulty : IsFaulty (IsUnaudited bytes) deck deck deck name why

-- the first of the files is refused that is too long, and else one for this cause
abbrev pub IsRefusalOf : Files → List (List ℕ) → Type 0 → List ℕ → Refusal → Type 0
IsRefusalOf files names Refuses name why = ((why ≡ TooLong) × IsFirstTooLong files names name) ⊎ Refuses

-- the command has this outcome over these files
abbrev pub IsOutcome : Files → Command → Outcome → Type 0
IsOutcome files (Synth file options method) (Printed status text) = IsDeck files file options method status text
IsOutcome files (Synth file options method) (Refused name why) = HasNoDeck files file method name why
IsOutcome files (Flat file) (Printed status text) = IsFlat files file status text
IsOutcome files (Flat file) (Refused name why) = HasNone files file name why
IsOutcome files (Run file stim) (Printed status text) = IsPrintedRun files file stim status text
IsOutcome files (Run file stim) (Refused name why) = IsRefusalOf files (file ∷ stim ∷ []) (IsNoRun files file stim name why) name why
IsOutcome files (Sim deck stim options clocking) (Printed status text) = IsTrace files deck stim options clocking status text
IsOutcome files (Sim deck stim options clocking) (Refused name why) =
    IsRefusalOf files (deck ∷ stim ∷ []) (IsNoTrace files deck stim options.probes name why) name why
IsOutcome files (Cosim file deck stim order seed) (Printed status text) = IsComparison files file deck stim order seed status text
IsOutcome files (Cosim file deck stim order seed) (Refused name why) =
    IsRefusalOf files (file ∷ deck ∷ stim ∷ []) (IsNoComparison files file deck stim name why) name why
IsOutcome files (Report file options) (Printed status text) = IsFigureReport files file options status text
IsOutcome files (Report file options) (Refused name why) = HasNone files file name why
IsOutcome files (Bench seed size options) (Printed status text) = IsBench seed size options status text
IsOutcome files (Bench seed size options) (Refused name why) = ⊥
IsOutcome files (Audit deck) (Printed status text) = IsAuditReport files deck status text
IsOutcome files (Audit deck) (Refused name why) = IsRefusalOf files (deck ∷ []) (IsNoAudit files deck name why) name why

-- a file of the command, before which each one was read and isn't too long
abbrev pub IsUnread : Files → Command → List ℕ → Type 0
IsUnread files command name = IsUnreadOf files (files_of command) name
