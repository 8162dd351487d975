-- The text of a command, by the bytes of its files.
use Rattle.std.proofs.Common.{◌≡◌, ◌∙◌, ℕ, Bool, true, false, List, ap, arith, refl}
use Rattle.std.specs.Prelude.{if◌then◌else◌}
use Rattle.blif_ast.specs.Printed.{printed}
use Rattle.command_words.specs.declared.command.Method.{Method}
use Rattle.deck.specs.CircuitData.{CircuitData}
use Rattle.deck_audit.specs.Audits.{Answer}
use Rattle.network.specs.NetworkData.{NetworkData}
use Rattle.net_flatten.specs.OneModel.{file_of}
use Rattle.deck_form.specs.declared.options.SynthOptions.{SynthOptions}
use Rattle.port_runs.specs.declared.clocking.Clocking.{Clocking}
use Rattle.trace_tool.specs.TraceData.{TraceOptionsData}
use Rattle.trace_tool.specs.Traces.{IsTraceBy}
use Rattle.trace_tool.specs.VerdictLines.{verdict_line}
use Rattle.trace_tool.specs.Verdicts.{IsVerdictOf}
use Rattle.trace_tool.specs.declared.options.Order.{Order}
use Rattle.trace_tool.specs.declared.verdict.Verdict.{Verdict}
use Rattle.command_answers.specs.declared.answer.Ending.{Ending}
use Rattle.command_answers.specs.declared.answer.Ending.TheVariants.{Differs, Done}
use Rattle.command_answers.specs.Decks.{AreFiguresFor, IsDeckFor}
use Rattle.command_answers.specs.Endings.{ending_number, ending_of}
use Rattle.command_answers.specs.Networks.{HasNetwork, IsRunOf}
use Rattle.command_answers.specs.Audits.{IsAuditOf, audit_line, is_yes}
use Rattle.domsyn.specs.Outcomes.{Files, IsAuditReport, IsComparison, IsDeck, IsFigureReport, IsFile, IsFlat, IsPrintedRun, IsTrace}
use Rattle.command_answers.specs.Verdicts.{is_same_verdict}

-- the number of an ending by whether all is well
number_of : (well : Bool) → ending_number (ending_of well) ≡ (if well then 0 else 6)
number_of true = refl
number_of false = refl

pub well_number : (ending : Ending) (well : Bool) → ending ≡ ending_of well → ending_number ending ≡ (if well then 0 else 6)
well_number ending well is = ap ending_number is ∙ number_of well

-- an ending with the number of all that is well is that all is well
pub done_of : (ending : Ending) → ending_number ending ≡ 0 → ending ≡ Done
done_of Done zero = refl
done_of Differs zero = absurd (omega (arith, zero))

pub done_number : (ending : Ending) → ending ≡ Done → ending_number ending ≡ 0
done_number ending is = ap ending_number is

module _ (files : Files) (file bytes text : List ℕ) (ending : Ending) (is_file : IsFile files file bytes) where
  pub synth_printed : (options : SynthOptions) (method : Method) → IsDeckFor bytes options method text × (ending ≡ Done) → IsDeck files file options method (ending_number ending) text
  synth_printed options method made = record { bytes = bytes; is_file = is_file; deck = made.0; done = done_number ending made.1 }

  pub flat_printed : (network : NetworkData) × HasNetwork bytes network × (text ≡ printed (file_of network)) × (ending ≡ Done) → IsFlat files file (ending_number ending) text
  flat_printed made = record { bytes = bytes; is_file = is_file; network = made.0; has = made.1; text_is = made.2; done = done_number ending made.3 }

  pub report_printed : (options : SynthOptions) → AreFiguresFor bytes options text × (ending ≡ Done) → IsFigureReport files file options (ending_number ending) text
  report_printed options made = record { bytes = bytes; is_file = is_file; figures = made.0; done = done_number ending made.1 }

  pub run_printed : (stim stim_bytes : List ℕ) → IsFile files stim stim_bytes → IsRunOf bytes stim_bytes text × (ending ≡ Done) → IsPrintedRun files file stim (ending_number ending) text
  run_printed stim stim_bytes is_stim made =
      record { bytes = bytes; stim_bytes = stim_bytes; is_file = is_file; is_stim = is_stim; run_is = made.0; done = done_number ending made.1 }

  pub audit_printed : (circuit : CircuitData) × (found : Answer) × IsAuditOf bytes circuit found × (text ≡ audit_line circuit.nets found) × (ending ≡ ending_of (is_yes found))
      → IsAuditReport files file (ending_number ending) text
  audit_printed made = record {
    bytes = bytes;
    is_file = is_file;
    circuit = made.0;
    answer = made.1;
    is_audit = made.2;
    text_is = made.3;
    status_is = well_number ending (is_yes made.1) made.4;
  }

  pub cosim_printed : (deck stim deck_bytes stim_bytes : List ℕ) (order : Order) (seed : ℕ) → IsFile files deck deck_bytes → IsFile files stim stim_bytes
      → (verdict : Verdict) × IsVerdictOf bytes deck_bytes stim_bytes order seed verdict × (text ≡ verdict_line verdict) × (ending ≡ ending_of (is_same_verdict verdict))
      → IsComparison files file deck stim order seed (ending_number ending) text
  cosim_printed deck stim deck_bytes stim_bytes order seed is_deck is_stim made = record {
    bytes = bytes;
    deck_bytes = deck_bytes;
    stim_bytes = stim_bytes;
    verdict = made.0;
    is_file = is_file;
    is_deck = is_deck;
    is_stim = is_stim;
    is_verdict = made.1;
    text_is = made.2;
    status_is = well_number ending (is_same_verdict made.0) made.3;
  }

pub sim_printed : (files : Files) (deck stim deck_bytes stim_bytes text : List ℕ) (ending : Ending) (options : TraceOptionsData) (clocking : Clocking)
    → IsFile files deck deck_bytes → IsFile files stim stim_bytes
    → (settled : Bool) × IsTraceBy clocking deck_bytes stim_bytes options (record { text = text; settled = settled }) × (ending ≡ ending_of settled)
    → IsTrace files deck stim options clocking (ending_number ending) text
sim_printed files deck stim deck_bytes stim_bytes text ending options clocking is_deck is_stim made = record {
  deck_bytes = deck_bytes;
  stim_bytes = stim_bytes;
  settled = made.0;
  is_deck = is_deck;
  is_stim = is_stim;
  trace = made.1;
  status_is = well_number ending made.0 made.2;
}
