-- What `bench` writes of a network that is generated: the figures of its deck, and how the deck does beside the network over four cycles.
use Rattle.std.specs.Prelude.{ℕ, ◌≡◌, List, [], ◌++◌, codes, if◌then◌else◌}
use Rattle.std.specs.Fmt.{decimal}
use Rattle.blif_ast.specs.Printed.{printed}
use Rattle.command_answers.specs.Verdicts.{is_same_verdict}
use Rattle.deck.specs.CircuitData.{CircuitData}
use Rattle.deck.specs.Roles.{AreRoles, ports_of}
use Rattle.deck.specs.declared.role.Roles.{Roles}
use Rattle.event_sim.specs.Orders.{By}
use Rattle.network.specs.NetworkData.{NetworkData}
use Rattle.net_gen.specs.Generated.{generated}
use Rattle.net_gen.specs.Stimulus.{stimulus_cycles}
use Rattle.net_run.specs.Runs.{Cycle, IsNetworkRun}
use Rattle.deck_form.specs.ChosenDecks.{IsChosenDeck}
use Rattle.deck_form.specs.AskedOptions.{deck_options}
use Rattle.synth_flow.specs.Summaries.{IsSummaryOf}
use Rattle.synth_flow.specs.SummaryData.{SummaryData}
use Rattle.synth_flow.specs.SummaryLines.{summary_lines}
use Rattle.deck_form.specs.declared.options.SynthOptions.{SynthOptions}
use Rattle.trace_tool.specs.CosimRefusals.{HasNetworkOf}
use Rattle.trace_tool.specs.Traces.{picked_place}
use Rattle.trace_tool.specs.VerdictLines.{same_line, verdict_line}
use Rattle.trace_tool.specs.Verdicts.{IsVerdict}
use Rattle.trace_tool.specs.declared.options.Order.TheVariants.{First}
use Rattle.trace_tool.specs.declared.verdict.Verdict.{Verdict}
use Rattle.trace_tool.specs.declared.verdict.Verdict.TheVariants.{Same, Differ, PortsDiffer, Unsettled}

-- the text of the network of a seed, with so many tables
abbrev pub generated_text : ℕ → ℕ → List ℕ
generated_text seed tables = printed (generated seed tables)

-- the line of so many events
abbrev pub events_line : ℕ → List ℕ
events_line events = codes "events " ++ decimal events ++ codes "\n"

-- the line of the events that a verdict tells, which only the verdict that all is the same does
abbrev pub events_text : Verdict → List ℕ
events_text (Same cycles events) = events_line events
events_text (Differ cycle pin wanted found) = []
events_text (PortsDiffer place) = []
events_text (Unsettled cycle events) = []

-- the figures of the deck of a model of this name, the events and the verdict
abbrev pub bench_text : List ℕ → SummaryData → Verdict → List ℕ
bench_text model summary verdict = summary_lines model summary ++ events_text verdict ++ verdict_line verdict

-- the verdict of a circuit beside a network over the four cycles of a seed, where the first pending net is always taken
pub record IsOwnVerdict (seed : ℕ) (network : NetworkData) (circuit : CircuitData) (verdict : Verdict) : Type 0 where
  pub roles : Roles
  pub are_roles : AreRoles (ports_of circuit) roles
  pub cycles : List Cycle
  pub is_run : IsNetworkRun network (stimulus_cycles seed network.inputs) cycles
  pub is_verdict : IsVerdict (By (picked_place First 0)) network circuit roles (stimulus_cycles seed network.inputs) cycles verdict

-- the model's name, the figures and the verdict of the circuit that synthesis gives of the network of a generated text, with options
pub record IsBenchOf (seed size : ℕ) (options : SynthOptions) (model : List ℕ) (summary : SummaryData) (verdict : Verdict) : Type 0 where
  pub network : NetworkData
  pub has : HasNetworkOf (generated_text seed size) network
  pub model_is : model ≡ network.name
  pub is_summary : IsSummaryOf network options summary
  pub circuit : CircuitData
  pub is_chosen : IsChosenDeck network (deck_options options) circuit
  pub is_verdict : IsOwnVerdict seed network circuit verdict

-- the figures of the deck of a network that is generated, and the deck's verdict beside it; the status says whether all is the same
pub record IsBench (seed size : ℕ) (options : SynthOptions) (status : ℕ) (text : List ℕ) : Type 0 where
  pub model : List ℕ
  pub summary : SummaryData
  pub verdict : Verdict
  pub is : IsBenchOf seed size options model summary verdict
  pub text_is : text ≡ bench_text model summary verdict
  pub status_is : status ≡ (if is_same_verdict verdict then 0 else 6)

-- the text of figures, of events and of the verdict that all is the same in four cycles, with the status that all is well
pub record IsSameBench (seed size : ℕ) (options : SynthOptions) (status : ℕ) (text : List ℕ) : Type 0 where
  pub model : List ℕ
  pub summary : SummaryData
  pub events : ℕ
  pub is : IsBenchOf seed size options model summary (Same 4 events)
  pub text_is : text ≡ summary_lines model summary ++ events_line events ++ same_line 4
  pub done : status ≡ 0
