-- What `sim` says of a deck that `synth` wrote of a text, by any method, over files that are known, where all clocks fall together, and with
-- `--skew` of a deck whose clocks may overlap or that has one clock.
use Rattle.std.specs.Prelude.{ℕ, ◌≡◌, ◌≢◌, ◌⊎◌, Bool, List, IfSome, Some}
use Rattle.deck_form.specs.declared.options.SynthOptions.{SynthOptions}
use Rattle.command_words.specs.Commands.{Asks, Sim}
use Rattle.command_words.specs.declared.command.Method.{Method}
use Rattle.command_words.specs.declared.command.Method.TheVariants.{Skew}
use Rattle.network.specs.NetworkData.{NetworkData}
use Rattle.port_runs.specs.declared.clocking.Clocking.{Clocking}
use Rattle.port_runs.specs.declared.clocking.Clocking.TheVariants.{Overlapping}
use Rattle.stim_text.specs.Stimuli.{IsStimulusOf}
use Rattle.trace_tool.specs.CosimRefusals.{HasNetworkOf}
use Rattle.trace_tool.specs.Refusals.{HasNoNet}
use Rattle.trace_tool.specs.TraceData.{TraceOptionsData}
use Rattle.verdict_law.specs.NetworkTraces.{HasNetworkOutputs}
use Rattle.command_answers.specs.RightDecks.{IsRightBy}
use Rattle.domsyn.specs.Outcomes.{Files, IsFile, IsOutcome, Outcome, Printed, Refused}
use Rattle.domsyn.specs.declared.refusal.Refusal.TheVariants.{NoNet}

-- The bytes of a right deck, by a method and with options, of a text with this network, and a stimulus of these cycles for its inputs, as
-- files that are known, neither too long. Where the clocks overlap the method is that of decks whose clocks may, or there is one clock.
pub record AreOwnDeckAndStimulus (known : List (List ℕ × List ℕ)) (clocking : Clocking) (deck stim bytes : List ℕ) (network : NetworkData)
    (stream : List (List Bool)) : Type 0 where
  pub blif : List ℕ
  pub has : HasNetworkOf blif network
  pub options : SynthOptions
  pub method : Method
  pub right : IsRightBy method blif options bytes
  pub suited : clocking ≡ Overlapping → (method ≡ Skew) ⊎ (options.phases ≡ 1)
  pub is_deck : IsFile (Some known) deck bytes
  pub stim_bytes : List ℕ
  pub is_stim : IsFile (Some known) stim stim_bytes
  pub is_stimulus : IsStimulusOf network.inputs stim_bytes stream

-- the outcome is a trace with the outputs of the network's run, with the status that all is well; or a probe names no net of the deck
abbrev pub IsReadOrUnnamed : Clocking → (bytes : List ℕ) → TraceOptionsData → NetworkData → (stream : List (List Bool)) → Outcome → Type 0
IsReadOrUnnamed clocking bytes options network stream (Printed status text) =
    (status ≡ 0) × HasNetworkOutputs clocking bytes options network stream text
IsReadOrUnnamed clocking bytes options network stream (Refused file why) =
    (net : List ℕ) × HasNoNet bytes options.probes net × (why ≡ NoNet net)

-- so is the outcome of `sim` of them, with all options
abbrev pub OwnDeckHasOutputs : Type 0
OwnDeckHasOutputs =
    (known : List (List ℕ × List ℕ)) (deck stim bytes : List ℕ) (options : TraceOptionsData) (clocking : Clocking) (network : NetworkData)
    (stream : List (List Bool)) (outcome : Outcome) → AreOwnDeckAndStimulus known clocking deck stim bytes network stream
    → IsOutcome (Some known) (Sim deck stim options clocking) outcome → IsReadOrUnnamed clocking bytes options network stream outcome

-- where the words ask for `sim` of such files, the status is that of a refusal only where a probe names no net of the deck, it is never that
-- of a settling that doesn't end, and at 0 a trace with the outputs of the network's run is put out
abbrev pub SaysOutputs : Files → List (List ℕ) → ℕ → (List ℕ → Type 0) → Type 0
SaysOutputs files words status Puts =
    IfSome files (λ known. (deck stim bytes : List ℕ) (options : TraceOptionsData) (clocking : Clocking) (network : NetworkData)
    (stream : List (List Bool)) → Asks words (Sim deck stim options clocking)
    → AreOwnDeckAndStimulus known clocking deck stim bytes network stream
    → (status ≡ 1 → (net : List ℕ) × HasNoNet bytes options.probes net) × (status ≢ 6)
    × (status ≡ 0 → (text : List ℕ) × HasNetworkOutputs clocking bytes options network stream text × Puts text))
