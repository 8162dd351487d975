-- What `cosim` says of a deck that `synth` wrote of a text, by any method, over files that are known.
use Rattle.std.specs.Prelude.{ℕ, ◌≡◌, ◌≢◌, Bool, List, IfSome, Some, length}
use Rattle.deck_form.specs.declared.options.SynthOptions.{SynthOptions}
use Rattle.command_words.specs.Commands.{Asks, Cosim}
use Rattle.command_words.specs.declared.command.Method.{Method}
use Rattle.network.specs.NetworkData.{NetworkData}
use Rattle.stim_text.specs.Stimuli.{IsStimulusOf}
use Rattle.trace_tool.specs.VerdictLines.{same_line}
use Rattle.trace_tool.specs.declared.options.Order.{Order}
use Rattle.command_answers.specs.RightDecks.{IsRightBy}
use Rattle.command_answers.specs.Networks.{HasNetwork}
use Rattle.domsyn.specs.Outcomes.{Files, IsFile, IsOutcome, Printed}

-- a text, a right deck of it by a method, and a stimulus of these cycles for the inputs of its network, as files that are known, none too
-- long
pub record AreOwnFiles (known : List (List ℕ × List ℕ)) (file deck stim : List ℕ) (options : SynthOptions) (method : Method)
    (stream : List (List Bool)) : Type 0 where
  pub bytes : List ℕ
  pub deck_bytes : List ℕ
  pub stim_bytes : List ℕ
  pub is_file : IsFile (Some known) file bytes
  pub is_deck : IsFile (Some known) deck deck_bytes
  pub is_stim : IsFile (Some known) stim stim_bytes
  pub right : IsRightBy method bytes options deck_bytes
  pub network : NetworkData
  pub has : HasNetwork bytes network
  pub is_stimulus : IsStimulusOf network.inputs stim_bytes stream

-- the outcome of `cosim` of them is that all is the same in each cycle, in each order of events, with the status that all is well
abbrev pub OwnDeckIsSame : Type 0
OwnDeckIsSame =
    (known : List (List ℕ × List ℕ)) (file deck stim : List ℕ) (order : Order) (seed : ℕ) (options : SynthOptions) (method : Method)
    (stream : List (List Bool)) → AreOwnFiles known file deck stim options method stream
    → IsOutcome (Some known) (Cosim file deck stim order seed) (Printed 0 (same_line (length stream)))

-- where the words ask for `cosim` of such files, the status is neither that of a refusal nor that of another verdict, and at 0 it is
-- put out that all is the same in each cycle
abbrev pub SaysSame : Files → List (List ℕ) → ℕ → (List ℕ → Type 0) → Type 0
SaysSame files words status Puts =
    IfSome files (λ known. (file deck stim : List ℕ) (order : Order) (seed : ℕ) (options : SynthOptions) (method : Method)
    (stream : List (List Bool)) → Asks words (Cosim file deck stim order seed) → AreOwnFiles known file deck stim options method stream
    → (status ≢ 1) × (status ≢ 6) × (status ≡ 0 → Puts (same_line (length stream))))
