-- What holds of the texts that are generated.
use Rattle.std.specs.Prelude.{ℕ, ◌≤◌, ◌≡◌}
use Rattle.blif_ast.specs.BlifFileData.{BlifFileData}
use Rattle.blif_ast.specs.Good.{IsGoodFile}
use Rattle.blif_ast.specs.Printed.{printed}
use Rattle.blif_ast.specs.Reading.{IsFileOf}
use Rattle.blif_read.specs.ReadsBack.{unlined}
use Rattle.network.specs.Networks.{IsNetwork}
use Rattle.model_calls.specs.Refusal.{Refusal}
use Rattle.model_calls.specs.Refusals.{HasRefusal}
use Rattle.net_gen.specs.Generated.{generated, generated_network}
use Rattle.net_gen.specs.Stimulus.{stimulus_cycles, stimulus_text}
use Rattle.stim_text.specs.Stimuli.{IsStimulusOf}

-- the network of 1 to 30,000 tables keeps what a network keeps: names that differ, tables that read only signals before their
-- own, and the limits
abbrev pub GeneratedIsNetwork : Type 0
GeneratedIsNetwork = (seed tables : ℕ) → 1 ≤ tables → tables ≤ 30000 → IsNetwork (generated_network seed tables)

-- its file is good
abbrev pub GeneratedIsGood : Type 0
GeneratedIsGood = (seed tables : ℕ) → 1 ≤ tables → tables ≤ 30000 → IsGoodFile (generated seed tables)

-- the file of its text: the same in all but lines, and a hierarchy that is refused for nothing
pub record IsReadAgain (seed tables : ℕ) (file : BlifFileData) : Type 0 where
  pub is_file : IsFileOf (printed (generated seed tables)) file
  pub same : unlined file ≡ unlined (generated seed tables)
  pub unrefused : (r : Refusal) → HasRefusal file r → ⊥

-- its text is accepted
abbrev pub GeneratedIsAccepted : Type 0
GeneratedIsAccepted = (seed tables : ℕ) → 1 ≤ tables → tables ≤ 30000 → (file : BlifFileData) × IsReadAgain seed tables file

-- the text of the stimulus is accepted as its four cycles
abbrev pub StimulusIsRead : Type 0
StimulusIsRead = (seed width : ℕ) → IsStimulusOf width (stimulus_text seed width) (stimulus_cycles seed width)
