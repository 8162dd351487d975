-- What holds of each text and its answer.
use Rattle.std.specs.Prelude.{ℕ, List}
use Rattle.dom_base.specs.Answers.{HasOneAnswer}
use Rattle.stim_text.specs.Stimuli.{IsStimulusOf, IsStimFaultAt}

-- each text has exactly one answer at each number of pins: the cycles of its stimulus, or one fault
abbrev pub TextHasOneAnswer : Type 0
TextHasOneAnswer =
    (width : ℕ) (text : List ℕ) → HasOneAnswer (IsStimulusOf width text) (IsStimFaultAt width text) (IsStimFaultAt width text)
