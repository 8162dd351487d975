use Rattle.net_gen.proofs.StimulusTexts.{stimulus_reads}
use Rattle.net_gen.proofs.laws.stimulus_is_read.Goals as goal

pub returns : goal.returns
returns c = λ seed width. stimulus_reads seed width
