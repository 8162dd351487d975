use Rattle.domsyn.proofs.FlatTexts.{reads_back}
use Rattle.domsyn.proofs.laws.flat_reads_back.Goals as goal

pub returns : goal.returns
returns c = reads_back
