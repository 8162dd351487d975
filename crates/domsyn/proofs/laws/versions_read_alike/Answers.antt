use Rattle.domsyn.proofs.SynthTexts as laws
use Rattle.domsyn.proofs.laws.versions_read_alike.Goals as goal

pub returns : goal.returns
returns c = laws.versions_read_alike
