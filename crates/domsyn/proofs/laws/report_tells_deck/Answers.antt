use Rattle.domsyn.proofs.SynthTexts as laws
use Rattle.domsyn.proofs.laws.report_tells_deck.Goals as goal

pub returns : goal.returns
returns c = laws.report_tells_deck
