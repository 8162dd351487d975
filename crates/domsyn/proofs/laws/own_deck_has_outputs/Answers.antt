use Rattle.domsyn.proofs.OwnTraces as laws
use Rattle.domsyn.proofs.laws.own_deck_has_outputs.Goals as goal

pub returns : goal.returns
returns c = laws.own_deck_has_outputs
