use Rattle.domsyn.proofs.OwnAudits as laws
use Rattle.domsyn.proofs.laws.own_deck_gets_yes.Goals as goal

pub returns : goal.returns
returns c = laws.own_deck_gets_yes
