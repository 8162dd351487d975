use Rattle.deck_audit.proofs.BrokenNets as laws
use Rattle.deck_audit.proofs.laws.broken_nets_are_nets.Goals as goal

pub returns : goal.returns
returns c = laws.broken_nets_are_nets
