use Rattle.verdict_law.proofs.RightTraces.{right_deck_has_outputs, right_deck_has_trace, right_deck_is_refused_for_nets}
use Rattle.verdict_law.proofs.laws.right_deck_has_outputs.Goals as goal

pub returns-clause-outputs : goal.returns-clause-outputs
returns-clause-outputs c = right_deck_has_outputs

pub returns-clause-there : goal.returns-clause-there
returns-clause-there c = right_deck_has_trace

pub returns-clause-refused : goal.returns-clause-refused
returns-clause-refused c = right_deck_is_refused_for_nets
