use Rattle.synth_flow.proofs.DeckFigures.{devices_counted}
use Rattle.synth_flow.proofs.figure_laws.devices_are_counted.Goals as goal

pub returns : goal.returns
returns c = devices_counted
