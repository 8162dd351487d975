use Rattle.std.proofs.lemmas.List.{take_rest}
use Rattle.spice_text.proofs.Whole.{groups-found}
use Rattle.spice_text.proofs.ports.cut_ports.Goals as goal

pub returns : goal.returns
returns c = simp (take_rest, c.first_pin-leading.ensures) (groups-found c.args.ports.now c.args.roles c.requires)
