use Rattle.std.proofs.Common.{◌∙◌, ap, not}
use Rattle.spice_read.proofs.FoundUnits.{new_from_find, not_back}
use Rattle.spice_read.proofs.subckts.is_new.Goals as goal

pub returns : goal.returns
returns c = not_back c.is_none.result _ c.is_none.ensures ∙ ap not (new_from_find c.args.units.now c.args.name.now c.find.result _ c.find.ensures)
