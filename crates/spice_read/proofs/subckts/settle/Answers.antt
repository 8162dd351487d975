use Rattle.std.proofs.Common.{subst, sym}
use Rattle.spice_read.specs.FlatSubckts.{LastFits}
use Rattle.spice_read.specs.ReadSubckts.{CanClose}
use Rattle.spice_read.proofs.subckts.settle.Goals as goal

pub close_unit-requires : goal.close_unit-requires
close_unit-requires c = subst (CanClose c.args.units.now) (sym c.in_ok-definition-in-Closed.ensures) (subst (LastFits c.args.units.now) c.in-Closed.is c.requires)
