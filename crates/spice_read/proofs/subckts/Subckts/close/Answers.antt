use Rattle.std.proofs.Common.{◌∙◌, ap, subst, sym}
use Rattle.spice_read.specs.declared.subckts.Last.TheVariants.{Open}
use Rattle.spice_read.specs.FlatSubckts.{LastFits}
use Rattle.spice_read.specs.ReadSubckts.{IsClosable}
use Rattle.spice_read.proofs.FlatSubckts.{can_close}
use Rattle.spice_read.proofs.subckts.Subckts.close.Goals as goal

pub invariant_of-self : goal.invariant_of-self
invariant_of-self c =
    subst (LastFits c.self.inside.units) (sym c.put.ensures)
    (can_close c.self.inside.units c.self.inside.last _ (subst IsClosable (sym c.self.view_is) c.requires)
    (sym c.replace.ensures.value ∙ c.in-Open-Flat.is ∙ ap Open c.in-Open-Flat.field-0-is))

pub close_unit-requires : goal.close_unit-requires
close_unit-requires c =
    can_close c.self.inside.units c.self.inside.last _ (subst IsClosable (sym c.self.view_is) c.requires)
    (sym c.replace.ensures.value ∙ c.in-Open-Calling.is ∙ ap Open c.in-Open-Calling.field-0-is)
