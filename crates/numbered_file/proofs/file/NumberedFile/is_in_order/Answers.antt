use Rattle.std.proofs.Common.{subst}
use Rattle.numbered_file.specs.Numbered.{IsNumbered}
use Rattle.numbered_file.proofs.file.NumberedFile.is_in_order.Goals as goal

pub returns : goal.returns
returns c = subst IsNumbered c.self.view_is c.self.invariant
