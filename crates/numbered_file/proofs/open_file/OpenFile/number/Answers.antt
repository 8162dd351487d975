use Rattle.numbered_file.proofs.FileSteps.{names-lists, names-numbered}
use Rattle.numbered_file.proofs.open_file.OpenFile.number.Goals as goal

pub invariant_of-self : goal.invariant_of-self
invariant_of-self c = names-numbered c.self.invariant c.self.view_is c.number.ensures.grown c.number.ensures.distinct

pub returns-clause-lists : goal.returns-clause-lists
returns-clause-lists c = names-lists c.self.invariant c.self.view_is c.number.ensures.grown
