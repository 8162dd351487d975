use Rattle.numbered_file.proofs.FileSteps.{output-lists, output-numbered}
use Rattle.numbered_file.proofs.open_file.OpenFile.push_output.Goals as goal

pub invariant_of-self-2 : goal.invariant_of-self-2
invariant_of-self-2 c = output-numbered c.self.invariant c.self.view_is c.requires c.in_ok-push.ensures.items

pub returns-clause-lists : goal.returns-clause-lists
returns-clause-lists c = output-lists c.self.invariant c.self.view_is c.requires c.in_ok-push.ensures.items
