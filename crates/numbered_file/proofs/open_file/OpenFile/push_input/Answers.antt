use Rattle.numbered_file.proofs.FileSteps.{input-lists, input-numbered}
use Rattle.numbered_file.proofs.open_file.OpenFile.push_input.Goals as goal

pub invariant_of-self-2 : goal.invariant_of-self-2
invariant_of-self-2 c = input-numbered c.self.invariant c.self.view_is c.requires c.in_ok-push.ensures.items

pub returns-clause-lists : goal.returns-clause-lists
returns-clause-lists c = input-lists c.self.invariant c.self.view_is c.requires c.in_ok-push.ensures.items
