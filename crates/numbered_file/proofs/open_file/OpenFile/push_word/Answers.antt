use Rattle.numbered_file.proofs.FileSteps.{word-lists, word-numbered}
use Rattle.numbered_file.proofs.open_file.OpenFile.push_word.Goals as goal

pub invariant_of-self-2 : goal.invariant_of-self-2
invariant_of-self-2 c = word-numbered c.self.invariant c.self.view_is c.requires c.in_ok-push.ensures.items

pub returns-clause-lists : goal.returns-clause-lists
returns-clause-lists c = word-lists c.self.invariant c.self.view_is c.requires c.in_ok-push.ensures.items
