use Rattle.numbered_file.proofs.FileSteps.{row-lists, row-numbered}
use Rattle.numbered_file.proofs.open_file.OpenFile.push_row.Goals as goal

pub invariant_of-self-2 : goal.invariant_of-self-2
invariant_of-self-2 c = row-numbered c.self.invariant c.self.view_is c.args.place c.in_ok-push.ensures.items

pub returns-clause-lists : goal.returns-clause-lists
returns-clause-lists c = row-lists c.self.invariant c.self.view_is c.args.place c.in_ok-push.ensures.items
