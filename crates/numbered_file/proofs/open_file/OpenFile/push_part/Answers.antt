use Rattle.std.proofs.Common.{ap, length, sym, ◌∙◌}
use Rattle.numbered_file.specs.NumberedData.{NumberedData}
use Rattle.numbered_file.proofs.FileSteps.{part-lists, part-numbered}
use Rattle.numbered_file.proofs.open_file.OpenFile.push_part.Goals as goal

pub invariant_of-self-2 : goal.invariant_of-self-2
invariant_of-self-2 c =
    let words = c.requires.words ∙ sym (ap (λ (d : NumberedData). length d.words) c.self.view_is) in
    let rows = c.requires.rows ∙ sym (ap (λ (d : NumberedData). length d.rows) c.self.view_is) in
    part-numbered c.self.invariant c.self.view_is c.args.part words rows c.in_ok-push.ensures.items

pub returns-clause-lists : goal.returns-clause-lists
returns-clause-lists c =
    let words = c.requires.words ∙ sym (ap (λ (d : NumberedData). length d.words) c.self.view_is) in
    let rows = c.requires.rows ∙ sym (ap (λ (d : NumberedData). length d.rows) c.self.view_is) in
    part-lists c.self.invariant c.self.view_is c.args.part words rows c.in_ok-push.ensures.items
