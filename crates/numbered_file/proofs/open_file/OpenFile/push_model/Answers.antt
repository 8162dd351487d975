use Rattle.std.proofs.Common.{ap, length, sym, ◌∙◌}
use Rattle.numbered_file.specs.NumberedData.{NumberedData}
use Rattle.numbered_file.proofs.FileSteps.{model-lists, model-numbered}
use Rattle.numbered_file.proofs.open_file.OpenFile.push_model.Goals as goal

pub invariant_of-self-2 : goal.invariant_of-self-2
invariant_of-self-2 c =
    let inputs = c.requires.inputs ∙ sym (ap (λ (d : NumberedData). length d.inputs) c.self.view_is) in
    let outputs = c.requires.outputs ∙ sym (ap (λ (d : NumberedData). length d.outputs) c.self.view_is) in
    let parts = c.requires.parts ∙ sym (ap (λ (d : NumberedData). length d.parts) c.self.view_is) in
    model-numbered c.self.invariant c.self.view_is c.args.model c.requires.name inputs outputs parts c.in_ok-push.ensures.items

pub returns-clause-lists : goal.returns-clause-lists
returns-clause-lists c =
    let inputs = c.requires.inputs ∙ sym (ap (λ (d : NumberedData). length d.inputs) c.self.view_is) in
    let outputs = c.requires.outputs ∙ sym (ap (λ (d : NumberedData). length d.outputs) c.self.view_is) in
    let parts = c.requires.parts ∙ sym (ap (λ (d : NumberedData). length d.parts) c.self.view_is) in
    model-lists c.self.invariant c.self.view_is c.args.model c.requires.name inputs outputs parts c.in_ok-push.ensures.items
