use Rattle.std.proofs.Common.{ap, sym, ◌∙◌}
use Rattle.blif_numbers.specs.BuilderData.{BuilderData, built_in}
use Rattle.blif_numbers.proofs.builder.Builder.has_no_model.Goals as goal

pub returns-clause-none : goal.returns-clause-none
returns-clause-none c = λ is. sym (ap (λ (x : BuilderData). (built_in x).models) c.self.view_is) ∙ c.has_no_model.ensures.none is

pub returns-clause-some : goal.returns-clause-some
returns-clause-some c = λ is none. c.has_no_model.ensures.some is (ap (λ (x : BuilderData). (built_in x).models) c.self.view_is ∙ none)
