use Rattle.std.proofs.Common.{refl, ap, sym, ◌∙◌}
use Rattle.blif_numbers.specs.BuilderData.{BuilderData}
use Rattle.blif_numbers.proofs.BuilderSteps.{close-no_model}
use Rattle.blif_numbers.proofs.builder.Builder.close_model.Goals as goal

pub close_model_in-requires-clause-model : goal.close_model_in-requires-clause-model
close_model_in-requires-clause-model c = sym (ap (λ (x : BuilderData). x.open_model) c.self.view_is) ∙ c.in-Some.is

pub returns-in-None : goal.returns-in-None
returns-in-None c =
    let done = close-no_model c.requires.builder (sym (ap (λ (x : BuilderData). x.open_model) c.self.view_is) ∙ c.in-None.is) in
    record { built = done.built_is; builder = done.builder; text = refl }
