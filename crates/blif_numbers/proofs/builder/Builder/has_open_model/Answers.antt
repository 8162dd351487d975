use Rattle.std.proofs.Common.{ap, sym, ◌∙◌}
use Rattle.std.specs.Option.{option_map}
use Rattle.blif_numbers.specs.Build.{has_model}
use Rattle.blif_numbers.specs.BuilderData.{BuilderData, built_in, model_of}
use Rattle.numbered_file.specs.OpenLists.{open_lists}
use Rattle.blif_numbers.proofs.builder.Builder.has_open_model.Goals as goal

pub returns-in-Some : goal.returns-in-Some
returns-in-Some c =
    ap (λ o. has_model (option_map (model_of c.self.inside.file.names (open_lists c.self.inside.file)) o)) (sym c.in-Some.is)
    ∙ ap (λ (x : BuilderData). has_model (built_in x).model) c.self.view_is

pub returns-in-None : goal.returns-in-None
returns-in-None c =
    ap (λ o. has_model (option_map (model_of c.self.inside.file.names (open_lists c.self.inside.file)) o)) (sym c.in-None.is)
    ∙ ap (λ (x : BuilderData). has_model (built_in x).model) c.self.view_is
