use Rattle.std.proofs.Common.{ap, map, ◌∙◌}
use Rattle.std.proofs.lemmas.Result.{on_ok_weaker}
use Rattle.blif_numbers.specs.Build.{Built}
use Rattle.blif_lines.specs.Cuts.{numbered_line}
use Rattle.blif_numbers.specs.BuilderData.{model_taken}
use Rattle.blif_numbers.proofs.builder.Builder.next_model.Goals as goal

pub start_model-requires-clause-none : goal.start_model-requires-clause-none
start_model-requires-clause-none c = ap (λ (x : Built). x.model) c.in_ok-close_model.ensures.built

pub returns-clause-built : goal.returns-clause-built
returns-clause-built c = on_ok_weaker c.start_model.result
    (λ e. e ∙ ap (λ b. model_taken b (numbered_line c.args.line (map (λ w. w.now) c.args.words.now))) c.in_ok-close_model.ensures.built) c.start_model.ensures.built

pub returns-clause-text : goal.returns-clause-text
returns-clause-text c = on_ok_weaker c.start_model.result (λ e. e ∙ c.in_ok-close_model.ensures.text) c.start_model.ensures.text
