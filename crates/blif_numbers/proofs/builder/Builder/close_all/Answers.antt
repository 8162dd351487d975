use Rattle.std.proofs.Common.{ap, ◌∙◌}
use Rattle.std.proofs.lemmas.Result.{on_ok_weaker}
use Rattle.blif_numbers.specs.Build.{Built}
use Rattle.blif_numbers.specs.BuilderData.{model_closed}
use Rattle.blif_numbers.proofs.builder.Builder.close_all.Goals as goal

pub close_model-requires-clause-table : goal.close_model-requires-clause-table
close_model-requires-clause-table c = ap (λ (b : Built). b.table) c.in_ok-close_table.ensures.built

pub returns-clause-built : goal.returns-clause-built
returns-clause-built c = on_ok_weaker c.close_model.result (λ e. e ∙ ap model_closed c.in_ok-close_table.ensures.built) c.close_model.ensures.built
