use Rattle.std.proofs.Common.{refl}
use Rattle.blif_numbers.proofs.BuilderSteps.{close-no_table}
use Rattle.blif_numbers.proofs.builder.Builder.close_table.Goals as goal

pub close_table_in-requires-clause-model : goal.close_table_in-requires-clause-model
close_table_in-requires-clause-model c = c.in-Some.ensures.0

pub close_table_in-requires-clause-table : goal.close_table_in-requires-clause-table
close_table_in-requires-clause-table c = c.in-Some.ensures.1

pub returns-in-None : goal.returns-in-None
returns-in-None c =
    let done = close-no_table c.requires.builder c.in-None.ensures in
    record { built = done.built_is; builder = done.builder; text = refl }
