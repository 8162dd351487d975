use Rattle.std.proofs.Common.{map, refl}
use Rattle.blif_numbers.proofs.BuilderSteps.{row-none}
use Rattle.blif_numbers.proofs.builder.Builder.push_row.Goals as goal

pub push_row_in-requires-clause-model : goal.push_row_in-requires-clause-model
push_row_in-requires-clause-model c = c.in-Some.ensures.0

pub push_row_in-requires-clause-table : goal.push_row_in-requires-clause-table
push_row_in-requires-clause-table c = c.in-Some.ensures.1

pub returns-in-None : goal.returns-in-None
returns-in-None c =
    let done = row-none (map (λ w. w.now) c.args.words.now) c.requires.builder c.in-None.ensures in
    record { built = done.built_is; builder = done.builder; text = refl }
