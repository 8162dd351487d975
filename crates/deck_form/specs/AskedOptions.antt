-- What the options of a call of `synth` or `summary` ask for.
use Rattle.domino_cell.specs.declared.style.Style.TheVariants.{Keeper as WithKeeper}
use Rattle.deck_form.specs.DeckOptions.{DeckOptions}
use Rattle.deck_form.specs.declared.options.SynthOptions.{SynthOptions}

-- a deck within their bounds and on their clocks, in cells of their style
abbrev pub deck_options : SynthOptions → DeckOptions
deck_options options = record { width = options.bounds.w; height = options.bounds.h; phases = options.phases; style = options.style }

-- the same deck in cells with keepers
abbrev pub keeper_options : SynthOptions → DeckOptions
keeper_options options = record { width = options.bounds.w; height = options.bounds.h; phases = options.phases; style = WithKeeper }
