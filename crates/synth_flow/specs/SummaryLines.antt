-- The text of the figures of a deck.
use Rattle.std.specs.Prelude.{ℕ, List, ◌∷◌, [], ◌++◌, codes}
use Rattle.std.specs.Fmt.{decimal}
use Rattle.std.specs.List.{enumerate_from, flat_map}
use Rattle.synth_flow.specs.SummaryData.{SummaryData}

-- a line of a word and a value, with one blank between them
abbrev pub figure_line : List ℕ → List ℕ → List ℕ
figure_line word value = word ++ 32 ∷ value ++ 10 ∷ []

abbrev pub number_line : List ℕ → ℕ → List ℕ
number_line word number = figure_line word (decimal number)

-- the line of a clock with its number of cells
abbrev pub clock_line : ℕ × ℕ → List ℕ
clock_line p = number_line (codes "ck" ++ decimal p.0) p.1

-- the lines of the figures of the deck of a model of this name
abbrev pub summary_lines : List ℕ → SummaryData → List ℕ
summary_lines model s =
    figure_line (codes "model") model
    ++ number_line (codes "inputs") s.inputs
    ++ number_line (codes "outputs") s.outputs
    ++ number_line (codes "latches") s.latches
    ++ number_line (codes "pairs") s.pairs
    ++ number_line (codes "both") s.both
    ++ number_line (codes "minus") s.minus
    ++ number_line (codes "cells") s.cells
    ++ number_line (codes "levels") s.levels
    ++ number_line (codes "cost") s.cost
    ++ number_line (codes "devices") s.devices
    ++ flat_map clock_line (enumerate_from 1 s.clocks)
