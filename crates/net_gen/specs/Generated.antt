-- The network that is generated from a seed, with a number of tables, and its file of BLIF (Berkeley Logic Interchange Format).
use Rattle.std.specs.Prelude.{ℕ, ◌+◌, ◌-◌, ◌*◌, ◌/◌, ◌==◌, min, not, false, if◌then◌else◌, List, [], ◌∷◌, ◌++◌, map, codes}
use Rattle.std.specs.Fmt.{decimal}
use Rattle.std.specs.List.{range_with_len}
use Rattle.blif_ast.specs.declared.letter.Letter.{Letter}
use Rattle.blif_ast.specs.declared.letter.Letter.TheVariants.{Zero, One, Any}
use Rattle.blif_ast.specs.BlifFileData.{BlifFileData}
use Rattle.network.specs.declared.network.NetLatch.{NetLatch}
use Rattle.network.specs.NetworkData.{NetTableData, NetworkData}
use Rattle.net_flatten.specs.OneModel.{file_of}
use Rattle.net_gen.specs.Draws.{drawn, seed_state, draw_state_after}

-- Signals are numbered: 16 inputs first, then the outputs of the latches, one for each 16 tables, then the outputs of the tables.
abbrev pub latch_count : ℕ → ℕ
latch_count tables = tables / 16

abbrev pub table_signal : ℕ → ℕ → ℕ
table_signal tables table = 16 + latch_count tables + table

-- the letter of a draw of three
abbrev pub drawn_letter : ℕ → Letter
drawn_letter draw = if draw == 0 then Zero else (if draw == 1 then One else Any)

-- the three numbers from one on
abbrev pub three_from : ℕ → List ℕ
three_from first = first ∷ (first + 1) ∷ (first + 2) ∷ []

-- An input of a table behind so many signals is one of the last 60 of them: input k is k, k + 3, k + 6 .. places before the last,
-- by a draw of how many threes.
abbrev pub reach : ℕ → ℕ
reach signals = min signals 60 / 3

abbrev pub input_of : ℕ → ℕ → ℕ → ℕ
input_of signals draw k = signals - 1 - (3 * draw + k)

-- A table is drawn by the state before its ten draws: the first three are those of its inputs.
abbrev pub input_behind : ℕ → ℕ → ℕ → ℕ
input_behind signals state k = input_of signals (drawn state k (reach signals)) k

-- the last six are those of two rows of three letters
abbrev pub row_at : ℕ → ℕ → List Letter
row_at state first = map (λ draw. drawn_letter (drawn state draw 3)) (three_from first)

-- and the fourth decides what the rows end in: 0 at one of four
abbrev pub table_behind : ℕ → ℕ → NetTableData
table_behind signals state = record {
  inputs = map (input_behind signals state) (three_from 0);
  on = not (drawn state 3 4 == 0);
  rows = row_at state 4 ∷ row_at state 7 ∷ [];
}

-- the state before the draws of a table
abbrev pub draw_state_before : ℕ → ℕ → ℕ
draw_state_before seed table = draw_state_after (10 * table) (seed_state seed)

abbrev pub generated_table : ℕ → ℕ → ℕ → NetTableData
generated_table seed tables table = table_behind (table_signal tables table) (draw_state_before seed table)

-- the latch of each 16 tables takes the first of them, and starts at 0
abbrev pub generated_latch : ℕ → ℕ → NetLatch
generated_latch tables latch = record { input = table_signal tables (16 * latch); init = false }

-- a letter with the numbers from 0 on
abbrev pub numbered_names : List ℕ → ℕ → List (List ℕ)
numbered_names letter count = map (λ number. letter ++ decimal number) (range_with_len 0 count)

-- The network: its outputs are the last 16 tables, or all where there are fewer.
abbrev pub generated_network : ℕ → ℕ → NetworkData
generated_network seed tables = record {
  name = codes "gen";
  names = numbered_names (codes "a") 16 ++ numbered_names (codes "q") (latch_count tables) ++ numbered_names (codes "t") tables;
  inputs = 16;
  outputs = map (table_signal tables) (range_with_len (tables - 16) (min tables 16));
  latches = map (generated_latch tables) (range_with_len 0 (latch_count tables));
  tables = map (generated_table seed tables) (range_with_len 0 tables);
}

-- and its file, which is one model
abbrev pub generated : ℕ → ℕ → BlifFileData
generated seed tables = file_of (generated_network seed tables)
