-- Arms and ends that name pairs.
use Rattle.std.specs.Prelude.{ℕ, ◌<◌, ◌+◌, cond}
use Rattle.dual_rail.specs.ForestOrder.{ReadsBefore}
use Rattle.dual_rail.specs.Forests.{is_pair_arm, left_arm, right_arm}
use Rattle.dual_rail.specs.declared.forest.End.{End}
use Rattle.dual_rail.specs.declared.forest.End.TheVariants.{Const, Literal as literal_end, FromDynamic, FromOutput}
use Rattle.dual_rail.specs.declared.forest.Pair.{Pair}

-- both arms of a pair name no pair, or one of so many; and an end likewise
abbrev pub HasArmsThere : ℕ → Pair → Type 0
HasArmsThere pairs pair = ReadsBefore pairs (left_arm pair) × ReadsBefore pairs (right_arm pair)

abbrev pub IsEndThere : ℕ → End → Type 0
IsEndThere pairs (Const b) = Unit {0}
IsEndThere pairs (literal_end rail) = Unit {0}
IsEndThere pairs (FromDynamic place) = place < pairs
IsEndThere pairs (FromOutput place) = place < pairs

-- how many arms of a pair name this one
abbrev pub named_by : ℕ → Pair → ℕ
named_by place pair = cond (is_pair_arm place (left_arm pair)) 1 0 + cond (is_pair_arm place (right_arm pair)) 1 0
