-- How large the network of a file of BLIF, the Berkeley Logic Interchange Format, is, in numbers of 64 bits, and what comes of
-- comparing that with the limits.
use Rattle.std.specs.Prelude.{ℕ, ◌≡◌, List, Result, Ok, Err, length, map, min}
use Rattle.std.specs.List.{sum_by}
use Rattle.std.specs.Set.{distinct_count}
use Rattle.blif_ast.specs.BlifFileData.{BlifFileData}
use Rattle.blif_ast.specs.BlifModelData.{BlifModelData}
use Rattle.blif_ast.specs.Cards.{same}
use Rattle.blif_ast.specs.TableData.{TableData}
use Rattle.graph_order.specs.WalkSums.{largest_u64}
use Rattle.part_numbers.specs.declared.sizes.Sizes.{Sizes}
use Rattle.model_calls.specs.declared.fault.FlatFault.{FlatFault}
use Rattle.model_calls.specs.declared.fault.FlatFault.TheVariants.{At, TooMany, Memory}
use Rattle.model_calls.specs.declared.fault.Limit.{Limit}
use Rattle.model_calls.specs.declared.fault.Limit.TheVariants.{Signals, Instances, Letters, Sinks}
use Rattle.model_calls.specs.Counts.{instance_count, letter_count, signal_count, sink_count}
use Rattle.network.specs.Limits.{letters}
use Rattle.model_calls.specs.Occurrences.{Occurrence, names_of, occurrences}
use Rattle.model_calls.specs.Refusals.{IsCountReported}

-- each count, or the largest number of 64 bits where the count is larger
pub record AreSizes (f : BlifFileData) (s : Sizes) : Type 0 where
  pub signals : s.signals ≡ min (signal_count f) largest_u64
  pub instances : s.instances ≡ min (instance_count f) largest_u64
  pub letters : s.letters ≡ min (letter_count f) largest_u64
  pub sinks : s.sinks ≡ min (sink_count f) largest_u64

abbrev pub letters_of_table : TableData → ℕ
letters_of_table t = letters (length t.inputs) t.rows

-- what a path to a model counts for a limit: the main outputs are left out
abbrev pub model_weight : Limit → BlifModelData → ℕ
model_weight Signals m = distinct_count same (names_of m)
model_weight Instances m = 1
model_weight Letters m = sum_by letters_of_table m.tables
model_weight Sinks m = length m.latches

-- what a file counts for a limit
abbrev pub limit_count : Limit → BlifFileData → ℕ
limit_count Signals f = signal_count f
limit_count Instances f = instance_count f
limit_count Letters f = letter_count f
limit_count Sinks f = sink_count f

-- of each model what it counts, or the largest number of 64 bits where that is larger
abbrev pub model_weights : Limit → List BlifModelData → List ℕ
model_weights limit models = map (λ m. min (model_weight limit m) largest_u64) models

-- what all paths count
abbrev pub path_weights : Limit → BlifFileData → ℕ
path_weights limit f = sum_by (λ (p : Occurrence). model_weight limit p.model) (occurrences f)

-- a fault is a count that is above its limit, or there was too little memory
abbrev pub IsCountFault : BlifFileData → FlatFault → Type 0
IsCountFault f (At line kind name) = ⊥
IsCountFault f (TooMany limit count) = IsCountReported f limit count
IsCountFault f Memory = Unit {0}

-- looking for a count above its limit gave the first such one, or no count is above its limit, or there was too little memory
abbrev pub IsSizeCheck : {T : Type 0} → BlifFileData → Result T FlatFault → Type 0
IsSizeCheck f (Ok x) = (limit : Limit) (count : ℕ) → IsCountReported f limit count → ⊥
IsSizeCheck f (Err fault) = IsCountFault f fault
