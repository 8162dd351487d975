-- How large the network of a file of BLIF, the Berkeley Logic Interchange Format, is.
use Rattle.std.specs.Prelude.{ℕ, ◌<◌, ◌+◌, List, [], ◌∷◌, length}
use Rattle.std.specs.List.{sum_by}
use Rattle.std.specs.Set.{distinct_count}
use Rattle.blif_ast.specs.Cards.{same}
use Rattle.blif_ast.specs.BlifFileData.{BlifFileData}
use Rattle.blif_ast.specs.TableData.{TableData}
use Rattle.model_calls.specs.declared.fault.Limit.{Limit}
use Rattle.model_calls.specs.declared.fault.Limit.TheVariants.{Signals, Instances, Letters, Sinks}
use Rattle.network.specs.Limits.{most_signals, most_instances, most_letters, most_sinks, letters}
use Rattle.model_calls.specs.Occurrences.{Occurrence, main_model, names_of, occurrences}

-- the pairs of a path and a name of its model
abbrev pub signal_count : BlifFileData → ℕ
signal_count f = sum_by (λ (p : Occurrence). distinct_count same (names_of p.model)) (occurrences f)

-- the paths, the main model's own among them
abbrev pub instance_count : BlifFileData → ℕ
instance_count f = length (occurrences f)

-- the letters of all tables over all paths
abbrev pub letter_count : BlifFileData → ℕ
letter_count f = sum_by (λ (p : Occurrence). sum_by (λ (t : TableData). letters (length t.inputs) t.rows) p.model.tables) (occurrences f)

-- the main outputs, and the latches over all paths
abbrev pub sink_count : BlifFileData → ℕ
sink_count f = length (main_model f).outputs + sum_by (λ (p : Occurrence). length p.model.latches) (occurrences f)

-- a count that has a limit
pub record Counted : Type 0 where
  pub limit : Limit
  pub count : ℕ
  pub most : ℕ

abbrev pub counts : BlifFileData → List Counted
counts f =
    record { limit = Signals; count = signal_count f; most = most_signals }
    ∷ record { limit = Instances; count = instance_count f; most = most_instances }
    ∷ record { limit = Letters; count = letter_count f; most = most_letters }
    ∷ record { limit = Sinks; count = sink_count f; most = most_sinks }
    ∷ []

-- 20: the count is above its limit
abbrev pub IsTooMany : List Counted → Counted → Type 0
IsTooMany before c = c.most < c.count
