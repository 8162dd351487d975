-- The cards of a model by its parts, which stand in order of lines.
use Rattle.std.specs.Prelude.{ℕ, ◌≡◌, ◌≤◌, ◌+◌, List, [], ◌∷◌, slice_index_or}
use Rattle.std.specs.List.{filter_map}
use Rattle.blif_ast.specs.BlifModelData.{BlifModelData}
use Rattle.numbered_file.specs.declared.parts.PartKind.{PartKind}
use Rattle.numbered_file.specs.declared.parts.PartKind.TheVariants as at
use Rattle.numbered_file.specs.Numbered.{InstancePart, LatchPart, Part, TablePart, instance_in, latch_in, table_in}
use Rattle.card_places.specs.declared.model_plans.Counts.{Counts}
use Rattle.model_calls.specs.declared.plan.CardAt.{CardAt}
use Rattle.model_calls.specs.declared.plan.CardAt.TheVariants.{Table, Latch, Instance}
use Rattle.model_calls.specs.Expanded.{BodyCard, InstanceCard, LatchCard, TableCard, card_line}

-- a part as a card, and its line
abbrev pub part_card : Part → BodyCard
part_card (TablePart table) = TableCard table
part_card (LatchPart latch) = LatchCard latch
part_card (InstancePart instance) = InstanceCard instance

abbrev pub part_line : Part → ℕ
part_line p = card_line (part_card p)

-- numbers that rise from this one on
abbrev pub RisesFrom : ℕ → List ℕ → Type 0
RisesFrom low [] = Unit {0}
RisesFrom low (n ∷ ns) = (low ≤ n) × RisesFrom (n + 1) ns

-- a model has these parts
pub record HasModelParts (m : BlifModelData) (parts : List Part) : Type 0 where
  pub tables : m.tables ≡ filter_map table_in parts
  pub latches : m.latches ≡ filter_map latch_in parts
  pub instances : m.instances ≡ filter_map instance_in parts

-- a part of this kind as a card, behind so many cards of its model, where the instances name the models of these numbers
abbrev pub card_by : PartKind → Counts → List ℕ → CardAt
card_by (at.Table on) before callees = Table before.tables
card_by (at.Latch edge init) before callees = Latch before.latches
card_by at.Instance before callees = Instance before.instances (slice_index_or callees before.instances 0)

-- so many cards and one of this kind
abbrev pub counted : PartKind → Counts → Counts
counted (at.Table on) before = record { tables = before.tables + 1; latches = before.latches; instances = before.instances }
counted (at.Latch edge init) before = record { tables = before.tables; latches = before.latches + 1; instances = before.instances }
counted at.Instance before = record { tables = before.tables; latches = before.latches; instances = before.instances + 1 }
