-- The names on the cards of a model, by the parts of a file of BLIF (Berkeley Logic Interchange Format) by numbers.
use Rattle.std.specs.Prelude.{ℕ, ◌≡◌, ◌⊎◌, ◌+◌, Bool, true, List, [], ◌++◌, map}
use Rattle.std.specs.List.{flat_map}
use Rattle.blif_ast.specs.declared.instance.Binding.{Binding}
use Rattle.numbered_file.specs.NumberedData.{NumberedData}
use Rattle.numbered_file.specs.Numbered.{Part, TablePart, LatchPart, InstancePart, between, bindings_by, named, parts_of}
use Rattle.numbered_file.specs.Places.{first_part, inputs_at, outputs_at}
use Rattle.local_names.specs.declared.model_numbers.CardKind.{CardKind}
use Rattle.local_names.specs.declared.model_numbers.CardKind.TheVariants.{Table, Latch, Instance}
use Rattle.model_calls.specs.Occurrences.{actuals_of, names_of_latch, names_of_table}

-- the names on the card of a part, where it is of this kind
abbrev pub names_by : CardKind → Part → List (List ℕ)
names_by Table (TablePart table) = names_of_table table
names_by Latch (LatchPart latch) = names_of_latch latch
names_by Instance (InstancePart instance) = actuals_of instance
names_by _ _ = []

-- the parts of a model
abbrev pub parts_at : NumberedData → ℕ → List Part
parts_at d m = between (first_part d m) (first_part d (m + 1)) (parts_of d)

-- names, and behind them those on all cards of a model, tables before latches before instances
abbrev pub with_cards : List (List ℕ) → List Part → List (List ℕ)
with_cards names parts = names ++ flat_map (names_by Table) parts ++ flat_map (names_by Latch) parts ++ flat_map (names_by Instance) parts

-- the names that occur in a model
abbrev pub all_names : NumberedData → ℕ → List (List ℕ)
all_names d m = with_cards (named d.names (inputs_at d m) ++ named d.names (outputs_at d m)) (parts_at d m)

-- the names of the actuals of an instance, by those of its formals and actuals in turn
abbrev pub actuals_by : List (List ℕ) → List (List ℕ)
actuals_by names = map (λ (b : Binding). b.actual) (bindings_by names)

-- a latch has two words, and a third only where it has an edge
abbrev pub IsLatchForm : ℕ → Bool → Type 0
IsLatchForm count has_edge = (count ≡ 2) ⊎ ((count ≡ 3) × (has_edge ≡ true))
