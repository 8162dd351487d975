-- The models of a file of BLIF, the Berkeley Logic Interchange Format, by numbers: their cards in order of lines, and the
-- numbers of the models that their instances name.
use Rattle.std.specs.Prelude.{ℕ, ◌≡◌, ◌<◌, ◌≤◌, List, [], ◌∷◌, length, Contains, Some, slice_get, slice_index_or}
use Rattle.blif_ast.specs.BlifFileData.{BlifFileData}
use Rattle.blif_ast.specs.BlifModelData.{BlifModelData}
use Rattle.model_calls.specs.Expanded.{BodyCard, InstanceCard, LatchCard, TableCard, ordered_cards}
use Rattle.model_calls.specs.Occurrences.{main_model, models_called}
use Rattle.model_calls.specs.declared.plan.CardAt.{CardAt}
use Rattle.model_calls.specs.declared.plan.CardAt.TheVariants.{Table, Latch, Instance}

abbrev pub plan_at : List (List CardAt) → ℕ → List CardAt
plan_at plans k = slice_index_or plans k []

-- a number of each model that falls from a model to the models of its instances
pub record IsRanked (plans : List (List CardAt)) (rank : ℕ → ℕ) : Type 0 where
  pub inside : (k i u : ℕ) → Contains (plan_at plans k) (Instance i u) → u < length plans
  pub falls : (k i u : ℕ) → Contains (plan_at plans k) (Instance i u) → rank u < rank k

-- model 0 is there, and its rank is at most this
pub record HasMainPlan (plans : List (List CardAt)) (depth : ℕ) : Type 0 where
  pub rank : ℕ → ℕ
  pub ranked : IsRanked plans rank
  pub low : rank 0 ≤ depth
  pub some : 0 < length plans

-- a card by its numbers is this card of a model
abbrev pub IsCardAt : BlifFileData → BlifModelData → CardAt → BodyCard → Type 0
IsCardAt f m (Table k) (TableCard t) = slice_get m.tables k ≡ Some t
IsCardAt f m (Latch k) (LatchCard l) = slice_get m.latches k ≡ Some l
IsCardAt f m (Instance k u) (InstanceCard i) =
    (slice_get m.instances k ≡ Some i) × ((n : BlifModelData) × (slice_get f.models u ≡ Some n) × (models_called f.models i.unit ≡ n ∷ []))
IsCardAt f m _ _ = ⊥

abbrev pub AreCards : BlifFileData → BlifModelData → List CardAt → List BodyCard → Type 0
AreCards f m [] [] = Unit {0}
AreCards f m (at ∷ ats) (c ∷ cs) = IsCardAt f m at c × AreCards f m ats cs
AreCards f m _ _ = ⊥

-- the plans of a file: of each model its cards in order of lines
pub record IsPlanned (f : BlifFileData) (plans : List (List CardAt)) : Type 0 where
  pub main : slice_get f.models 0 ≡ Some (main_model f)
  pub cards : (k : ℕ) (m : BlifModelData) → slice_get f.models k ≡ Some m → AreCards f m (plan_at plans k) (ordered_cards m)
