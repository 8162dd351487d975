-- What a walk over all paths of a file of BLIF, the Berkeley Logic Interchange Format, makes by numbers: its scopes, which are
-- models at paths, and the tables and latches in them.
use Rattle.std.specs.Prelude.{ℕ, zero, suc, ◌≡◌, ◌<◌, ◌≤◌, ◌+◌, ◌-◌, ◌⊎◌, List, [], ◌∷◌, ◌++◌, drop, length, map, reverse, Option, Some, None, slice_get, slice_index_or}
use Rattle.std.specs.List.{AllByRecursion, sum_by}
use Rattle.std.specs.Option.{option_map}
use Rattle.blif_ast.specs.BlifFileData.{BlifFileData}
use Rattle.blif_ast.specs.BlifModelData.{BlifModelData}
use Rattle.blif_ast.specs.declared.latch.Latch.{Latch}
use Rattle.blif_ast.specs.InstanceData.{InstanceData}
use Rattle.blif_ast.specs.TableData.{TableData}
use Rattle.model_calls.specs.Expanded.{LatchPart, PlacedPart, TablePart, ordered_cards, expanded_from}
use Rattle.part_numbers.specs.LineOccurrences.{line_occurrences_from, occurrences_left}
use Rattle.model_calls.specs.Occurrences.{Occurrence, main_model, models_called}
use Rattle.part_numbers.specs.Walks.{Frame as Way, rest}
use Rattle.part_numbers.specs.NumberedFiles.{model_at}
use Rattle.part_numbers.specs.declared.numbered.PartCard.{PartCard}
use Rattle.part_numbers.specs.declared.numbered.PartCard.TheVariants.{Table as TableIndex, Latch as LatchIndex}
use Rattle.model_calls.specs.declared.plan.CardAt.{CardAt}
use Rattle.model_calls.specs.declared.plan.CardAt.TheVariants.{Table, Latch as LatchAt, Instance}
use Rattle.part_numbers.specs.declared.walk.Frame.{Frame}
use Rattle.part_numbers.specs.declared.walk.ScopedPart.{ScopedPart}
use Rattle.part_numbers.specs.declared.walk.Scope.{Scope}
use Rattle.model_calls.specs.Plans.{IsPlanned, IsRanked, plan_at}

pub record ExpansionData : Type 0 where
  pub scopes : List Scope
  pub parts : List ScopedPart
  pub frames : List Frame

-- the steps of the walk, as changes of lists

abbrev pub entered : ExpansionData → ℕ → ℕ → ℕ → ℕ → ExpansionData
entered e model above instance depth = record {
  scopes = e.scopes ++ record { model = model; above = above; instance = instance } ∷ [];
  parts = e.parts;
  frames = e.frames ++ record { scope = length e.scopes; model = model; next = 0; depth = depth } ∷ [];
}

abbrev pub pushed_frame : ExpansionData → Frame → ExpansionData
pushed_frame e frame = record { scopes = e.scopes; parts = e.parts; frames = e.frames ++ frame ∷ [] }

abbrev pub further : Frame → Frame
further frame = record { scope = frame.scope; model = frame.model; next = frame.next + 1; depth = frame.depth }

abbrev pub met : ExpansionData → Frame → PartCard → ExpansionData
met e frame card = record {
  scopes = e.scopes;
  parts = e.parts ++ record { scope = frame.scope; model = frame.model; card = card } ∷ [];
  frames = e.frames;
}

abbrev pub after_card : ExpansionData → Frame → Option CardAt → ExpansionData
after_card e frame None = e
after_card e frame (Some (Table at)) = met (pushed_frame e (further frame)) frame (TableIndex at)
after_card e frame (Some (LatchAt at)) = met (pushed_frame e (further frame)) frame (LatchIndex at)
after_card e frame (Some (Instance at unit)) = entered (pushed_frame e (further frame)) unit frame.scope at (frame.depth - 1)

abbrev pub stepped : List (List CardAt) → ExpansionData → Frame → ExpansionData
stepped plans e frame = after_card e frame (slice_get (plan_at plans frame.model) frame.next)

-- each frame's model is there, and no deeper than the frame may go
pub record AreFramesRanked (plans : List (List CardAt)) (e : ExpansionData) : Type 0 where
  pub rank : ℕ → ℕ
  pub ranked : IsRanked plans rank
  pub low : AllByRecursion (λ (f : Frame). (f.model < length plans) × (rank f.model ≤ f.depth)) e.frames

-- what it means for a file

abbrev pub path_at : List (List InstanceData) → ℕ → List InstanceData
path_at paths scope = slice_index_or paths scope []

abbrev pub part_with : List InstanceData → BlifModelData → PartCard → Option PlacedPart
part_with path m (TableIndex at) = option_map (λ (t : TableData). TablePart (record { path = path; table = t })) (slice_get m.tables at)
part_with path m (LatchIndex at) = option_map (λ (l : Latch). LatchPart (record { path = path; latch = l })) (slice_get m.latches at)

abbrev pub part_at : BlifFileData → List (List InstanceData) → ScopedPart → Option PlacedPart
part_at f paths p = part_with (path_at paths p.scope) (model_at f p.model) p.card

abbrev pub way_of : BlifFileData → List (List InstanceData) → Frame → Way
way_of f paths frame = record {
  depth = frame.depth;
  path = path_at paths frame.scope;
  left = drop frame.next (ordered_cards (model_at f frame.model));
}

-- a scope has this model
abbrev pub HasModel : List Scope → ℕ → ℕ → Type 0
HasModel scopes scope model = (s : Scope) × (slice_get scopes scope ≡ Some s) × (s.model ≡ model)

-- the path of a scope goes on from that of the scope above it by the instance there, whose model it has
pub record IsScopeBelow (f : BlifFileData) (paths : List (List InstanceData)) (scopes : List Scope) (scope : ℕ) (s : Scope) : Type 0 where
  pub above : s.above < scope
  pub model : ℕ
  pub has_model : HasModel scopes s.above model
  pub instance : InstanceData
  pub instance_is : slice_get (model_at f model).instances s.instance ≡ Some instance
  pub called : models_called f.models instance.unit ≡ model_at f s.model ∷ []
  pub path_is : path_at paths scope ≡ instance ∷ path_at paths s.above

-- scope 0 is the main model's own, and each other scope is below one before it
abbrev pub IsScope : BlifFileData → List (List InstanceData) → List Scope → ℕ → Scope → Type 0
IsScope f paths scopes scope s = ((scope ≡ 0) × (path_at paths scope ≡ []) × (s.model ≡ 0)) ⊎ IsScopeBelow f paths scopes scope s

abbrev pub AreScopes : BlifFileData → List (List InstanceData) → List Scope → Type 0
AreScopes f paths scopes = (scope : ℕ) (s : Scope) → slice_get scopes scope ≡ Some s → IsScope f paths scopes scope s

abbrev pub IsInFile : BlifFileData → Scope → Type 0
IsInFile f s = s.model < length f.models

-- a part or a frame stands in a scope of its model
abbrev pub IsPartInside : List Scope → ScopedPart → Type 0
IsPartInside scopes p = (p.scope < length scopes) × HasModel scopes p.scope p.model

-- the scopes as paths with their models
abbrev pub scope_occurrences : BlifFileData → List (List InstanceData) → List Scope → List Occurrence
scope_occurrences f [] scopes = []
scope_occurrences f (path ∷ paths) [] = []
scope_occurrences f (path ∷ paths) (s ∷ scopes) = record { path = path; model = model_at f s.model } ∷ scope_occurrences f paths scopes

-- paths of the scopes of a file
pub record ArePaths (f : BlifFileData) (scopes : List Scope) (paths : List (List InstanceData)) : Type 0 where
  pub count : length paths ≡ length scopes
  pub scopes_are : AreScopes f paths scopes
  pub in_file : AllByRecursion (IsInFile f) scopes

-- with paths of the scopes, the parts that were met and those to come are the expanded list, and so with the scopes
pub record MakesExpansion (f : BlifFileData) (depth : ℕ) (e : ExpansionData) : Type 0 where
  pub paths : List (List InstanceData)
  pub are_paths : ArePaths f e.scopes paths
  pub parts_inside : AllByRecursion (IsPartInside e.scopes) e.parts
  pub frames_inside : AllByRecursion (λ (g : Frame). (g.scope < length paths)
      × ((m : BlifModelData) × (slice_get f.models g.model ≡ Some m)) × HasModel e.scopes g.scope g.model) e.frames
  pub whole :
      map (part_at f paths) e.parts ++ map Some (rest f.models (map (way_of f paths) (reverse e.frames)))
      ≡ map Some (expanded_from f.models (suc depth) [] (main_model f))
  pub all_scopes :
      scope_occurrences f paths e.scopes ++ occurrences_left f.models (map (way_of f paths) (reverse e.frames))
      ≡ line_occurrences_from f.models (suc depth) [] (main_model f)

-- for each file of these plans there are paths of the scopes; with them the parts are those of its expanded list in order,
-- and the scopes are its paths
pub record IsExpansion (f : BlifFileData) (depth : ℕ) (e : ExpansionData) : Type 0 where
  pub paths : List (List InstanceData)
  pub are_paths : ArePaths f e.scopes paths
  pub parts_inside : AllByRecursion (IsPartInside e.scopes) e.parts
  pub parts_are : map (part_at f paths) e.parts ≡ map Some (expanded_from f.models (suc depth) [] (main_model f))
  pub scopes_are : scope_occurrences f paths e.scopes ≡ line_occurrences_from f.models (suc depth) [] (main_model f)

abbrev pub HasExpansion : List (List CardAt) → ℕ → ExpansionData → Type 0
HasExpansion plans depth e = (f : BlifFileData) → IsPlanned f plans → IsExpansion f depth e

-- the work that is left: each card is met once, each instance is entered and left

abbrev pub card_work : (ℕ → ℕ) → CardAt → ℕ
card_work of_unit (Table at) = 1
card_work of_unit (LatchAt at) = 1
card_work of_unit (Instance at unit) = of_unit unit + 2

abbrev pub work_at : List (List CardAt) → ℕ → ℕ → ℕ
work_at plans zero model = sum_by (card_work (λ unit. 0)) (plan_at plans model)
work_at plans (suc depth) model = sum_by (card_work (work_at plans depth)) (plan_at plans model)

abbrev pub work_below : List (List CardAt) → ℕ → ℕ → ℕ
work_below plans zero unit = 0
work_below plans (suc depth) unit = work_at plans depth unit

abbrev pub frame_work : List (List CardAt) → Frame → ℕ
frame_work plans f = sum_by (card_work (work_below plans f.depth)) (drop f.next (plan_at plans f.model)) + 1

abbrev pub work : List (List CardAt) → ExpansionData → ℕ
work plans e = sum_by (frame_work plans) e.frames
