-- The paths of a file by lines: what a walk has still to come to.
use Rattle.std.proofs.Common.{◌≡◌, ℕ, zero, suc, List, [], ◌∷◌, ◌++◌, map, length, refl, ap, sym, ◌∙◌, subst, arith, append_assoc, append-nil}
use Rattle.std.specs.List.{flat_map}
use Rattle.std.proofs.lemmas.Grind.{flat_map-append}
use Rattle.blif_ast.specs.BlifFileData.{BlifFileData}
use Rattle.blif_ast.specs.BlifModelData.{BlifModelData}
use Rattle.blif_ast.specs.InstanceData.{InstanceData}
use Rattle.blif_ast.specs.TableData.{TableData}
use Rattle.blif_ast.specs.declared.latch.Latch.{Latch}
use Rattle.model_calls.specs.Expanded.{BodyCard, InstanceCard, LatchCard, TableCard, card_line, ordered_cards}
use Rattle.part_numbers.specs.Expansions.{scope_occurrences}
use Rattle.part_numbers.specs.LineOccurrences.{line_occurrences_from, occurrences_below, occurrences_left, occurrences_left_of, occurrences_of_card}
use Rattle.part_numbers.specs.NumberedFiles.{model_at}
use Rattle.model_calls.specs.Occurrences.{Occurrence, models_called, occurrences_from}
use Rattle.part_numbers.specs.Walks.{Frame, entered}
use Rattle.part_numbers.specs.declared.walk.Scope.{Scope}
use Rattle.part_numbers.proofs.Permuted.{Permuted, both, keep, none, permuted_each, permuted_flat, permuted_order}

pub begins_left : (models : List BlifModelData) (depth : ℕ) (m : BlifModelData)
    → record { path = []; model = m } ∷ occurrences_left models (record { depth = depth; path = []; left = ordered_cards m } ∷ []) ≡ line_occurrences_from models (suc depth) [] m
begins_left models depth m = ap (λ l. record { path = []; model = m } ∷ l) (append-nil (occurrences_left_of models (record { depth = depth; path = []; left = ordered_cards m })))

pub entered_left : (models : List BlifModelData) (depth : ℕ) (path : List InstanceData) (i : InstanceData) (n : BlifModelData) (left : List BodyCard) (frames : List Frame)
    → models_called models i.unit ≡ n ∷ []
    → occurrences_left models (record { depth = suc depth; path = path; left = InstanceCard i ∷ left } ∷ frames)
    ≡ record { path = i ∷ path; model = n } ∷ occurrences_left models (entered depth path i n ∷ record { depth = suc depth; path = path; left = left } ∷ frames)
entered_left models depth path i n left frames called =
    ap (λ l. (l ++ others) ++ occurrences_left models frames) (ap (flat_map (line_occurrences_from models (suc depth) (i ∷ path))) called ∙ append-nil inner)
    ∙ append_assoc inner others (occurrences_left models frames)
  where
    inner : List Occurrence
    inner = record { path = i ∷ path; model = n } ∷ occurrences_left_of models (entered depth path i n)

    others : List Occurrence
    others = occurrences_left_of models (record { depth = suc depth; path = path; left = left })

-- one scope more
pub occurrences_push : (f : BlifFileData) (paths : List (List InstanceData)) (scopes : List Scope) (path : List InstanceData) (s : Scope) → length paths ≡ length scopes
    → scope_occurrences f (paths ++ path ∷ []) (scopes ++ s ∷ []) ≡ scope_occurrences f paths scopes ++ record { path = path; model = model_at f s.model } ∷ []
occurrences_push f [] [] path s e = refl
occurrences_push f [] (t ∷ scopes) path s e = absurd (omega (arith, e))
occurrences_push f (p ∷ paths) [] path s e = absurd (omega (arith, e))
occurrences_push f (p ∷ paths) (t ∷ scopes) path s e = ap (λ l. record { path = p; model = model_at f t.model } ∷ l) (occurrences_push f paths scopes path s (omega (arith, e)))

-- by lines or by the list of instances, the paths are the same but for their order

no_tables : (below : List InstanceData → List ℕ → List Occurrence) (path : List InstanceData) (ts : List TableData) → flat_map (occurrences_of_card below path) (map TableCard ts) ≡ []
no_tables below path [] = refl
no_tables below path (t ∷ ts) = no_tables below path ts

no_latches : (below : List InstanceData → List ℕ → List Occurrence) (path : List InstanceData) (ls : List Latch) → flat_map (occurrences_of_card below path) (map LatchCard ls) ≡ []
no_latches below path [] = refl
no_latches below path (l ∷ ls) = no_latches below path ls

only_instances : (below : List InstanceData → List ℕ → List Occurrence) (path : List InstanceData) (is : List InstanceData)
    → flat_map (occurrences_of_card below path) (map InstanceCard is) ≡ flat_map (λ (i : InstanceData). below (i ∷ path) i.unit) is
only_instances below path [] = refl
only_instances below path (i ∷ is) = ap (λ l. below (i ∷ path) i.unit ++ l) (only_instances below path is)

cards_only : (below : List InstanceData → List ℕ → List Occurrence) (path : List InstanceData) (m : BlifModelData)
    → flat_map (occurrences_of_card below path) (map TableCard m.tables ++ map LatchCard m.latches ++ map InstanceCard m.instances) ≡ flat_map (λ (i : InstanceData). below (i ∷ path) i.unit) m.instances
cards_only below path m =
    flat_map-append (occurrences_of_card below path) (map TableCard m.tables ++ map LatchCard m.latches) (map InstanceCard m.instances)
    ∙ ap (λ l. l ++ flat_map (occurrences_of_card below path) (map InstanceCard m.instances))
    (flat_map-append (occurrences_of_card below path) (map TableCard m.tables) (map LatchCard m.latches)
    ∙ ap (λ l. l ++ flat_map (occurrences_of_card below path) (map LatchCard m.latches)) (no_tables below path m.tables)
    ∙ no_latches below path m.latches)
    ∙ only_instances below path m.instances

pub lines_permuted : (models : List BlifModelData) (depth : ℕ) (path : List InstanceData) (m : BlifModelData)
    → Permuted (line_occurrences_from models depth path m) (occurrences_from models depth path m)
lines_permuted models zero path m = none
lines_permuted models (suc depth) path m = keep (both
    (permuted_flat (occurrences_of_card (occurrences_below models depth) path)
    (permuted_order card_line (map TableCard m.tables ++ map LatchCard m.latches ++ map InstanceCard m.instances)))
    (subst (λ l. Permuted l (flat_map under m.instances)) (sym (cards_only (occurrences_below models depth) path m))
    (permuted_each (λ (i : InstanceData). occurrences_below models depth (i ∷ path) i.unit) under m.instances (each (lines_permuted models depth)))))
  where
    under : InstanceData → List Occurrence
    under i = flat_map (occurrences_from models depth (i ∷ path)) (models_called models i.unit)

    each : ((p : List InstanceData) (n : BlifModelData) → Permuted (line_occurrences_from models depth p n) (occurrences_from models depth p n))
        → (i : InstanceData) → Permuted (occurrences_below models depth (i ∷ path) i.unit) (under i)
    each deeper i = permuted_each (line_occurrences_from models depth (i ∷ path)) (occurrences_from models depth (i ∷ path)) (models_called models i.unit) (deeper (i ∷ path))
