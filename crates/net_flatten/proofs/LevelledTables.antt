-- Tables with their levels, one by one.
use Rattle.std.proofs.Common.{◌≡◌, ℕ, List, [], ◌∷◌, ◌++◌, map, Some, ap, sym, ◌∙◌}
use Rattle.std.specs.Prelude.{slice_get}
use Rattle.dom_base.proofs.Lists.{map-push}
use Rattle.net_flatten.specs.declared.table_order.LevelledTable.{LevelledTable}
use Rattle.net_flatten.specs.Dependences.{level_at}
use Rattle.net_flatten.specs.LevelledTables.{AreLevelledTables}
use Rattle.part_numbers.specs.NumberedFiles.{NumberedPartData}
use Rattle.model_calls.specs.Ordered.{in_order}
use Rattle.net_flatten.proofs.OrderedAlike.{in_order_alike}

pub levelled_with : (levels : List ℕ) (parts tables : List NumberedPartData) (levelled : List LevelledTable) (index level : ℕ) (p : NumberedPartData)
    → slice_get parts index ≡ Some p → level ≡ level_at levels p.drives → AreLevelledTables levels parts tables levelled
    → AreLevelledTables levels parts (tables ++ p ∷ []) (levelled ++ record { level = level; part = index } ∷ [])
levelled_with levels parts tables levelled index level p at is are = record {
  are_tables = map-push (λ (t : LevelledTable). slice_get parts t.part) levelled (record { level = level; part = index })
      ∙ ap (λ l. l ++ slice_get parts index ∷ []) are.are_tables ∙ ap (λ o. map Some tables ++ o ∷ []) at ∙ sym (map-push Some tables p);
  have_levels = map-push (λ (t : LevelledTable). t.level) levelled (record { level = level; part = index })
      ∙ ap (λ l. l ++ level ∷ []) are.have_levels ∙ ap (λ o. map (λ (q : NumberedPartData). level_at levels q.drives) tables ++ o ∷ []) is
      ∙ sym (map-push (λ (q : NumberedPartData). level_at levels q.drives) tables p);
}

-- and in order
pub levelled_in_order : (levels : List ℕ) (parts tables : List NumberedPartData) (levelled : List LevelledTable) → AreLevelledTables levels parts tables levelled
    → map (λ (t : LevelledTable). slice_get parts t.part) (in_order (λ (t : LevelledTable). t.level) levelled) ≡ map Some (in_order (λ p. level_at levels p.drives) tables)
levelled_in_order levels parts tables levelled are = (in_order_alike (λ (t : LevelledTable). slice_get parts t.part) Some (λ (t : LevelledTable). t.level) (λ p. level_at levels p.drives) levelled tables are.are_tables are.have_levels).0
