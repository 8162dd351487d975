use Rattle.std.proofs.Common.{◌≡◌, length, sym, subst, map}
use Rattle.std.specs.Prelude.{All, slice_get, Some}
use Rattle.net_flatten.specs.declared.table_order.LevelledTable.{LevelledTable}
use Rattle.net_flatten.specs.Dependences.{level_at}
use Rattle.net_flatten.specs.LevelledTables.{AreLevelledTables}
use Rattle.part_numbers.specs.NumberedFaults.{IsPartWithin}
use Rattle.model_calls.specs.Ordered.{in_order}
use Rattle.net_flatten.specs.TableNumbers.{tables_among}
use Rattle.net_flatten.proofs.LevelledTables.{levelled_in_order}
use Rattle.net_flatten.proofs.table_order.tables_by_level.Goals as goal

pub levelled_tables-requires : goal.levelled_tables-requires
levelled_tables-requires c = record {
  within = subst (λ ls. All (IsPartWithin (length ls)) c.args.parts.now) (sym c.as_slice.ensures.value) c.requires.within;
}

pub returns : goal.returns
returns c =
    let tables = subst (λ ls. AreLevelledTables ls c.args.parts.now (tables_among c.args.parts.now) c.in_ok-tables.tables.items)
    c.as_slice.ensures.value c.in_ok-tables.ensures in
    subst (λ ts. map (λ (t : LevelledTable). slice_get c.args.parts.now t.part) ts
    ≡ map Some (in_order (λ p. level_at c.args.levels.items p.drives) (tables_among c.args.parts.now)))
    (sym c.in_ok-sort_by_level.ensures)
    (levelled_in_order c.args.levels.items c.args.parts.now (tables_among c.args.parts.now) c.in_ok-tables.tables.items tables)
