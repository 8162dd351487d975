-- The tables of a network by the lists of all that they read and of all their rows.
use Rattle.std.proofs.Common.{◌≡◌, ℕ, List, [], ◌∷◌, ◌++◌, length, ◌∙◌}
use Rattle.std.proofs.lemmas.List.{map-append}
use Rattle.std.proofs.lemmas.List.Elements.{recursion_from_All}
use Rattle.dom_base.proofs.Lists.{AllByRecursion-weaker}
use Rattle.blif_ast.specs.declared.letter.Letter.{Letter}
use Rattle.network.specs.declared.net_tables.TableAt.{TableAt}
use Rattle.network.specs.TablePools.{AreTablesWithin, IsTableWithin, table_in, tables_in}
use Rattle.network.proofs.ListPools.{list_behind, list_in-append}
use Rattle.network.proofs.Lists.{map_same}

module _ (reads inputs : List ℕ) (rows more : List (List Letter)) where
  table_in-append : (at : TableAt) → IsTableWithin (length reads) (length rows) at → table_in (reads ++ inputs) (rows ++ more) at ≡ table_in reads rows at
  table_in-append at within =
      let read = list_in-append reads inputs at.reads within.reads in
      let lines = list_in-append rows more at.rows within.rows in
      λ i. record { inputs = read i; on = at.on; rows = lines i }

  -- a table more
  pub pushed_table : (tables : List TableAt) (at : TableAt) → AreTablesWithin (length reads) (length rows) tables
      → at.reads.start ≡ length reads → at.reads.count ≡ length inputs → at.rows.start ≡ length rows → at.rows.count ≡ length more
      → tables_in (reads ++ inputs) (rows ++ more) (tables ++ at ∷ []) ≡ tables_in reads rows tables ++ record { inputs = inputs; on = at.on; rows = more } ∷ []
  pushed_table tables at within r s t u =
      let before = map_same (table_in (reads ++ inputs) (rows ++ more)) (table_in reads rows) tables
      (AllByRecursion-weaker (IsTableWithin (length reads) (length rows)) (λ at. table_in (reads ++ inputs) (rows ++ more) at ≡ table_in reads rows at) table_in-append tables
      (recursion_from_All (IsTableWithin (length reads) (length rows)) tables within)) in
      let read = list_behind reads inputs at.reads r s in
      let lines = list_behind rows more at.rows t u in
      map-append (table_in (reads ++ inputs) (rows ++ more)) tables (at ∷ [])
      ∙ (λ i. before i ++ record { inputs = read i; on = at.on; rows = lines i } ∷ [])
