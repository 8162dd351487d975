use Rattle.std.proofs.Common.{◌≡◌, ◌++◌, ◌∷◌, [], ap, subst, sym, arith, slice_index_or, slice_set}
use Rattle.std.proofs.lemmas.Option.{slice_get-get_or}
use Rattle.cover_plan.specs.CoverTables.{Entry}
use Rattle.cover_plan.specs.Parts.{TreeShape}
use Rattle.tree_map.specs.CoverRows.{IsRow, IsShapeIn, row_index}
use Rattle.tree_map.proofs.Rows.{IsLesser, index_in, row_past, row_put}
use Rattle.tree_map.proofs.joins.keep_least.Goals.{then-shape-bounds-via-then-shape-bounds, then-shape-bounds-via-else-shape-bounds+then-shape-bounds-2}
use Rattle.tree_map.proofs.joins.keep_least.Goals as goal

pub returns-then-shape-bounds-clause-least : goal.returns-then-shape-bounds-clause-least
returns-then-shape-bounds-clause-least c = λ es is.
    row_past c.args.bounds.w c.args.bounds.h es (record { shape = c.args.shape; sum = c.args.sum }) c.args.row.now is (λ in_. elim c.then-shape-bounds.branch [
      | then-shape-bounds-via-then-shape-bounds w ↦ absurd (omega (arith, in_.high, ap (λ (s : TreeShape). s.height) c.shape.view_is))
      | then-shape-bounds-via-else-shape-bounds+then-shape-bounds-2 w ↦ absurd (omega (arith, in_.broad, ap (λ (s : TreeShape). s.width) c.shape.view_is))
    ]) c.requires.some

pub returns-clause-least : goal.returns-clause-least
returns-clause-least c = λ es is.
    let e : Entry = record { shape = c.args.shape; sum = c.args.sum } in
    let rise = ap (λ (s : TreeShape). s.height) c.shape.view_is in
    let run = ap (λ (s : TreeShape). s.width) c.shape.view_is in
    let in_ : IsShapeIn c.args.bounds.w c.args.bounds.h e.shape = record { tall = c.requires.tall; high = omega (arith, rise); wide = c.requires.wide; broad = omega (arith, run) } in
    let lt = index_in c.args.bounds.w c.args.bounds.h e.shape in_ in
    let here : c.index-index.result ≡ row_index c.args.bounds.w e.shape = c.index-index.ensures in
    let number = slice_index_or c.args.row.now (row_index c.args.bounds.w e.shape) 0 in
    let less : IsLesser number e.sum c.lesser.result =
    subst (λ k. IsLesser (slice_index_or c.args.row.now k 0) e.sum c.lesser.result) here (c.lesser.ensures.none, c.lesser.ensures.some) in
    subst (λ k. IsRow c.args.bounds.w c.args.bounds.h (es ++ e ∷ []) (slice_set c.args.row.now k c.lesser.result)) (sym here)
    (row_put c.args.bounds.w c.args.bounds.h es e c.args.row.now number c.lesser.result is in_ c.requires.some
    (slice_get-get_or c.args.row.now (row_index c.args.bounds.w e.shape) 0 (rw c.requires.count lt)) less)
