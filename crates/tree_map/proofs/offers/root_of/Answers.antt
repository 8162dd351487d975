-- The first number that is least of all belongs to the shape of a root.
use Rattle.std.proofs.Common.{◌≡◌, ◌≤◌, ◌<◌, sym, ap, subst, ◌+◌, length, get_or, slice_get, Some, arith}
use Rattle.std.proofs.lemmas.Option.{slice_get-get_or}
use Rattle.tree_map.specs.CoverRows.{IsShapeIn, row_index}
use Rattle.tree_map.proofs.FirstShapes.{IsFirstBelow, first_found, first_is, first_stays, first_sum, first_within, none_had}
use Rattle.tree_map.proofs.ReadRows.{row_of}
use Rattle.tree_map.proofs.offers.root_of.Goals.{then-is_less, else-is_less}
use Rattle.tree_map.proofs.offers.root_of.Goals as goal

pub loop-index-preserved : goal.loop-index-preserved
loop-index-preserved c =
    let t = c.args.sums.now in
    let row : c.row-row.result.now ≡ row_of t c.args.place = c.row-row.ensures in
    let k = c.loop-index.index in
    let sum = get_or c.row-row.result.now k 0 in
    let at : slice_get (row_of t c.args.place) k ≡ Some sum = subst (λ xs. slice_get xs k ≡ Some sum) row (slice_get-get_or c.row-row.result.now k 0 (omega (arith, c.loop-index-test.true, c.loop-index.auto.index-end))) in
    elim c.if-is_less.branch [
      | then-is_less w ↦
          (let less = c.is_less.ensures.less w.if-is_less.true in
          subst (λ n. IsFirstBelow t c.args.place (k + 1) n c.if-is_less.least) (sym w.first-is)
          (subst (IsFirstBelow t c.args.place (k + 1) k) (sym w.least-is) (first_found t c.args.place k c.loop-index.first c.loop-index.least sum c.loop-index.invariant at less.0 less.1)))
      | else-is_less w ↦
          subst (λ n. IsFirstBelow t c.args.place (k + 1) n c.if-is_less.least) (sym w.first-is)
          (subst (IsFirstBelow t c.args.place (k + 1) c.loop-index.first) (sym w.least-is)
          (first_stays t c.args.place k c.loop-index.first c.loop-index.least sum c.loop-index.invariant at (c.is_less.ensures.not_less w.if-is_less.false)))
    ]

pub at-requires : goal.at-requires
at-requires c =
    let t = c.args.sums.now in
    let row : c.row-row.result.now ≡ row_of t c.args.place = c.row-row.ensures in
    let all : length (row_of t c.args.place) ≤ c.loop-index.index = omega (arith, ap length row, c.loop-index-test.false, c.loop-index.auto.index-end) in
    let some : 0 < c.loop-index.least = omega (arith, c.if-least-eq0.false) in
    record { within = rw (c.bounds-bounds.ensures.width, c.bounds-bounds.ensures.height) (first_within t c.args.place c.loop-index.index c.loop-index.first c.loop-index.least c.loop-index.invariant all some) }

pub returns-then-least-eq0 : goal.returns-then-least-eq0
returns-then-least-eq0 c =
    let t = c.args.sums.now in
    let row : c.row-row.result.now ≡ row_of t c.args.place = c.row-row.ensures in
    let all : length (row_of t c.args.place) ≤ c.loop-index.index = omega (arith, ap length row, c.loop-index-test.false, c.loop-index.auto.index-end) in
    none_had t c.args.place c.loop-index.index c.loop-index.first c.loop-index.least c.loop-index.invariant all (omega (arith, c.if-least-eq0.true))

pub returns-else-least-eq0 : goal.returns-else-least-eq0
returns-else-least-eq0 c =
    let t = c.args.sums.now in
    let row : c.row-row.result.now ≡ row_of t c.args.place = c.row-row.ensures in
    let all : length (row_of t c.args.place) ≤ c.loop-index.index = omega (arith, ap length row, c.loop-index-test.false, c.loop-index.auto.index-end) in
    let some : 0 < c.loop-index.least = omega (arith, c.if-least-eq0.false) in
    let in_ : IsShapeIn t.w t.h c.at.result = rw (c.bounds-bounds.ensures.width, c.bounds-bounds.ensures.height) at c.at.ensures.within in
    let here : row_index t.w c.at.result ≡ c.loop-index.first = rw c.bounds-bounds.ensures.width at c.at.ensures.index in (
      first_is t c.args.place c.loop-index.index c.loop-index.first c.loop-index.least c.loop-index.invariant all some c.at.result in_ here,
      first_sum t c.args.place c.loop-index.index c.loop-index.first c.loop-index.least c.loop-index.invariant all some c.at.result in_ here,
    )
