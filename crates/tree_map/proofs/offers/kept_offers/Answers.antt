-- An offer more, or a place without one.
use Rattle.std.proofs.Common.{◌≡◌, sym, ap, subst, ◌∙◌, ◌+◌, ◌<◌, length, get_or, slice_get, Some, refl, arith}
use Rattle.std.proofs.lemmas.Option.{slice_get-get_or}
use Rattle.tree_map.specs.CoverRows.{IsShapeIn, row_index}
use Rattle.tree_map.proofs.KeptOffers.{AreKeptBelow, kept_all, kept_past, kept_push}
use Rattle.tree_map.proofs.ReadRows.{row_of}
use Rattle.tree_map.proofs.offers.kept_offers.Goals.{then-sum-ne0+in_ok-push, else-sum-ne0}
use Rattle.tree_map.proofs.offers.kept_offers.Goals as goal

pub loop-index-preserved : goal.loop-index-preserved
loop-index-preserved c =
    let t = c.args.sums.now in
    let row : c.row-row.result.now ≡ row_of t c.args.place = c.row-row.ensures in
    let k = c.loop-index.index in
    let sum = get_or c.row-row.result.now k 0 in
    let at : slice_get (row_of t c.args.place) k ≡ Some sum = subst (λ xs. slice_get xs k ≡ Some sum) row (slice_get-get_or c.row-row.result.now k 0 (omega (arith, c.loop-index-test.true, c.loop-index.auto.index-end))) in
    elim c.if-sum-ne0.branch [
      | then-sum-ne0+in_ok-push w ↦
          (let in_ : IsShapeIn t.w t.h w.at-shape.result = rw (c.bounds-bounds.ensures.width, c.bounds-bounds.ensures.height) at w.at-shape.ensures.within in
          let here : row_index t.w w.at-shape.result ≡ k = rw c.bounds-bounds.ensures.width at w.at-shape.ensures.index in
          let some : 0 < sum = omega (arith, w.if-sum-ne0.true) in
          subst (AreKeptBelow t c.args.place (k + 1)) (sym (ap (λ (v : _). v.items) w.offers-is ∙ w.in_ok-push.ensures.items))
          (kept_push t c.args.place k c.loop-index.offers.items c.loop-index.invariant _ refl in_ here at some))
      | else-sum-ne0 w ↦
          (let none : sum ≡ 0 = omega (arith, w.if-sum-ne0.false) in
          subst (AreKeptBelow t c.args.place (k + 1)) (sym (ap (λ (v : _). v.items) w.offers-is))
          (kept_past t c.args.place k c.loop-index.offers.items c.loop-index.invariant (at ∙ ap Some none)))
    ]

pub returns : goal.returns
returns c =
    let t = c.args.sums.now in
    let row : c.row-row.result.now ≡ row_of t c.args.place = c.row-row.ensures in
    kept_all t c.args.place c.loop-index.index c.loop-index.offers.items c.loop-index.invariant (omega (arith, ap length row, c.loop-index-test.false, c.loop-index.auto.index-end))
