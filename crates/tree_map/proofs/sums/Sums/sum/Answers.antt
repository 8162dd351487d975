use Rattle.std.proofs.Common.{◌≡◌, refl, subst, length, arith, Some, slice_get}
use Rattle.std.proofs.lemmas.Option.{slice_get_read}
use Rattle.tree_map.specs.CoverSums.{SumsData, sum_at}
use Rattle.tree_map.proofs.SumReads.{IsRead, sum_at-some}
use Rattle.tree_map.proofs.sums.Sums.sum.Goals as goal

pub returns-else-sum-eq0 : goal.returns-else-sum-eq0
returns-else-sum-eq0 c =
    let t : SumsData = record { w = c.self.inside.width; h = c.self.inside.height; costs = c.self.inside.costs; sums = c.self.inside.sums.items; cuts = c.self.inside.cuts.items } in
    let read : IsRead t c.args.place c.args.height c.args.width c.saturating_add-index.result = record {
      tall = omega arith;
      high = omega arith;
      wide = omega arith;
      broad = omega arith;
      short = rw (← c.deref.ensures.value) (omega arith);
      index_is = omega arith;
    } in
    let found = rw c.deref.ensures.value at c.in_ok-sum.ensures.lookup in
    let at : slice_get t.sums c.saturating_add-index.result ≡ Some c.in_ok-sum.field-0.now =
    slice_get_read c.self.inside.sums.items (length c.self.inside.sums.items) c.saturating_add-index.result c.in_ok-sum.field-0.now refl found.3.0 found.1 in
    subst (λ s. Some c.in_ok-sum.field-0.now ≡ sum_at s c.args.place (record { height = c.args.height; width = c.args.width })) c.self.view_is
    (sum_at-some t c.args.place c.args.height c.args.width c.saturating_add-index.result c.in_ok-sum.field-0.now read at (omega arith))
