-- What covers cost at most: twelve for each pair.
use Rattle.std.proofs.Common.{ℕ, ◌+◌, ◌*◌, ◌≤◌, arith}
use Rattle.cover_plan.specs.Covers.{Costs, Cover, Cut, IsCover, Kept, Single, Split, sum_of}
use Rattle.cover_plan.specs.Parts.{CoverPart, End, InParallel, InSeries, Join, Operator}
use Rattle.cover_plan.proofs.Sums.{joined-is, series_of}
use Rattle.tree_map.specs.CoverRows.{AreFewCosts}

-- the pairs of a part
unfoldable pub pairs_in : CoverPart → ℕ
pairs_in End = 0
pairs_in (Join op l r) = 1 + (pairs_in l + pairs_in r)

pub series_most : (c : Costs) (op : Operator) → series_of c op ≤ c.series
series_most c InSeries = omega arith
series_most c InParallel = omega arith

-- what a cover adds to the tree above it, where costs are few
pub cover_most : (c : Costs) → AreFewCosts c → (w h : ℕ) (t : CoverPart) (a : Cover) → IsCover c w h t a → sum_of c t a ≤ 12 * pairs_in t + 1
unfolding pairs_in
cover_most c few w h End Single is = omega arith
cover_most c few w h End (Kept a b) is = absurd is
cover_most c few w h End (Cut a b) is = absurd is
cover_most c few w h End (Split a b) is = absurd is
cover_most c few w h (Join op l r) Single is = absurd is
cover_most c few w h (Join op l r) (Kept a b) is =
    let x = cover_most c few w h l a is.0 in
    let y = cover_most c few w h r b is.1 in
    omega (arith, x, y, joined-is c op (sum_of c l a) (sum_of c r b), series_most c op, few.few_simple)
cover_most c few w h (Join op l r) (Cut a b) is =
    let x = cover_most c few w h l a is.0 in
    let y = cover_most c few w h r b is.1 in
    omega (arith, x, y, joined-is c op (sum_of c l a) (sum_of c r b), series_most c op, few.few_simple)
cover_most c few w h (Join op l r) (Split a b) is =
    let x = cover_most c few w h l a is.0 in
    let y = cover_most c few w h r b is.1 in
    omega (arith, x, y, few.few_compound)
