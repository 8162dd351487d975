-- What a node adds to the sum of its arms.
use Rattle.std.proofs.Common.{arith, false, refl, suc, true, zero, Bool, ℕ, ◌&&◌, ◌+◌, ◌≡◌, ◌≤◌}
use Rattle.cover_plan.specs.Covers.{Costs, MaySplit, is_parallel, joined_sum, with_node}
use Rattle.cover_plan.specs.Parts.{InParallel, InSeries, Operator}

-- what an operator adds to the sum of its arms
abbrev pub series_of : Costs → Operator → ℕ
series_of c InSeries = c.series
series_of c InParallel = 0

with_node-is : (n : ℕ) (sum : ℕ) → (with_node n InSeries sum ≡ sum + n) × (with_node n InParallel sum ≡ sum)
with_node-is zero sum = (omega arith, refl)
with_node-is (suc n) sum = (refl, refl)

pub joined-is : (c : Costs) (op : Operator) (a b : ℕ) → joined_sum c op a b ≡ a + b + series_of c op
joined-is c InSeries a b = (with_node-is c.series (a + b)).0
joined-is c InParallel a b = let is = (with_node-is c.series (a + b)).1 in omega (arith, is)

-- a lower sum of the arms is a lower sum
pub joined-below : (c : Costs) (op : Operator) (a b x y : ℕ) → a ≤ x → b ≤ y → joined_sum c op a b ≤ joined_sum c op x y
joined-below c op a b x y p q = omega (arith, joined-is c op a b, joined-is c op x y, p, q)

-- where a pair may be a compound root it is parallel, and adds nothing
pub split_parallel : (c : Costs) (op : Operator) → MaySplit c op → (c.splits ≡ true) × (is_parallel op ≡ true)
split_parallel c op may = by c.splits may
  where
    by : (b : Bool) → (b && is_parallel op) ≡ true → (b ≡ true) × (is_parallel op ≡ true)
    by true e = (refl, e)
    by false e = absurd (cc)

pub split_adds : (c : Costs) (op : Operator) (a b : ℕ) → MaySplit c op → joined_sum c op a b ≡ a + b
split_adds c InSeries a b may = absurd (let e = (split_parallel c InSeries may).1 in cc)
split_adds c InParallel a b may = (with_node-is c.series (a + b)).1

-- there are no compound roots where costs have none
pub none_split : (c : Costs) (op : Operator) → c.splits ≡ false → MaySplit c op → ⊥
none_split c op none may = let yes = (split_parallel c op may).0 in cc

pub split_series : (c : Costs) (op : Operator) → MaySplit c op → series_of c op ≡ 0
split_series c InSeries may = absurd (let e = (split_parallel c InSeries may).1 in cc)
split_series c InParallel may = refl
