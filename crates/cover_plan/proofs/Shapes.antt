-- Shapes of trees within bounds.
use Rattle.std.proofs.Common.{arith, ℕ, ◌≤◌}
use Rattle.cover_plan.specs.Parts.{Fits, InParallel, InSeries, Operator, TreeShape, joined_shape, leaf_shape}

-- a shape has at least one leaf
abbrev pub IsSome : TreeShape → Type 0
IsSome shape = (1 ≤ shape.height) × (1 ≤ shape.width)

pub joined_some : (op : Operator) (l r : TreeShape) → IsSome l → IsSome r → IsSome (joined_shape op l r)
joined_some InSeries l r a b = (omega (arith, a.0), omega (arith, a.1))
joined_some InParallel l r a b = (omega (arith, a.0), omega (arith, a.1))

-- a tree within the bounds has its parts within the bounds
pub fits_parts : (w h : ℕ) (op : Operator) (l r : TreeShape) → Fits w h (joined_shape op l r) → Fits w h l × Fits w h r
fits_parts w h InSeries l r f = ((omega (arith, f.0), omega (arith, f.1)), (omega (arith, f.0), omega (arith, f.1)))
fits_parts w h InParallel l r f = ((omega (arith, f.0), omega (arith, f.1)), (omega (arith, f.0), omega (arith, f.1)))

pub two_leaves : (w h : ℕ) → 2 ≤ w → 2 ≤ h → (op : Operator) → Fits w h (joined_shape op leaf_shape leaf_shape)
two_leaves w h wide tall InSeries = (omega arith, omega arith)
two_leaves w h wide tall InParallel = (omega arith, omega arith)

-- bounds that a shape fits in are at least 1
pub fits_some : (w h : ℕ) (shape : TreeShape) → IsSome shape → Fits w h shape → (1 ≤ w) × (1 ≤ h)
fits_some w h shape some fits = (omega (arith, some.1, fits.0), omega (arith, some.0, fits.1))
