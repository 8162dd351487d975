-- The part below a pair, the shapes of trees, and choices in order (Zhao, Sapatnekar 1998).
use Rattle.std.specs.Prelude.{max, ℕ, ◌+◌, ◌<◌, ◌≡◌, ◌≤◌, ◌⊎◌}

-- And is series, and Or is parallel
pub data Operator : Type 0 where
  InSeries : Operator
  InParallel : Operator

-- The part below a pair: the pair, and all that free edges reach from it. An arm that is a literal, or whose edge isn't
-- free, is an end.
pub data CoverPart : Type 0 where
  End : CoverPart
  Join : Operator → CoverPart → CoverPart → CoverPart

-- the height and the width of a tree
pub record TreeShape : Type 0 where
  pub height : ℕ
  pub width : ℕ

abbrev pub leaf_shape : TreeShape
leaf_shape = record { height = 1; width = 1 }

-- the shape of two trees in series or in parallel
abbrev pub joined_shape : Operator → TreeShape → TreeShape → TreeShape
joined_shape InSeries l r = record { height = l.height + r.height; width = max l.width r.width }
joined_shape InParallel l r = record { height = max l.height r.height; width = l.width + r.width }

abbrev pub Fits : ℕ → ℕ → TreeShape → Type 0
Fits w h shape = (shape.width ≤ w) × (shape.height ≤ h)

-- shapes in order: the height counts before the width
abbrev pub Lower : TreeShape → TreeShape → Type 0
Lower a b = (a.height < b.height) ⊎ ((a.height ≡ b.height) × (a.width ≤ b.width))

-- a choice for an arm: to keep its pair in a shape, to cut it, or nothing, where the arm is an end
pub data Choice : Type 0 where
  Keep : TreeShape → Choice
  CutOff : Choice
  Nothing : Choice

-- choices in order: kept shapes by rising height, those of one height by rising width, and cut last
abbrev pub Earlier : Choice → Choice → Type 0
Earlier (Keep a) (Keep b) = (a.height < b.height) ⊎ ((a.height ≡ b.height) × (a.width < b.width))
Earlier (Keep a) CutOff = Unit {0}
Earlier _ _ = ⊥

-- the left arm's choice counts before the right arm's
abbrev pub Comes : Choice → Choice → Choice → Choice → Type 0
Comes left right other more = Earlier left other ⊎ ((left ≡ other) × (Earlier right more ⊎ (right ≡ more)))
