-- Covers of the part below a pair with the ordinary costs, and the least of their sums by the shape of the pair's tree (Zhao,
-- Sapatnekar 1998).
use Rattle.std.specs.Prelude.{ℕ, ◌≡◌, ◌≤◌}
pub use Rattle.cover_plan.specs.Parts.{Choice, Comes, CoverPart, CutOff, Earlier, End, Fits, InParallel, InSeries, Join, Keep, Lower, Nothing, Operator, TreeShape, joined_shape, leaf_shape}
pub use Rattle.cover_plan.specs.Covers.{Cover, Cut, Kept, Single, Split, ordinary_costs, shape_of}
use Rattle.cover_plan.specs.Covers as general

-- the leaves that a covered part has in the tree above it, and the whole costs of the trees that are cut off, each of
-- them its leaves and 5
abbrev pub sum_of : CoverPart → Cover → ℕ
sum_of = general.sum_of ordinary_costs

-- a cover of a part, in which each tree that is cut off is within the bounds
abbrev pub IsCover : ℕ → ℕ → CoverPart → Cover → Type 0
IsCover = general.IsCover ordinary_costs

-- some plan of the part gives the tree of its pair this shape, within the bounds, and this sum: the leaves of that tree
-- and the whole costs of the other trees; the least of these sums, and the least over all shapes
abbrev pub IsSum : ℕ → ℕ → CoverPart → TreeShape → ℕ → Type 0
IsSum = general.IsSum ordinary_costs

abbrev pub IsLeast : ℕ → ℕ → CoverPart → TreeShape → ℕ → Type 0
IsLeast = general.IsLeast ordinary_costs

abbrev pub IsLeastOfAll : ℕ → ℕ → CoverPart → ℕ → Type 0
IsLeastOfAll = general.IsLeastOfAll ordinary_costs

-- the shape of a root: of the shapes of least cost the one of least height, and of these the one of least width
abbrev pub IsRootShape : ℕ → ℕ → CoverPart → TreeShape → Type 0
IsRootShape = general.IsRootShape ordinary_costs

-- a choice that an arm has, with the shape and the sum that it gives; a pair that is cut brings its own whole cost
abbrev pub IsChoice : ℕ → ℕ → CoverPart → Choice → TreeShape → ℕ → Type 0
IsChoice = general.IsChoice ordinary_costs

-- two choices for the arms of a pair that together give the decided shape at least cost, and the two that come first
abbrev pub GivesLeast : ℕ → ℕ → Operator → CoverPart → CoverPart → TreeShape → Choice → Choice → Type 0
GivesLeast = general.GivesLeast ordinary_costs

abbrev pub AreFirst : ℕ → ℕ → Operator → CoverPart → CoverPart → TreeShape → Choice → Choice → Type 0
AreFirst = general.AreFirst ordinary_costs

-- the cover of an arm that follows from the choice for it
abbrev pub IsChosenCover : ℕ → ℕ → CoverPart → Choice → Cover → Type 0
IsChosenCover = general.IsChosenCover ordinary_costs

-- the ties choose one cover
abbrev pub ChosenCoverIsOne : Type 0
ChosenCoverIsOne =
    (w h : ℕ) (part : CoverPart) (choice : Choice) (a b : Cover) → IsChosenCover w h part choice a → IsChosenCover w h part choice b → a ≡ b

-- and always one
abbrev pub ChosenCoverIsThere : Type 0
ChosenCoverIsThere =
    (w h : ℕ) (part : CoverPart) (choice : Choice) (shape : TreeShape) (sum : ℕ) → 1 ≤ w → 1 ≤ h → IsChoice w h part choice shape sum
    → (cover : Cover) × IsChosenCover w h part choice cover
