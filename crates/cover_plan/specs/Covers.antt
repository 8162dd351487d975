-- Covers of the part below a pair, by what trees cost. An Or may be the root of a compound cell, whose two arms are trees of their
-- own under one static gate (Zhao, Sapatnekar 1998; Rabaey, Digital Integrated Circuits: compound domino).
use Rattle.std.specs.Prelude.{Bool, false, true, zero, ℕ, ◌&&◌, ◌+◌, ◌<◌, ◌≡◌, ◌≤◌, ◌⊎◌}
use Rattle.cover_plan.specs.Parts.{Choice, Comes, CoverPart, CutOff, Earlier, End, Fits, InParallel, InSeries, Join, Keep, Lower, Nothing, Operator, TreeShape, joined_shape, leaf_shape}

-- what a tree costs beside its leaves: a number for each series node, one for a simple cell, and one for a compound cell, where
-- there are such cells
pub record Costs : Type 0 where
  pub series : ℕ
  pub simple : ℕ
  pub splits : Bool
  pub compound : ℕ

-- the ordinary costs: 5 for each cell beside its leaves
abbrev pub ordinary_costs : Costs
ordinary_costs = record { series = 0; simple = 5; splits = false; compound = 0 }

-- a sum with the cost of a node, where the node is series and costs something
abbrev pub with_node : ℕ → Operator → ℕ → ℕ
with_node zero op sum = sum
with_node series InSeries sum = sum + series
with_node series InParallel sum = sum

-- what two arms that are joined add to their tree
abbrev pub joined_sum : Costs → Operator → ℕ → ℕ → ℕ
joined_sum c op left right = with_node c.series op (left + right)

abbrev pub is_parallel : Operator → Bool
is_parallel InSeries = false
is_parallel InParallel = true

-- an Or may be a compound root, where there are such
abbrev pub MaySplit : Costs → Operator → Type 0
MaySplit c op = (c.splits && is_parallel op) ≡ true

-- what is done with each free edge of a part: the pair that it leads to is kept in the tree above it, or cut from it, as a simple
-- root or as a compound one
pub data Cover : Type 0 where
  Single : Cover
  Kept : Cover → Cover → Cover
  Cut : Cover → Cover → Cover
  Split : Cover → Cover → Cover

-- the shape of what a covered part is in the tree above it: a part that is cut or an end is a leaf there
abbrev pub shape_of : CoverPart → Cover → TreeShape
shape_of (Join op l r) (Kept a b) = joined_shape op (shape_of l a) (shape_of r b)
shape_of _ _ = leaf_shape

-- what a covered part adds to the tree above it, its leaves and series nodes there, and the whole costs of the trees that are cut
-- off, each a leaf above
abbrev pub sum_of : Costs → CoverPart → Cover → ℕ
sum_of c (Join op l r) (Kept a b) = joined_sum c op (sum_of c l a) (sum_of c r b)
sum_of c (Join op l r) (Cut a b) = 1 + (joined_sum c op (sum_of c l a) (sum_of c r b) + c.simple)
sum_of c (Join op l r) (Split a b) = 1 + (sum_of c l a + sum_of c r b + c.compound)
sum_of c _ _ = 1

-- a cover of a part, in which each simple tree that is cut off is within the bounds, and each arm of a compound one by itself
abbrev pub IsCover : Costs → ℕ → ℕ → CoverPart → Cover → Type 0
IsCover c w h End Single = Unit {0}
IsCover c w h (Join op l r) (Kept a b) = IsCover c w h l a × IsCover c w h r b
IsCover c w h (Join op l r) (Cut a b) = IsCover c w h l a × IsCover c w h r b × Fits w h (joined_shape op (shape_of l a) (shape_of r b))
IsCover c w h (Join op l r) (Split a b) =
    IsCover c w h l a × IsCover c w h r b × MaySplit c op × Fits w h (shape_of l a) × Fits w h (shape_of r b)
IsCover c w h _ _ = ⊥

-- some plan of the part gives the tree of its pair this shape, within the bounds, and this sum
pub record IsSum (c : Costs) (w h : ℕ) (part : CoverPart) (shape : TreeShape) (sum : ℕ) : Type 0 where
  pub left : Cover
  pub right : Cover
  pub cover : IsCover c w h part (Kept left right)
  pub shape_is : shape_of part (Kept left right) ≡ shape
  pub fits : Fits w h shape
  pub sum_is : sum_of c part (Kept left right) ≡ sum

-- the least of these sums, and the least over all shapes
pub record IsLeast (c : Costs) (w h : ℕ) (part : CoverPart) (shape : TreeShape) (sum : ℕ) : Type 0 where
  pub reached : IsSum c w h part shape sum
  pub least : (other : ℕ) → IsSum c w h part shape other → sum ≤ other

pub record IsLeastOfAll (c : Costs) (w h : ℕ) (part : CoverPart) (sum : ℕ) : Type 0 where
  pub shape : TreeShape
  pub reached : IsSum c w h part shape sum
  pub least : (any : TreeShape) (other : ℕ) → IsSum c w h part any other → sum ≤ other

-- some plan makes the pair a compound root whose arms have these sums together
pub record IsSplitSum (c : Costs) (w h : ℕ) (part : CoverPart) (sum : ℕ) : Type 0 where
  pub left : Cover
  pub right : Cover
  pub cover : IsCover c w h part (Split left right)
  pub sum_is : sum_of c part (Split left right) ≡ 1 + (sum + c.compound)

-- some plan of the part makes its pair a root, simple or compound, at this cost
abbrev pub IsRoot : Cover → Type 0
IsRoot (Cut a b) = Unit {0}
IsRoot (Split a b) = Unit {0}
IsRoot _ = ⊥

pub record IsRootCost (c : Costs) (w h : ℕ) (part : CoverPart) (cost : ℕ) : Type 0 where
  pub cover : Cover
  pub root : IsRoot cover
  pub covers : IsCover c w h part cover
  pub cost_is : sum_of c part cover ≡ 1 + cost

-- the least of these costs
pub record IsLeastRoot (c : Costs) (w h : ℕ) (part : CoverPart) (cost : ℕ) : Type 0 where
  pub reached : IsRootCost c w h part cost
  pub least : (other : ℕ) → IsRootCost c w h part other → cost ≤ other

-- the shape of a simple root: of the shapes of least cost the one of least height, and of these the one of least width
pub record IsRootShape (c : Costs) (w h : ℕ) (part : CoverPart) (shape : TreeShape) : Type 0 where
  pub sum : ℕ
  pub least : IsLeast c w h part shape sum
  pub least_of_all : IsLeastOfAll c w h part sum
  pub first : (other : TreeShape) → IsLeast c w h part other sum → Lower shape other

-- a choice that an arm has, with the shape and the sum that it gives; a pair that is cut brings its own whole cost
abbrev pub IsChoice : Costs → ℕ → ℕ → CoverPart → Choice → TreeShape → ℕ → Type 0
IsChoice c w h End Nothing shape sum = (shape ≡ leaf_shape) × (sum ≡ 1)
IsChoice c w h (Join op l r) (Keep kept) shape sum = (shape ≡ kept) × IsLeast c w h (Join op l r) kept sum
IsChoice c w h (Join op l r) CutOff shape sum =
    (shape ≡ leaf_shape) × ((below : ℕ) × IsLeastRoot c w h (Join op l r) below × (sum ≡ 1 + below))
IsChoice c w h _ _ shape sum = ⊥

-- two choices for the arms of a pair that together give the decided shape at least cost
pub record GivesLeast (c : Costs) (w h : ℕ) (op : Operator) (l r : CoverPart) (decided : TreeShape) (left right : Choice) : Type 0 where
  pub left_shape : TreeShape
  pub right_shape : TreeShape
  pub left_sum : ℕ
  pub right_sum : ℕ
  pub is_left : IsChoice c w h l left left_shape left_sum
  pub is_right : IsChoice c w h r right right_shape right_sum
  pub shape_is : joined_shape op left_shape right_shape ≡ decided
  pub least : IsLeast c w h (Join op l r) decided (joined_sum c op left_sum right_sum)

-- the two choices that come first
pub record AreFirst (c : Costs) (w h : ℕ) (op : Operator) (l r : CoverPart) (decided : TreeShape) (left right : Choice) : Type 0 where
  pub give : GivesLeast c w h op l r decided left right
  pub first : (other more : Choice) → GivesLeast c w h op l r decided other more → Comes left right other more

-- the first choice of least cost that an arm has by itself
pub record IsFirstAlone (c : Costs) (w h : ℕ) (part : CoverPart) (choice : Choice) : Type 0 where
  pub shape : TreeShape
  pub sum : ℕ
  pub is : IsChoice c w h part choice shape sum
  pub least : (other : Choice) (any : TreeShape) (more : ℕ) → IsChoice c w h part other any more → sum ≤ more
  pub first : (other : Choice) (any : TreeShape) → IsChoice c w h part other any sum → Earlier choice other ⊎ (choice ≡ other)

-- a root is simple where no compound one costs less
abbrev pub IsSimpleRoot : Costs → ℕ → ℕ → CoverPart → ℕ → Type 0
IsSimpleRoot c w h part sum = (other : ℕ) → IsSplitSum c w h part other → sum + c.simple ≤ other + c.compound

-- and compound where that costs less than each simple one; each arm then has its first choice alone
pub record IsCompoundRoot (c : Costs) (w h : ℕ) (op : Operator) (l r : CoverPart) (left right : Choice) : Type 0 where
  pub may : MaySplit c op
  pub left_first : IsFirstAlone c w h l left
  pub right_first : IsFirstAlone c w h r right
  pub less : (shape : TreeShape) (sum : ℕ) → IsSum c w h (Join op l r) shape sum
      → left_first.sum + right_first.sum + c.compound < sum + c.simple

-- the cover of an arm that follows from the choice for it: a kept pair has the shape of the choice, a pair that is cut is simple
-- with the shape of a root, or compound; each pair takes the first choices for its arms
abbrev pub IsChosenCover : Costs → ℕ → ℕ → CoverPart → Choice → Cover → Type 0
IsChosenCover c w h End Nothing Single = Unit {0}
IsChosenCover c w h (Join op l r) (Keep shape) (Kept a b) =
    (left : Choice) × (right : Choice) × AreFirst c w h op l r shape left right × IsChosenCover c w h l left a × IsChosenCover c w h r right b
IsChosenCover c w h (Join op l r) CutOff (Cut a b) =
    (shape : TreeShape) × (is : IsRootShape c w h (Join op l r) shape) × IsSimpleRoot c w h (Join op l r) is.sum
    × ((left : Choice) × (right : Choice) × AreFirst c w h op l r shape left right × IsChosenCover c w h l left a × IsChosenCover c w h r right b)
IsChosenCover c w h (Join op l r) CutOff (Split a b) =
    (left : Choice) × (right : Choice) × IsCompoundRoot c w h op l r left right × IsChosenCover c w h l left a × IsChosenCover c w h r right b
IsChosenCover c w h _ _ _ = ⊥

-- the ties choose one cover
abbrev pub ChosenCoverIsOne : Type 0
ChosenCoverIsOne =
    (c : Costs) (w h : ℕ) (part : CoverPart) (choice : Choice) (a b : Cover)
    → IsChosenCover c w h part choice a → IsChosenCover c w h part choice b → a ≡ b

-- always one
abbrev pub ChosenCoverIsThere : Type 0
ChosenCoverIsThere =
    (c : Costs) (w h : ℕ) (part : CoverPart) (choice : Choice) (shape : TreeShape) (sum : ℕ) → 1 ≤ w → 1 ≤ h
    → IsChoice c w h part choice shape sum → (cover : Cover) × IsChosenCover c w h part choice cover

-- and it is a cover with the shape and the sum of the choice: where a pair is cut, with the least cost of all roots
abbrev pub ChosenCoverIsLeast : Type 0
ChosenCoverIsLeast =
    (c : Costs) (w h : ℕ) (part : CoverPart) (choice : Choice) (cover : Cover) (shape : TreeShape) (sum : ℕ)
    → IsChoice c w h part choice shape sum → IsChosenCover c w h part choice cover
    → IsCover c w h part cover × (shape_of part cover ≡ shape) × (sum_of c part cover ≡ sum)
