-- Rows of sums: for each shape within the bounds the least sum that some entries have in this shape.
use Rattle.std.specs.Prelude.{ℕ, ◌+◌, ◌*◌, ◌-◌, ◌^◌, ◌≤◌, ◌≡◌, List, length, Option, None, Some, option_map, slice_get}
use Rattle.gate_decompose.specs.Items.{Among}
use Rattle.tree_map.specs.declared.offers.Offer.{Offer}
use Rattle.cover_plan.specs.Covers.{Costs, joined_sum}
use Rattle.cover_plan.specs.CoverTables.{Entry, best, combined, root_cost, table_within}
use Rattle.cover_plan.specs.Parts.{Operator, TreeShape, joined_shape}

-- the shape and the sum that an offer gives
abbrev pub entry_of : Offer → Entry
entry_of o = record { shape = o.shape; sum = o.sum }

-- what two entries come to under an operator
abbrev pub joined_entry : Costs → Operator → Entry → Entry → Entry
joined_entry c op a b = record { shape = joined_shape op a.shape b.shape; sum = joined_sum c op a.sum b.sum }

-- a shape within the bounds
pub record IsShapeIn (w h : ℕ) (shape : TreeShape) : Type 0 where
  pub tall : 1 ≤ shape.height
  pub high : shape.height ≤ h
  pub wide : 1 ≤ shape.width
  pub broad : shape.width ≤ w

-- where the number of a shape stands in a row: by height and then by width
abbrev pub row_index : ℕ → TreeShape → ℕ
row_index w shape = (shape.height - 1) * w + (shape.width - 1)

abbrev pub sum_or_zero : Option ℕ → ℕ
sum_or_zero None = 0
sum_or_zero (Some n) = n

-- the least sum of each shape within the bounds, 0 where no entry has the shape
pub record IsRow (w h : ℕ) (es : List Entry) (row : List ℕ) : Type 0 where
  pub count : length row ≡ w * h
  pub some : (e : Entry) → Among e es → 1 ≤ e.sum
  pub each : (shape : TreeShape) → IsShapeIn w h shape → slice_get row (row_index w shape) ≡ Some (sum_or_zero (best es shape))

-- what a pair adds to the tree above it where it is cut, from the entries of its arms: a leaf, and its least cost as a root, or 0
-- where it can be none
abbrev pub cut_number : Costs → ℕ → ℕ → Operator → List Entry → List Entry → ℕ
cut_number c w h op ls rs = sum_or_zero (option_map (λ n. 1 + n) (root_cost c op (table_within w h (combined c op ls rs)) ls rs))

-- an entry whose numbers leave room for sums
pub record IsSmall (e : Entry) : Type 0 where
  pub tall : 1 ≤ e.shape.height
  pub high : e.shape.height ≤ 2 ^ 30
  pub wide : 1 ≤ e.shape.width
  pub broad : e.shape.width ≤ 2 ^ 30
  pub some : 1 ≤ e.sum
  pub few : e.sum ≤ 2 ^ 30

-- costs that leave room for sums
pub record AreFewCosts (c : Costs) : Type 0 where
  pub few_simple : c.series + c.simple ≤ 10
  pub few_compound : c.compound ≤ 10

abbrev pub AreSmall : List Entry → Type 0
AreSmall es = (e : Entry) → Among e es → IsSmall e
