-- The table of a part: the least sum of each shape, joined up from the tables of its arms, and the least cost of its root.
use Rattle.std.specs.Prelude.{Bool, List, None, Option, Some, [], cond, filter_map, flat_map, map, min, option_map, ℕ, ◌&&◌, ◌+◌, ◌++◌, ◌==◌, ◌∷◌, ◌≡◌, ◌≤◌, ◌↔◌}
use Rattle.std.specs.List.{range_with_len}
use Rattle.gate_decompose.specs.Items.{Among}
use Rattle.cover_plan.specs.Covers.{Costs, IsLeast, IsLeastRoot, is_parallel, joined_sum}
use Rattle.cover_plan.specs.Parts.{CoverPart, End, Join, Operator, TreeShape, joined_shape, leaf_shape}

-- a shape with a sum
pub record Entry : Type 0 where
  pub shape : TreeShape
  pub sum : ℕ

abbrev pub same_shape : TreeShape → TreeShape → Bool
same_shape a b = (a.height == b.height) && (a.width == b.width)

abbrev pub lower_of : ℕ → Option ℕ → Option ℕ
lower_of n None = Some n
lower_of n (Some m) = Some (min n m)

-- the least sum of a shape among some entries
abbrev pub best : List Entry → TreeShape → Option ℕ
best [] shape = None
best (e ∷ es) shape = cond (same_shape e.shape shape) (lower_of e.sum (best es shape)) (best es shape)

-- the least sum of all
abbrev pub lowest : List Entry → Option ℕ
lowest [] = None
lowest (e ∷ es) = lower_of e.sum (lowest es)

-- all shapes within the bounds, by rising height, and those of one height by rising width
abbrev pub shapes : ℕ → ℕ → List TreeShape
shapes w h = flat_map (λ height. map (λ width. record { height = height; width = width }) (range_with_len 1 w)) (range_with_len 1 h)

-- for each shape within the bounds the least sum, where there is one
abbrev pub table_within : ℕ → ℕ → List Entry → List Entry
table_within w h es = filter_map (λ shape. option_map (λ sum. record { shape = shape; sum = sum }) (best es shape)) (shapes w h)

-- an entry of the left arm with each of the right arm
abbrev pub combined : Costs → Operator → List Entry → List Entry → List Entry
combined c op ls rs =
    flat_map (λ a. map (λ b. record { shape = joined_shape op a.shape b.shape; sum = joined_sum c op a.sum b.sum }) rs) ls

-- the cost of a compound root whose arms have these lowest sums
abbrev pub joined_cost : ℕ → Option ℕ → Option ℕ → Option ℕ
joined_cost n None right = None
joined_cost n (Some a) None = None
joined_cost n (Some a) (Some b) = Some (a + b + n)

abbrev pub split_cost : Costs → Operator → List Entry → List Entry → Option ℕ
split_cost c op ls rs = cond (c.splits && is_parallel op) (joined_cost c.compound (lowest ls) (lowest rs)) None

-- the lower of two costs, where they are
abbrev pub lower_both : Option ℕ → Option ℕ → Option ℕ
lower_both one None = one
lower_both None (Some m) = Some m
lower_both (Some n) (Some m) = Some (min n m)

-- the least cost of a root, by the lowest sum of its table and those of its arms
abbrev pub root_cost : Costs → Operator → List Entry → List Entry → List Entry → Option ℕ
root_cost c op own ls rs = lower_both (option_map (λ n. n + c.simple) (lowest own)) (split_cost c op ls rs)

-- the entry of a pair that is cut, whose own least cost is this
abbrev pub cut_entry : Option ℕ → List Entry
cut_entry None = []
cut_entry (Some below) = record { shape = leaf_shape; sum = 1 + below } ∷ []

-- the entries of an arm: an end is a leaf, and a pair is kept with an entry of its table or cut
abbrev pub arm_entries : Costs → ℕ → ℕ → CoverPart → List Entry
arm_entries c w h End = record { shape = leaf_shape; sum = 1 } ∷ []
arm_entries c w h (Join op l r) =
    table_within w h (combined c op (arm_entries c w h l) (arm_entries c w h r))
    ++ cut_entry (root_cost c op (table_within w h (combined c op (arm_entries c w h l) (arm_entries c w h r))) (arm_entries c w h l) (arm_entries c w h r))

-- the table of a pair, and the cost of its root
abbrev pub table : Costs → ℕ → ℕ → Operator → CoverPart → CoverPart → List Entry
table c w h op l r = table_within w h (combined c op (arm_entries c w h l) (arm_entries c w h r))

abbrev pub root_of : Costs → ℕ → ℕ → Operator → CoverPart → CoverPart → Option ℕ
root_of c w h op l r = root_cost c op (table c w h op l r) (arm_entries c w h l) (arm_entries c w h r)

-- the table of a part, joined up from the tables of its arms, has exactly the least sums over all covers
abbrev pub TablesAreLeast : Type 0
TablesAreLeast =
    (c : Costs) (w h : ℕ) (op : Operator) (l r : CoverPart) (e : Entry) → 1 ≤ w → 1 ≤ h
    → Among e (table c w h op l r) ↔ IsLeast c w h (Join op l r) e.shape e.sum

-- and the cost of its root is the least of all roots
abbrev pub RootCostsAreLeast : Type 0
RootCostsAreLeast =
    (c : Costs) (w h : ℕ) (op : Operator) (l r : CoverPart) (cost : ℕ) → 1 ≤ w → 1 ≤ h
    → (root_of c w h op l r ≡ Some cost) ↔ IsLeastRoot c w h (Join op l r) cost
