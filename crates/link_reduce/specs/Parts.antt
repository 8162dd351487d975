-- The links of a network and the parts that they are joined to (Valdes, Tarjan, Lawler, The recognition of series parallel digraphs,
-- 1982).
use Rattle.std.specs.Prelude.{Contains, List, Some, [], slice_get, slice_index_or, slice_set, ℕ, ◌++◌, ◌+◌, ◌∷◌, ◌≡◌, ◌⊎◌}
use Rattle.sp_network.specs.Tree.{Leaf, Parallel, Series, Tree}
use Rattle.sp_reduction.specs.Networks.{Between, Has, Link, whole_height, whole_width}
use Rattle.link_reduce.specs.declared.part.Ends.{Ends}
use Rattle.link_reduce.specs.declared.part.Part.{Part}

-- the links that join these ends, each of width and height 1 and with its place as its number
abbrev pub links_from : ℕ → List Ends → List Link
links_from i [] = []
links_from i (e ∷ es) = record { number = i; from = e.from; to = e.to; width = 1; height = 1 } ∷ links_from (i + 1) es

abbrev pub links_of : List Ends → List Link
links_of ends = links_from 0 ends

-- the numbers of a tree's links, in its order
abbrev pub numbers_of : Tree Link → List ℕ
numbers_of (Leaf e) = e.number ∷ []
numbers_of (Series l r) = numbers_of l ++ numbers_of r
numbers_of (Parallel l r) = numbers_of l ++ numbers_of r

-- no number stands twice in a list
abbrev pub IsOnce : List ℕ → Type 0
IsOnce numbers = (j k p : ℕ) → slice_get numbers j ≡ Some p → slice_get numbers k ≡ Some p → j ≡ k

-- a tree of the links between two nets spells their numbers in this order, and is so wide and so high
pub record IsSpelled (links : List Link) (a b w h : ℕ) (order : List ℕ) : Type 0 where
  pub tree : Tree Link
  pub between : Between tree a b
  pub from : (e : Link) → Has tree e → Contains links e
  pub to : (e : Link) → Contains links e → Has tree e
  pub width_is : whole_width tree ≡ w
  pub height_is : whole_height tree ≡ h
  pub order_is : numbers_of tree ≡ order

abbrev pub PartEndsAt : Part → ℕ → Type 0
PartEndsAt p x = (p.from ≡ x) ⊎ (p.to ≡ x)

abbrev pub PartJoins : Part → ℕ → ℕ → Type 0
PartJoins p a b = ((p.from ≡ a) × (p.to ≡ b)) ⊎ ((p.to ≡ a) × (p.from ≡ b))

-- a part as a link with its number
abbrev pub part_link : ℕ → Part → Link
part_link i p = record { number = i; from = p.from; to = p.to; width = p.width; height = p.height }

-- the list at a place; past the end it is empty
abbrev pub listed : List (List ℕ) → ℕ → List ℕ
listed lists place = slice_index_or lists place []

-- the lists with a number more at the end of one of them
abbrev pub with_number : List (List ℕ) → ℕ → ℕ → List (List ℕ)
with_number lists place number = slice_set lists place (listed lists place ++ number ∷ [])
