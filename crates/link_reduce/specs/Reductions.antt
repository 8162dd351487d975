-- A reduction: which parts are left, and what each step keeps (Valdes, Tarjan, Lawler, The recognition of series parallel digraphs,
-- 1982).
use Rattle.std.specs.Prelude.{Bool, Contains, List, Some, [], false, length, map, max, replicate, slice_get, slice_set, true, ℕ, ◌*◌, ◌++◌, ◌+◌, ◌^◌, ◌<◌, ◌∷◌, ◌≡◌, ◌≢◌, ◌≤◌, ◌⊎◌}
use Rattle.sp_network.specs.Tree.{Leaf, Parallel, Series, Tree}
use Rattle.sp_reduction.specs.Networks.{Apart, Between, EndsAt, Has, Joins, Link, Touches, whole_height, whole_width}
use Rattle.sp_reduction.specs.Reduction.{IsNetwork}
use Rattle.link_reduce.specs.declared.part.Ends.{Ends}
use Rattle.link_reduce.specs.declared.part.Made.TheVariants.{Given, Parallel as InParallel, Series as InSeries}
use Rattle.link_reduce.specs.declared.part.Part.{Part}
use Rattle.link_reduce.specs.Parts.{PartEndsAt, PartJoins, links_of, listed, part_link, with_number}

-- all parts that were made, which of them are left, the numbers of parts by net, and the nets to look at
pub record ReductionData : Type 0 where
  pub parts : List Part
  pub live : List Bool
  pub at : List (List ℕ)
  pub work : List ℕ

-- the part with this number is left
abbrev pub IsLive : ReductionData → ℕ → Part → Type 0
IsLive r i p = (slice_get r.parts i ≡ Some p) × (slice_get r.live i ≡ Some true)

-- one part alone is left
pub record IsOnlyLive (live : List Bool) (i : ℕ) : Type 0 where
  pub there : slice_get live i ≡ Some true
  pub only : (j : ℕ) → slice_get live j ≡ Some true → j ≡ i

-- the link is a part that is left
abbrev pub LiveLink : ReductionData → Link → Type 0
LiveLink r g = (i : ℕ) × (p : Part) × IsLive r i p × (g ≡ part_link i p)

abbrev pub live_from : ℕ → List Part → List Bool → List Link
live_from i (p ∷ ps) (true ∷ ls) = part_link i p ∷ live_from (i + 1) ps ls
live_from i (p ∷ ps) (false ∷ ls) = live_from (i + 1) ps ls
live_from i _ _ = []

abbrev pub live_links : ReductionData → List Link
live_links r = live_from 0 r.parts r.live

-- a measure of all parts that are left
abbrev pub total : (Part → ℕ) → List Part → List Bool → ℕ
total f (p ∷ ps) (true ∷ ls) = f p + total f ps ls
total f (p ∷ ps) (false ∷ ls) = total f ps ls
total f _ _ = 0

-- a part more, and one less
abbrev pub with_part : ReductionData → Part → ReductionData
with_part r p = record {
  parts = r.parts ++ p ∷ [];
  live = r.live ++ true ∷ [];
  at = with_number (with_number r.at p.from (length r.parts)) p.to (length r.parts);
  work = (r.work ++ p.from ∷ []) ++ p.to ∷ [];
}

abbrev pub without : ReductionData → ℕ → ReductionData
without r i = record { parts = r.parts; live = slice_set r.live i false; at = r.at; work = r.work }

abbrev pub with_work : ReductionData → ℕ → ReductionData
with_work r n = record { parts = r.parts; live = r.live; at = r.at; work = r.work ++ n ∷ [] }

abbrev pub with_at : ReductionData → List (List ℕ) → ReductionData
with_at r at = record { parts = r.parts; live = r.live; at = at; work = r.work }

abbrev pub with_listed : ReductionData → ℕ → ℕ → ReductionData
with_listed r n i = record { parts = r.parts; live = r.live; at = with_number r.at n i; work = r.work }

-- two parts are taken away, and what they are together is added
abbrev pub with_joined : ReductionData → ℕ → ℕ → Part → ReductionData
with_joined r e f new = with_part (without (without r e) f) new

abbrev pub series_part : ℕ → ℕ → Part → Part → ℕ → ℕ → Part
series_part e f p q u v = record { from = u; to = v; width = max p.width q.width; height = p.height + q.height; made = InSeries e f }

abbrev pub parallel_part : ℕ → ℕ → Part → Part → ℕ → ℕ → Part
parallel_part e f p q u v = record { from = u; to = v; width = p.width + q.width; height = max p.height q.height; made = InParallel e f }

-- the part, read from one end to the other, is this tree of given links
pub data Unfolds (parts : List Part) : ℕ → ℕ → ℕ → Tree Link → Type 0 where
  given : {i a b : ℕ} (p : Part) → slice_get parts i ≡ Some p → p.made ≡ Given → PartJoins p a b → Unfolds parts i a b (Leaf (part_link i p))
  series : {i e f a m b : ℕ} {l r : Tree Link} (p : Part) → slice_get parts i ≡ Some p → p.made ≡ InSeries e f → p.from ≡ a → p.to ≡ b
      → Unfolds parts e a m l → Unfolds parts f m b r → Unfolds parts i a b (Series l r)
  turned : {i e f a m b : ℕ} {l r : Tree Link} (p : Part) → slice_get parts i ≡ Some p → p.made ≡ InSeries e f → p.to ≡ a → p.from ≡ b
      → Unfolds parts f a m l → Unfolds parts e m b r → Unfolds parts i a b (Series l r)
  parallel : {i e f a b : ℕ} {l r : Tree Link} (p : Part) → slice_get parts i ≡ Some p → p.made ≡ InParallel e f → PartJoins p a b
      → Unfolds parts e a b l → Unfolds parts f a b r → Unfolds parts i a b (Parallel l r)

-- the tree of a part
pub record IsTreeOf (ends : List Ends) (parts : List Part) (i : ℕ) (p : Part) (t : Tree Link) : Type 0 where
  pub unfolds : Unfolds parts i p.from p.to t
  pub between : Between t p.from p.to
  pub given : (e : Link) → Has t e → Contains (links_of ends) e
  pub width_is : whole_width t ≡ p.width
  pub height_is : whole_height t ≡ p.height

-- a link as a part
abbrev pub given_part : Ends → Part
given_part e = record { from = e.from; to = e.to; width = 1; height = 1; made = Given }

-- a reduction of no links between so many nets
abbrev pub nothing : ℕ → ReductionData
nothing nets = record { parts = []; live = []; at = replicate nets []; work = [] }

-- the trees of two parts share ends of both alone
pub record AreApart (p q : Part) (t u : Tree Link) : Type 0 where
  pub touch : (x : ℕ) → Touches t x → Touches u x → PartEndsAt p x × PartEndsAt q x
  pub numbers : Apart t u

-- the parts that are left are trees that have all given links, and a network where the given links are one
pub record IsKept (ends : List Ends) (a b : ℕ) (r : ReductionData) : Type 0 where
  pub long : length r.live ≡ length r.parts
  pub inside : (i : ℕ) (p : Part) → slice_get r.parts i ≡ Some p → (p.from < length r.at) × (p.to < length r.at)
  pub keeps : (w h : ℕ) → IsNetwork (links_of ends) a b w h → IsNetwork (live_links r) a b w h
  pub trees : ℕ → Tree Link
  pub tree_of : (i : ℕ) (p : Part) → slice_get r.parts i ≡ Some p → IsTreeOf ends r.parts i p (trees i)
  pub apart : (i j : ℕ) (p q : Part) → IsLive r i p → IsLive r j q → i ≢ j → AreApart p q (trees i) (trees j)
  pub all : (e : Link) → Contains (links_of ends) e → (i : ℕ) × (p : Part) × IsLive r i p × Has (trees i) e
  pub wide : total (λ p. p.width) r.parts r.live ≤ length ends
  pub high : total (λ p. p.height) r.parts r.live ≤ length ends
  pub few : length r.parts + total (λ p. 1) r.parts r.live ≤ length ends + length ends

-- no number stands twice in a list
abbrev pub EachNew : List ℕ → Type 0
EachNew [] = Unit {0}
EachNew (i ∷ is) = (Contains is i → ⊥) × EachNew is

-- the parts that end at each net are listed there, but for those that are held for one net
pub record IsListed (held : List ℕ) (net : ℕ) (r : ReductionData) : Type 0 where
  pub sound : (n j i : ℕ) → slice_get (listed r.at n) j ≡ Some i → (p : Part) × (slice_get r.parts i ≡ Some p) × PartEndsAt p n
  pub full : (n i : ℕ) (p : Part) → IsLive r i p → PartEndsAt p n
      → ((j : ℕ) × (slice_get (listed r.at n) j ≡ Some i)) ⊎ ((n ≡ net) × Contains held i)
  pub once : (n j k i : ℕ) → slice_get (listed r.at n) j ≡ Some i → slice_get (listed r.at n) k ≡ Some i → j ≡ k
  pub apart : (j i : ℕ) → Contains held i → slice_get (listed r.at net) j ≡ Some i → ⊥
  pub held_once : EachNew held
  pub held_live : (i : ℕ) → Contains held i → (p : Part) × IsLive r i p × PartEndsAt p net

-- two links at a net lead to two nets, or three to three
pub record LeadsToTwo (P : Link → Type 0) (n : ℕ) : Type 0 where
  pub u : ℕ
  pub v : ℕ
  pub e : Link
  pub f : Link
  pub has_e : P e
  pub has_f : P f
  pub first : Joins e n u
  pub second : Joins f n v
  pub differ : u ≢ v

pub record LeadsToThree (P : Link → Type 0) (n : ℕ) : Type 0 where
  pub two : LeadsToTwo P n
  pub w : ℕ
  pub g : Link
  pub has_g : P g
  pub third : Joins g n w
  pub not_first : w ≢ two.u
  pub not_second : w ≢ two.v

-- no step is left at a net: it has one link at most, or is an end of the network and leads to two nets, or leads to three
abbrev pub IsSettled : (Link → Type 0) → ℕ → ℕ → ℕ → Type 0
IsSettled P a b n =
    ((e f : Link) → P e → P f → EndsAt e n → EndsAt f n → e ≡ f)
    ⊎ ((((n ≡ a) ⊎ (n ≡ b)) × LeadsToTwo P n) ⊎ LeadsToThree P n)

-- each net is settled or to be looked at, or is this one
abbrev pub AreSettled : ℕ → ℕ → ReductionData → Type 0
AreSettled a b r = (n : ℕ) → Contains r.work n ⊎ IsSettled (LiveLink r) a b n

-- a reduction that holds so many parts for a net
pub record IsHolding (ends : List Ends) (a b : ℕ) (held : List ℕ) (net : ℕ) (r : ReductionData) : Type 0 where
  pub kept : IsKept ends a b r
  pub are_listed : IsListed held net r
  pub settled : (n : ℕ) → (n ≡ net) ⊎ (Contains r.work n ⊎ IsSettled (LiveLink r) a b n)
  pub work_inside : (n : ℕ) → Contains r.work n → n < length r.at

pub record IsSound (ends : List Ends) (a b : ℕ) (r : ReductionData) : Type 0 where
  pub kept : IsKept ends a b r
  pub are_listed : IsListed [] 0 r
  pub settled : AreSettled a b r
  pub work_inside : (n : ℕ) → Contains r.work n → n < length r.at

-- all links are parts, none of which joins a net to itself, and their ends are to be looked at
pub record IsBegun (ends : List Ends) (r : ReductionData) : Type 0 where
  pub parts_are : r.parts ≡ map given_part ends
  pub live_are : r.live ≡ replicate (length ends) true
  pub inside : (i : ℕ) (p : Part) → slice_get r.parts i ≡ Some p → (p.from < length r.at) × (p.to < length r.at)
  pub proper : (i : ℕ) (p : Part) → slice_get r.parts i ≡ Some p → p.from ≢ p.to
  pub are_listed : IsListed [] 0 r
  pub looked : (i : ℕ) (p : Part) (n : ℕ) → slice_get r.parts i ≡ Some p → PartEndsAt p n → Contains r.work n
  pub work_inside : (n : ℕ) → Contains r.work n → n < length r.at

-- there are links that are few, of which it is one
abbrev pub Holds : ℕ → ℕ → List ℕ → ℕ → ReductionData → Type 0
Holds a b held net r = (ends : List Ends) × (length ends ≤ 2 ^ 24) × IsHolding ends a b held net r

-- the part leads from the net to this one
abbrev pub LeadsTo : ReductionData → ℕ → ℕ → ℕ → Type 0
LeadsTo r i net x = (p : Part) → slice_get r.parts i ≡ Some p → PartJoins p net x

-- the steps that remain
abbrev pub remaining : ReductionData → ℕ
remaining r = 3 * total (λ p. 1) r.parts r.live + length r.work

-- whatever the links and the ends of their network, what was held is put back or joined, with no more steps left
pub record Settles (a b : ℕ) (held : List ℕ) (net : ℕ) (before after : ReductionData) : Type 0 where
  pub sound : (ends : List Ends) → IsHolding ends a b held net before → IsSound ends a b after
  pub less : remaining after ≤ remaining before
  pub room : length after.at ≡ length before.at
