-- The numbers of links in the order in which a tree spells them, while parts are taken apart.
use Rattle.std.specs.Prelude.{List, Some, [], length, slice_get, ℕ, ◌*◌, ◌++◌, ◌+◌, ◌≡◌, ◌≤◌, ◌≢◌, ◌∷◌}
use Rattle.sp_network.specs.Tree.{Tree}
use Rattle.sp_reduction.specs.Networks.{Link}
use Rattle.link_reduce.specs.Parts.{PartJoins, numbers_of}
use Rattle.link_reduce.specs.Reductions.{Unfolds}
use Rattle.link_reduce.specs.declared.part.Part.{Part}
use Rattle.link_reduce.specs.declared.spelling.Step.{Step}

-- so wide and so high, with the numbers of its links in order
pub record SpelledData : Type 0 where
  pub width : ℕ
  pub height : ℕ
  pub order : List ℕ

-- no part joins a net to itself
abbrev pub AreProper : List Part → Type 0
AreProper parts = (i : ℕ) (p : Part) → slice_get parts i ≡ Some p → p.from ≢ p.to

-- the part leads from the net to this one
abbrev pub JoinsFrom : List Part → ℕ → ℕ → ℕ → Type 0
JoinsFrom parts i net x = (p : Part) → slice_get parts i ≡ Some p → PartJoins p net x

-- the parts that are still to be spelled, the last one first, spell these numbers
abbrev pub IsPending : List Part → List Step → List ℕ → Type 0
IsPending parts [] numbers = numbers ≡ []
IsPending parts (s ∷ steps) numbers =
    (to : ℕ) × (t : Tree Link) × (above : List ℕ) × Unfolds parts s.part s.from to t × IsPending parts steps above × (numbers ≡ above ++ numbers_of t)

-- what is spelled and what is pending are all numbers
abbrev pub IsSpelling : List Part → List ℕ → List Step → List ℕ → Type 0
IsSpelling parts order steps all = (numbers : List ℕ) × IsPending parts steps numbers × (order ++ numbers ≡ all)

-- a part can be spelled from this end
abbrev pub HasTree : List Part → Step → Type 0
HasTree parts s = (to : ℕ) × (t : Tree Link) × Unfolds parts s.part s.from to t

-- and a tree of it has so few links
abbrev pub HasShortTree : List Part → Step → ℕ → Type 0
HasShortTree parts s count = (to : ℕ) × (t : Tree Link) × Unfolds parts s.part s.from to t × (length (numbers_of t) ≤ count)

-- a step is spelled: its number is put into the order, or its two parts are pending
pub record IsTakenApart (parts : List Part) (s : Step) (order order' : List ℕ) (steps steps' : List Step) : Type 0 where
  pub spells : (to : ℕ) (t : Tree Link) (rest all : List ℕ) → Unfolds parts s.part s.from to t → IsPending parts steps rest
      → order ++ (numbers_of t ++ rest) ≡ all → IsSpelling parts order' steps' all
  pub grows : 2 * length order' + length steps' ≡ 2 * length order + length steps + 2
