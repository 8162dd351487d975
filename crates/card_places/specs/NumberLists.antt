-- Lists of numbers that stand one behind the other in one list.
use Rattle.std.specs.Prelude.{ℕ, ◌≤◌, List, [], ◌∷◌, ◌++◌, drop}
use Rattle.numbered_file.specs.Numbered.{between}

-- lists of numbers, and the numbers of the list that comes
pub record NumberListsData : Type 0 where
  pub lists : List (List ℕ)
  pub next : List ℕ

-- the lists that end at these places, where the first begins at this one
abbrev pub lists_from : List ℕ → ℕ → List ℕ → List (List ℕ)
lists_from items start [] = []
lists_from items start (end ∷ ends) = between start end items ∷ lists_from items end ends

-- where the last of them ends
abbrev pub last_end : ℕ → List ℕ → ℕ
last_end start [] = start
last_end start (end ∷ ends) = last_end end ends

-- they end one behind the other, from this place on, within so many numbers
abbrev pub EndsRise : ℕ → List ℕ → ℕ → Type 0
EndsRise start [] count = start ≤ count
EndsRise start (end ∷ ends) count = (start ≤ end) × EndsRise end ends count

-- the lists that end at these places, and what stands behind them
abbrev pub lists_by : List ℕ → List ℕ → NumberListsData
lists_by items ends = record { lists = lists_from items 0 ends; next = drop (last_end 0 ends) items }

abbrev pub no_number_lists : NumberListsData
no_number_lists = record { lists = []; next = [] }

-- one number more in the list that comes
abbrev pub with_number : NumberListsData → ℕ → NumberListsData
with_number l number = record { lists = l.lists; next = l.next ++ number ∷ [] }

-- numbers more in the list that comes
abbrev pub with_numbers : NumberListsData → List ℕ → NumberListsData
with_numbers l numbers = record { lists = l.lists; next = l.next ++ numbers }

-- the list that comes is there, and a new one comes
abbrev pub closed : NumberListsData → NumberListsData
closed l = record { lists = l.lists ++ l.next ∷ []; next = [] }
