-- Lists whose entries all stand in one list, each with the number of entries up to the one before it in its list.
use Rattle.std.specs.Prelude.{◌≤◌, ◌+◌, ℕ, zero, suc, All, List, [], ◌∷◌, ◌++◌, length, map, slice_index_or}
use Rattle.switch_model.specs.declared.lists.Entry.{Entry}

abbrev pub entry_at : List Entry → ℕ → Entry
entry_at entries place = slice_index_or entries place (record { number = 0; before = 0 })

-- the numbers of a list by its last entry, of which no more than so many are told
abbrev pub chain : List Entry → ℕ → ℕ → List ℕ
chain entries zero end = []
chain entries (suc most) zero = []
chain entries (suc most) (suc last) = chain entries most (entry_at entries last).before ++ (entry_at entries last).number ∷ []

-- the lists that end there
abbrev pub chains : List Entry → List ℕ → List (List ℕ)
chains entries ends = map (λ end. chain entries end end) ends

-- each entry knows one that came before it
abbrev pub AreBackward : List Entry → Type 0
AreBackward entries = (place : ℕ) → (entry_at entries place).before ≤ place

pub record AreChained (entries : List Entry) (ends : List ℕ) : Type 0 where
  pub backward : AreBackward entries
  pub within : All (λ end. end ≤ length entries) ends
