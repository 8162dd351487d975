-- How the names of a table are found: by slots of their own, and names that have none in a set beside them.
use Rattle.std.specs.Prelude.{ℕ, ◌≡◌, ◌≢◌, ◌⊎◌, ◌+◌, ◌-◌, ◌*◌, ◌/◌, ◌%◌, ◌^◌, ◌<◌, List, [], ◌∷◌, ◌++◌, Some, Option, None, false, length, slice_get, bit_and}
use Rattle.std.specs.List.{IsDistinct, fold, list_any}
use Rattle.blif_ast.specs.Cards.{same}
use Rattle.numbered_file.specs.declared.slots.Lookup.{Lookup}
use Rattle.numbered_file.specs.declared.slots.Lookup.TheVariants as look

-- a mark that takes a letter more in
unfoldable pub marked : ℕ → ℕ → ℕ
marked mark letter = (mark * 75 % 2 ^ 64 + letter) % 2 ^ 64

abbrev pub letters_mark : List ℕ → ℕ
letters_mark name = fold marked 0 name

-- of so many slots, those of a mark
unfoldable pub first_slot : ℕ → ℕ → ℕ
first_slot count mark = bit_and mark (count - 1)

unfoldable pub second_slot : ℕ → ℕ → ℕ
second_slot count mark = bit_and (mark * 11400714819323198485 % 2 ^ 64 / 2 ^ 32) (count - 1)

-- of so many slots, those in which a name is looked for, in turn
abbrev pub slots_of : ℕ → List ℕ → List ℕ
slots_of count name = first_slot count (letters_mark name) ∷ second_slot count (letters_mark name) ∷ []

-- a slot that isn't free, and that has the number of another name
abbrev pub IsTaken : List (List ℕ) → List ℕ → List ℕ → ℕ → Type 0
IsTaken names slots name slot =
    (slice_get slots slot ≢ Some 0) × ((n : ℕ) → slice_get slots slot ≡ Some (n + 1) → slice_get names n ≢ Some name)

-- what these slots say of a name
pub data IsLookup (names : List (List ℕ)) (slots : List ℕ) (name : List ℕ) : List ℕ → Lookup → Type 0 where
  known : {slot n : ℕ} {more : List ℕ} → slice_get slots slot ≡ Some (n + 1) → slice_get names n ≡ Some name
      → IsLookup names slots name (slot ∷ more) (look.Known n)
  free : {slot : ℕ} {more : List ℕ} → slice_get slots slot ≡ Some 0 → IsLookup names slots name (slot ∷ more) (look.Free slot)
  taken : {slot : ℕ} {more : List ℕ} {says : Lookup} → IsTaken names slots name slot → IsLookup names slots name more says
      → IsLookup names slots name (slot ∷ more) says
  none : IsLookup names slots name [] look.Taken

-- names and the number of each
pub record OtherNames : Type 0 where
  pub names : List (List ℕ)
  pub numbers : List ℕ

abbrev pub no_others : OtherNames
no_others = record { names = []; numbers = [] }

abbrev pub HasOther : OtherNames → ℕ → List ℕ → Type 0
HasOther others number name = (i : ℕ) × (slice_get others.names i ≡ Some name) × (slice_get others.numbers i ≡ Some number)

abbrev pub with_other : OtherNames → List ℕ → ℕ → OtherNames
with_other others name number = record { names = others.names ++ name ∷ []; numbers = others.numbers ++ number ∷ [] }

-- no name loses its number
abbrev pub OthersGrow : OtherNames → OtherNames → Type 0
OthersGrow before after =
    ((more : List (List ℕ)) × (after.names ≡ before.names ++ more)) × ((more : List ℕ) × (after.numbers ≡ before.numbers ++ more))

-- the numbers are those of the names
abbrev pub AreNumbered : List (List ℕ) → OtherNames → Type 0
AreNumbered names others =
    (i n : ℕ) → slice_get others.numbers i ≡ Some n → (name : List ℕ) × (slice_get others.names i ≡ Some name) × (slice_get names n ≡ Some name)

-- what becomes of the others where the number of a name is asked for: it is known, or this number becomes that of the name
abbrev pub HasAsked : OtherNames → List ℕ → ℕ → Option ℕ → OtherNames → Type 0
HasAsked before name next None after = (list_any (same name) before.names ≡ false) × (after ≡ with_other before name next)
HasAsked before name next (Some number) after = (after ≡ before) × HasOther before number name

-- these slots lead to the number of a name, or it is one of the others
abbrev pub Leads : List ℕ → OtherNames → ℕ → List ℕ → List ℕ → Type 0
Leads slots others number name [] = HasOther others number name
Leads slots others number name (slot ∷ more) =
    (slice_get slots slot ≡ Some (number + 1)) ⊎ ((slice_get slots slot ≢ Some 0) × Leads slots others number name more)

-- so many of the names are found
abbrev pub AreFound : List (List ℕ) → List ℕ → OtherNames → ℕ → Type 0
AreFound names slots others count =
    (k : ℕ) (name : List ℕ) → k < count → slice_get names k ≡ Some name → Leads slots others k name (slots_of (length slots) name)

-- the names of a table differ, and each is found
pub record IsTable (names : List (List ℕ)) (slots : List ℕ) (others : OtherNames) : Type 0 where
  pub distinct : IsDistinct same names
  pub numbered : AreNumbered names others
  pub found : AreFound names slots others (length names)
