-- Lists of words, by their first ones.
use Rattle.std.proofs.Common.{◌≡◌, ◌≤◌, ◌+◌, ◌-◌, Bool, true, false, List, [], ◌∷◌, length, get_or, map, take, drop, refl, sym, ap, ◌∙◌, arith}
use Rattle.std.specs.List.{list_any, position_or_len, slice_split}
use Rattle.std.proofs.lemmas.List.{take_rest}
use Rattle.std.proofs.lemmas.List.Elements.{All-from_recursion}
use Rattle.std.proofs.lemmas.List.Splits.{slice_split_none}
use Rattle.dom_base.proofs.Lists.{none-list_any}

-- the first of the words, by its text
pub first_word : {X Y : Type 0} (f : X → Y) (words : List X) (x : X) (text : Y) → 1 ≤ length words → x ≡ get_or words 0 x → text ≡ f x
    → map f words ≡ text ∷ map f (take (length words - 1) (drop 1 words))
first_word f [] x text h e t = absurd (omega arith)
first_word f (y ∷ ys) x text h e t = simp take_rest (λ i. (sym (t ∙ ap f e)) i ∷ map f ys)

-- where the first place that passes is the end, none passes
pub list_any-no_place : {X : Type 0} (p : X → Bool) (xs : List X) → position_or_len p xs ≡ length xs → list_any p xs ≡ false
list_any-no_place p [] e = refl
list_any-no_place p (x ∷ xs) e = by (p x) refl (λ none. list_any-no_place p xs none)
  where
    by : (t : Bool) → p x ≡ t → (position_or_len p xs ≡ length xs → list_any p xs ≡ false) → list_any p (x ∷ xs) ≡ false
    by true is rest = let zero : position_or_len p (x ∷ xs) ≡ 0 = rw is refl in absurd (omega (arith, e, zero))
    by false is rest =
        let more : position_or_len p (x ∷ xs) ≡ 1 + position_or_len p xs = rw is refl in
        rw is (rest (omega (arith, e, more)))

-- where none passes the list is one piece
pub slice_split-no_place : {X : Type 0} (p : X → Bool) (xs : List X) → position_or_len p xs ≡ length xs → slice_split p xs ≡ xs ∷ []
slice_split-no_place p xs e = slice_split_none p xs (All-from_recursion (λ x. p x ≡ false) xs (none-list_any p xs (list_any-no_place p xs e)))
