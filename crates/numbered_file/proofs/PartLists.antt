-- Names, parts and words from one place of a list up to another.
use Rattle.std.proofs.Common.{◌≡◌, ℕ, zero, suc, ◌<◌, ◌+◌, ◌-◌, List, [], ◌∷◌, ◌++◌, length, take, drop, refl, sym, ap, ◌∙◌, arith}
use Rattle.std.specs.Prelude.{Some, slice_get}
use Rattle.std.proofs.lemmas.List.{drop-map, take-map, take_more}
use Rattle.std.proofs.lemmas.Option.{get_or_from_slice_get, slice_get_within}
use Rattle.numbered_file.specs.declared.parts.PartAt.{PartAt}
use Rattle.numbered_file.specs.Numbered.{between, bindings_by, named, name_of, part_by, parts_from}
use Rattle.numbered_file.specs.OpenLists.{rows_end, words_end}

-- the names of numbers from one place up to another
pub named-between : (names : List (List ℕ)) (start end : ℕ) (numbers : List ℕ) → named names (between start end numbers) ≡ between start end (named names numbers)
named-between names start end numbers =
    sym (take-map (name_of names) (end - start) (drop start numbers)) ∙ ap (take (end - start)) (sym (drop-map (name_of names) start numbers))

-- the first parts, and those behind them

module _ (text : List ℕ) (words : List (List ℕ)) (rows : List ℕ) where
  pub parts-take : (word row count : ℕ) (parts : List PartAt) → take count (parts_from text words rows word row parts) ≡ parts_from text words rows word row (take count parts)
  parts-take word row zero parts = refl
  parts-take word row (suc count) [] = refl
  parts-take word row (suc count) (part ∷ parts) =
      ap (λ l. part_by text part.kind part.line (between word part.words_end words) (between row part.rows_end rows) ∷ l)
      (parts-take part.words_end part.rows_end count parts)

  pub parts-drop : (word row count : ℕ) (parts : List PartAt)
      → drop count (parts_from text words rows word row parts) ≡ parts_from text words rows (words_end word (take count parts)) (rows_end row (take count parts)) (drop count parts)
  parts-drop word row zero parts = refl
  parts-drop word row (suc count) [] = refl
  parts-drop word row (suc count) (part ∷ parts) = parts-drop part.words_end part.rows_end count parts

-- one item more of those so far
pub take-get : {X : Type 0} (xs : List X) (i : ℕ) (x : X) → slice_get xs i ≡ Some x → take (i + 1) xs ≡ take i xs ++ x ∷ []
take-get xs i x is = take_more xs i x (slice_get_within xs i x is) ∙ ap (λ y. take i xs ++ y ∷ []) (get_or_from_slice_get xs i x x is)

-- fewer than two words are no binding
pub bindings-short : (names : List (List ℕ)) (numbers : List ℕ) → length numbers < 2 → bindings_by (named names numbers) ≡ []
bindings-short names [] short = refl
bindings-short names (a ∷ []) short = refl
bindings-short names (a ∷ b ∷ numbers) short = absurd (omega (arith, short))
