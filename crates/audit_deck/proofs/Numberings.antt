-- Nets that are met, and their numbers.
use Rattle.std.specs.Prelude.{Some, slice_get}
use Rattle.std.proofs.Common.{List, [], ap, arith, get_or, inl, inr, length, length-set, set, sym, ℕ}
use Rattle.std.proofs.Common.{◌++◌, ◌<◌, ◌∙◌, ◌∷◌, ◌≡◌}
use Rattle.std.proofs.lemmas.List.{get_or-set_same}
use Rattle.std.proofs.lemmas.Option.{slice_get-get_or, slice_get_read, slice_get_within}
use Rattle.dom_base.proofs.Lists.{slice_get-push_cases, slice_get-set_other}
use Rattle.link_reduce.specs.Parts.{IsOnce}
use Rattle.link_reduce.proofs.ShortTrees.{once_short}
use Rattle.audit_deck.specs.Numberings.{IsMet, IsNumbering}

pub met_more : (numbers nets : List ℕ) (n : ℕ) → IsNumbering numbers nets → n < length numbers → (IsMet nets n → ⊥)
    → IsNumbering (set numbers n (length nets)) (nets ++ n ∷ [])
met_more numbers nets n h lt new = record {
  few = omega (arith, h.few, long);
  short = (once_short (nets ++ n ∷ []) (length (set numbers n (length nets))) (λ j k p a b. let z : Some j ≡ Some k = sym (at j p a) ∙ at k p b in cc)
      (λ i m e. slice_get_within (set numbers n (length nets)) m i (at i m e)));
  at = at;
}
  where
    long : length (set numbers n (length nets)) ≡ length numbers
    long = length-set numbers n (length nets)

    here : slice_get (set numbers n (length nets)) n ≡ Some (length nets)
    here = slice_get_read (set numbers n (length nets)) (length numbers) n (length nets) (sym long) lt (sym (get_or-set_same numbers n (length nets) (length nets) lt))

    at : (i m : ℕ) → slice_get (nets ++ n ∷ []) i ≡ Some m → slice_get (set numbers n (length nets)) m ≡ Some i
    at i m e = elim (slice_get-push_cases nets n i m e) [
      | inl y ↦ slice_get-set_other numbers n m (length nets) (λ z. new (i, y ∙ ap Some z)) ∙ h.at i m y
      | inr y ↦ ap (slice_get (set numbers n (length nets))) (sym y.1) ∙ here ∙ ap Some (sym y.0)
    ]

-- no net has two numbers, and each is one of those that there are
pub numbering_once : (numbers nets : List ℕ) → IsNumbering numbers nets → IsOnce nets
numbering_once numbers nets h = λ j k p at there.
    let z : Some j ≡ Some k = sym (h.at j p at) ∙ h.at k p there in cc

pub numbering_within : (numbers nets : List ℕ) → IsNumbering numbers nets → (i d : ℕ) → i < length nets → get_or nets i d < length numbers
numbering_within numbers nets h i d lt =
    slice_get_within numbers (get_or nets i d) i (h.at i (get_or nets i d) (slice_get-get_or nets i d lt))
