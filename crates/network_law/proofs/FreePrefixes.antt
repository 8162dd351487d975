-- Each model has a least prefix that none of its names is followed by digits only.
use Rattle.std.proofs.Common.{ℕ, ◌≤◌, ◌+◌, inl, inr, max, List, [], ◌∷◌, map, length, refl, ap, sym, subst, arith}
use Rattle.std.specs.Prelude.{◌≢◌}
use Rattle.std.specs.List.{AllByRecursion, fold}
use Rattle.std.proofs.lemmas.List.{length-append, length-replicate}
use Rattle.std.proofs.lemmas.List.Elements.{All-from_recursion, recursion_from_All}
use Rattle.dom_base.specs.Decided.{Decided}
use Rattle.dom_base.proofs.Decided.{dec_and, dec_less, dec_map, dec_nat, dec_not}
use Rattle.dom_base.proofs.Lists.{AllByRecursion-unmap, AllByRecursion-weaker, head_same, tail_same}
use Rattle.blif_ast.specs.BlifModelData.{BlifModelData}
use Rattle.model_calls.specs.Numbering.{IsDecimalDigit, IsFreePrefix, IsLeastPrefix, IsPrefixedNumber, letters_w}
use Rattle.model_calls.specs.Occurrences.{names_of}
use Rattle.network.proofs.Lists.{each_le_greatest}
use Rattle.network_law.proofs.ListDecisions.{dec_list, least}

dec_each : {X : Type 0} (P : X → Type 0) → ((x : X) → Decided (P x)) → (xs : List X) → Decided (AllByRecursion P xs)
dec_each P dec [] = inl tt
dec_each P dec (x ∷ xs) = dec_and (dec x) (dec_each P dec xs)

digit_decided : (b : ℕ) → Decided (IsDecimalDigit b)
digit_decided b = dec_and (dec_less 47 b) (dec_map (λ less. omega (arith, less)) (λ most. omega (arith, most)) (dec_less b 58))

dec_prefixed : (prefix name : List ℕ) → Decided (IsPrefixedNumber prefix name)
dec_prefixed [] name = dec_map
    (λ h. record { digits = name; name_is = refl; some = h.0; all = All-from_recursion IsDecimalDigit name h.1 })
    (λ n. subst (λ digits. (digits ≢ []) × AllByRecursion IsDecimalDigit digits) (sym n.name_is)
    (n.some, recursion_from_All IsDecimalDigit n.digits n.all))
    (dec_and (dec_not (dec_list dec_nat name [])) (dec_each IsDecimalDigit digit_decided name))
dec_prefixed (p ∷ prefix) [] = inr (λ n. let none = n.name_is in cc)
dec_prefixed (p ∷ prefix) (b ∷ name) = dec_map
    (λ h. record { digits = h.1.digits; name_is = (let first = h.0 in let rest = h.1.name_is in cc); some = h.1.some; all = h.1.all })
    (λ n. (head_same n.name_is, record { digits = n.digits; name_is = tail_same n.name_is; some = n.some; all = n.all }))
    (dec_and (dec_nat b p) (dec_prefixed prefix name))

module _ (m : BlifModelData) where
  abbrev IsOtherName : ℕ → List ℕ → Type 0
  IsOtherName width name = IsPrefixedNumber (letters_w width) name → ⊥

  free_decided : (width : ℕ) → Decided (IsFreePrefix (names_of m) width)
  free_decided width = dec_map
      (λ h. record { some = h.0; free = All-from_recursion (IsOtherName width) (names_of m) h.1 })
      (λ is. (is.some, recursion_from_All (IsOtherName width) (names_of m) is.free))
      (dec_and (dec_less 0 width) (dec_each (IsOtherName width) (λ name. dec_not (dec_prefixed (letters_w width) name)) (names_of m)))

  abbrev lengths : List ℕ
  lengths = map (λ (name : List ℕ). length name) (names_of m)

  abbrev longest : ℕ
  longest = fold max 0 lengths

  -- a prefix that is longer than each name is free
  long_is_free : IsFreePrefix (names_of m) (longest + 1)
  long_is_free = record {
    some = omega arith;
    free = All-from_recursion (IsOtherName (longest + 1)) (names_of m)
        (AllByRecursion-weaker (λ name. length name ≤ longest) (IsOtherName (longest + 1)) other (names_of m)
        (AllByRecursion-unmap (λ k. k ≤ longest) (λ (name : List ℕ). length name) (names_of m) (each_le_greatest 0 lengths)));
  }
    where
      other : (name : List ℕ) → length name ≤ longest → IsOtherName (longest + 1) name
      other name short n = omega (
        arith,
        short,
        ap length n.name_is,
        length-append (letters_w (longest + 1)) n.digits,
        length-replicate {A = ℕ} (longest + 1) 119,
      )

  pub least_prefix : (width : ℕ) × IsLeastPrefix m width
  least_prefix = let found = least (IsFreePrefix (names_of m)) free_decided (longest + 1) long_is_free in
      (found.0, record { is_free = found.1; least = found.2 })
