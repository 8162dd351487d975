-- The names of a network's signals are good and differ.
use Rattle.std.proofs.Common.{◌≡◌, ℕ, zero, suc, ◌<◌, ◌≤◌, ◌+◌, ◌^◌, Bool, true, false, List, [], ◌∷◌, ◌++◌, map, length, refl, ap, sym, ◌∙◌, arith}
use Rattle.std.specs.Prelude.{◌≢◌, All, if◌then◌else◌}
use Rattle.std.specs.Cmp.Lexicographic.{same_text}
use Rattle.std.specs.Fmt.{decimal}
use Rattle.std.specs.List.{AllByRecursion, IsDistinct, enumerate_from}
use Rattle.std.specs.Str.Parse.{AllDigits}
use Rattle.std.proofs.lemmas.Fmt.{decimal_injective, decimal_is_IsNumeral}
use Rattle.std.proofs.lemmas.List.{append_cancel_left}
use Rattle.std.proofs.lemmas.List.Elements.{All-append, All-contains, All-from_recursion, All-replicate}
use Rattle.std.proofs.lemmas.Str.Parse.{digit_from_value}
use Rattle.dom_base.proofs.Lists.{AllByRecursion-weaker}
use Rattle.blif_ast.specs.BlifModelData.{BlifModelData}
use Rattle.blif_ast.specs.Cards.{same}
use Rattle.blif_ast.specs.Good.{IsGoodName, IsNameByte}
use Rattle.blif_ast.specs.InstanceData.{InstanceData}
use Rattle.model_calls.specs.Numbering.{IsDecimalDigit, IsPrefixedNumber, is_main, letters_w, name_by_number, names_by_number}
use Rattle.model_calls.specs.Occurrences.{names_of}
use Rattle.model_calls.specs.Signals.{Signal}
use Rattle.model_calls.proofs.Apart.{Apart}
use Rattle.model_calls.proofs.MainNames.{HasMainName}

digits_by_recursion : (ds : List ℕ) → AllDigits 10 ds → AllByRecursion IsDecimalDigit ds
digits_by_recursion [] h = tt
digits_by_recursion (d ∷ ds) h = let r = digit_from_value d h.0 in ((r.0, r.1), digits_by_recursion ds h.1)

digits_all : (n : ℕ) → n < 2 ^ 64 → All IsDecimalDigit (decimal n)
digits_all n l = All-from_recursion IsDecimalDigit (decimal n) (digits_by_recursion (decimal n) (decimal_is_IsNumeral n l).0.1)

some_digits : (n : ℕ) → n < 2 ^ 64 → decimal n ≢ []
some_digits n l e = let z = (decimal_is_IsNumeral n l).0.0 in let none = ap length e in omega (arith, z, none)

good_numbered : (width k : ℕ) → k < 2 ^ 64 → IsGoodName (letters_w width ++ decimal k)
good_numbered width k l = record { some = some width; bytes = bytes }
  where
    digit : (b : ℕ) → IsDecimalDigit b → IsNameByte b
    digit b h = (omega (arith, h.0), (λ e. omega (arith, e, h.1)), λ e. omega (arith, e, h.0))

    bytes : All IsNameByte (letters_w width ++ decimal k)
    bytes = All-append IsNameByte (letters_w width) (decimal k)
        (All-replicate IsNameByte width 119 (omega arith, (λ e. omega (arith, e)), λ e. omega (arith, e)))
        (λ j d inside. digit _ (digits_all k l j d inside))

    some : (w : ℕ) → letters_w w ++ decimal k ≢ []
    some zero = some_digits k l
    some (suc w) = λ e. absurd cc

pub apart_same : (names : List (List ℕ)) → Apart names → IsDistinct same names
unfolding IsDistinct
apart_same [] a = tt
apart_same (x ∷ xs) a = (AllByRecursion-weaker (λ y. x ≢ y) (λ y. same x y ≡ false) (λ y h. by y h (same x y) refl) xs a.0, apart_same xs a.1)
  where
    by : (y : List ℕ) → x ≢ y → (t : Bool) → same x y ≡ t → same x y ≡ false
    by y h true e = absurd (h (same_text x y (sym e)))
    by y h false e = e

module _ (main : BlifModelData) (width : ℕ) (free : All (λ name. IsPrefixedNumber (letters_w width) name → ⊥) (names_of main)) where
  not_main : (s : Signal) (k : ℕ) → k < 2 ^ 64 → s.path ≡ [] → HasMainName main s → s.name ≡ letters_w width ++ decimal k → ⊥
  not_main s k l on has e = All-contains (λ name. IsPrefixedNumber (letters_w width) name → ⊥) (names_of main) s.name free (has on)
      (record { digits = decimal k; name_is = e; some = some_digits k l; all = digits_all k l })

  differ : (j k : ℕ) (s t : Signal) → j < 2 ^ 64 → k < 2 ^ 64 → j ≢ k → s ≢ t → HasMainName main s → HasMainName main t
      → name_by_number (letters_w width) j s ≢ name_by_number (letters_w width) k t
  differ j k s t lj lk other apart hs ht = by s.path refl t.path refl
    where
      by : (p : List InstanceData) → s.path ≡ p → (q : List InstanceData) → t.path ≡ q
          → (if is_main p then s.name else letters_w width ++ decimal j) ≢ (if is_main q then t.name else letters_w width ++ decimal k)
      by [] e [] d = λ same_name. let paths : s.path ≡ t.path = e ∙ sym d in apart (λ i. record { path = paths i; name = same_name i })
      by [] e (i ∷ up) d = λ same_name. not_main s k lk e hs same_name
      by (i ∷ up) e [] d = λ same_name. not_main t j lj d ht (sym same_name)
      by (i ∷ up) e (h ∷ down) d = λ same_name. other (decimal_injective j k lj lk (append_cancel_left (letters_w width) (decimal j) (decimal k) same_name))

  abbrev name_of_pair : ℕ × Signal → List ℕ
  name_of_pair p = name_by_number (letters_w width) p.0 p.1

  later_differ : (j k : ℕ) (s : Signal) (xs : List Signal) → j < k → k + length xs ≤ 2 ^ 64 → AllByRecursion (λ t. s ≢ t) xs → HasMainName main s → AllByRecursion (HasMainName main) xs
      → AllByRecursion (λ name. name_by_number (letters_w width) j s ≢ name) (map name_of_pair (enumerate_from k xs))
  later_differ j k s [] l few a hs hx = tt
  later_differ j k s (x ∷ xs) l few a hs hx =
      (differ j k s x (omega (arith, l, few)) (omega (arith, few)) (λ e. omega (arith, e, l)) a.0 hs hx.0, later_differ j (k + 1) s xs (omega (arith, l)) (omega (arith, few)) a.1 hs hx.1)

  names_apart : (k : ℕ) (xs : List Signal) → k + length xs ≤ 2 ^ 64 → Apart xs → AllByRecursion (HasMainName main) xs → Apart (map name_of_pair (enumerate_from k xs))
  names_apart k [] few a h = tt
  names_apart k (x ∷ xs) few a h = (later_differ k (k + 1) x xs (omega arith) (omega (arith, few)) a.0 h.0 h.1, names_apart (k + 1) xs (omega (arith, few)) a.1 h.1)

  pub names_differ : (xs : List Signal) → length xs ≤ 2 ^ 64 → Apart xs → AllByRecursion (HasMainName main) xs → IsDistinct same (names_by_number (letters_w width) xs)
  names_differ xs few a h = apart_same (names_by_number (letters_w width) xs) (names_apart 0 xs (omega (arith, few)) a h)

  good_name : (k : ℕ) (s : Signal) → k < 2 ^ 64 → IsGoodName s.name → IsGoodName (name_by_number (letters_w width) k s)
  good_name k s l good = by s.path
    where
      by : (p : List InstanceData) → IsGoodName (if is_main p then s.name else letters_w width ++ decimal k)
      by [] = good
      by (i ∷ up) = good_numbered width k l

  names_good : (k : ℕ) (xs : List Signal) → k + length xs ≤ 2 ^ 64 → AllByRecursion (λ (s : Signal). IsGoodName s.name) xs → AllByRecursion IsGoodName (map name_of_pair (enumerate_from k xs))
  names_good k [] few h = tt
  names_good k (x ∷ xs) few h = (good_name k x (omega (arith, few)) h.0, names_good (k + 1) xs (omega (arith, few)) h.1)

  pub names_are_good : (xs : List Signal) → length xs ≤ 2 ^ 64 → AllByRecursion (λ (s : Signal). IsGoodName s.name) xs → AllByRecursion IsGoodName (names_by_number (letters_w width) xs)
  names_are_good xs few h = names_good 0 xs (omega (arith, few)) h
