-- The names of a model, each once: how they are gathered from the last one on, and where each stands.
use Rattle.std.proofs.Common.{◌≡◌, ℕ, suc, ◌<◌, ◌+◌, ◌-◌, Bool, true, false, ◌||◌, cond, List, [], ◌∷◌, ◌++◌, reverse, length, drop, not, inl, inr, Some, None, refl, ap, sym, ◌∙◌, arith}
use Rattle.std.specs.Prelude.{Contains, nat_lt, position, slice_get, if◌then◌else◌, ◌≢◌}
use Rattle.std.specs.Cmp.Lexicographic.{same_text}
use Rattle.std.specs.List.{list_any, position_or_len, AllByRecursion}
use Rattle.std.specs.Option.{option_map}
use Rattle.std.specs.Set.{unique_keys}
use Rattle.std.proofs.lemmas.Bool.Decides.{nat_tests}
use Rattle.std.proofs.lemmas.Bool.{true≢false}
use Rattle.std.proofs.lemmas.Cmp.{nat_list_eq_equiv}
use Rattle.std.proofs.lemmas.List.Folds.{list_any-append, list_any-from_Any}
use Rattle.dom_base.proofs.Bools.{or_false}
use Rattle.dom_base.proofs.Lists.{reverse-cons, AllByRecursion-weaker, drop_next}
use Rattle.blif_ast.specs.Cards.{same}
use Rattle.indexmap.specs.IndexSet.{insert_key}
use Rattle.model_calls.proofs.Apart.{Apart}
use Rattle.model_calls.proofs.EachPart.{each_itself}
use Rattle.model_calls.proofs.Fitting.{contains_cons}

or_swap : (a b : Bool) → (a || b) ≡ (b || a)
or_swap true true = refl
or_swap true false = refl
or_swap false true = refl
or_swap false false = refl

any_reverse : (p : List ℕ → Bool) (xs : List (List ℕ)) → list_any p (reverse xs) ≡ list_any p xs
any_reverse p [] = refl
any_reverse p (x ∷ xs) = ap (list_any p) (reverse-cons x xs) ∙ list_any-append p (reverse xs) (x ∷ [])
    ∙ ap (λ b. b || (p x || false)) (any_reverse p xs) ∙ ap (λ b. list_any p xs || b) (or_false (p x)) ∙ or_swap (list_any p xs) (p x)

or_held : (a b : Bool) → (a ≡ true → b ≡ true) → b ≡ (a || b)
or_held true b h = h refl
or_held false b h = refl

any_unique : (name : List ℕ) (xs : List (List ℕ)) → list_any (same name) (unique_keys same xs) ≡ list_any (same name) xs
any_unique name [] = refl
any_unique name (x ∷ xs) = by (any_unique name xs) (list_any (same x) xs) refl
  where
    by : list_any (same name) (unique_keys same xs) ≡ list_any (same name) xs → (t : Bool) → list_any (same x) xs ≡ t
        → list_any (same name) (cond t (unique_keys same xs) (x ∷ unique_keys same xs)) ≡ (same name x || list_any (same name) xs)
    by deeper true e = deeper ∙ or_held (same name x) (list_any (same name) xs) (λ h. ap (λ n. list_any (same n) xs) (same_text name x (sym h)) ∙ e)
    by deeper false e = ap (λ b. same name x || b) deeper

-- one name more in front
pub insert_front : (x : List ℕ) (xs : List (List ℕ)) → insert_key same (reverse (unique_keys same xs)) x ≡ reverse (unique_keys same (x ∷ xs))
insert_front x xs = ap (λ b. if b then reverse (unique_keys same xs) else reverse (unique_keys same xs) ++ x ∷ []) (any_reverse (same x) (unique_keys same xs) ∙ any_unique x xs)
    ∙ by (list_any (same x) xs)
  where
    by : (b : Bool) → (if b then reverse (unique_keys same xs) else reverse (unique_keys same xs) ++ x ∷ []) ≡ reverse (cond b (unique_keys same xs) (x ∷ unique_keys same xs))
    by true = refl
    by false = sym (reverse-cons x (unique_keys same xs))

pub insert_back : (xs : List (List ℕ)) (index : ℕ) (x : List ℕ) → index < length xs → slice_get xs (length xs - 1 - index) ≡ Some x
    → insert_key same (reverse (unique_keys same (drop (length xs - index) xs))) x ≡ reverse (unique_keys same (drop (length xs - (index + 1)) xs))
insert_back xs index x l e = insert_front x (drop (length xs - index) xs)
    ∙ ap (λ ys. reverse (unique_keys same ys))
    (ap (λ k. x ∷ drop k xs) (let z : length xs - index ≡ (length xs - 1 - index) + 1 = omega (arith, l) in z)
    ∙ sym (drop_next xs (length xs - 1 - index) x e)
    ∙ ap (λ k. drop k xs) (let z : length xs - 1 - index ≡ length xs - (index + 1) = omega (arith, l) in z))

-- the first index at which a test passes
pub position_cons : {X : Type 0} (p : X → Bool) (x : X) (xs : List X) → position p (x ∷ xs) ≡ cond (p x) (Some 0) (option_map suc (position p xs))
position_cons p x xs = by (p x)
  where
    front : (b : ℕ) → nat_lt 0 (suc b) ≡ true
    front b = grind (arith, nat_tests)

    tail : (a b : ℕ) (t : Bool) → nat_lt a b ≡ t → cond (nat_lt (1 + a) (suc b)) (Some (1 + a)) None ≡ option_map suc (cond t (Some a) None)
    tail a b true e = let h : nat_lt (1 + a) (suc b) ≡ true = grind (arith, nat_tests) in ap (λ t. cond t (Some (1 + a)) None) h ∙ ap Some (let z : 1 + a ≡ suc a = omega arith in z)
    tail a b false e = let h : nat_lt (1 + a) (suc b) ≡ false = grind (arith, nat_tests) in ap (λ t. cond t (Some (1 + a)) None) h

    by : (b : Bool) → cond (nat_lt (cond (not b) (1 + position_or_len p xs) 0) (length (x ∷ xs))) (Some (cond (not b) (1 + position_or_len p xs) 0)) None
        ≡ cond b (Some 0) (option_map suc (position p xs))
    by true = ap (λ t. cond t (Some 0) None) (front (length xs))
    by false = tail (position_or_len p xs) (length xs) (nat_lt (position_or_len p xs) (length xs)) refl

-- a name that is there has a number, and stands at it
abbrev pub IsNumberIn : List (List ℕ) → List ℕ → Type 0
IsNumberIn names name = (k : ℕ) × (position (same name) names ≡ Some k) × (slice_get names k ≡ Some name)

pub number_in : (names : List (List ℕ)) (name : List ℕ) → Contains names name → IsNumberIn names name
number_in [] name (k, l, e) = absurd (omega (arith, l))
number_in (x ∷ xs) name c = by (same name x) refl (number_in xs name)
  where
    by : (t : Bool) → same name x ≡ t → (Contains xs name → IsNumberIn xs name) → IsNumberIn (x ∷ xs) name
    by true e deeper = (0, position_cons (same name) x xs ∙ ap (λ t. cond t (Some 0) (option_map suc (position (same name) xs))) e, ap Some (sym (same_text name x (sym e))))
    by false e deeper = elim (contains_cons x xs name c) [
      | inl is ↦ absurd (true≢false (sym (ap (same name) is ∙ nat_list_eq_equiv.refl name) ∙ e))
      | inr later ↦ let h = deeper later in
          (suc h.0, position_cons (same name) x xs ∙ ap (λ t. cond t (Some 0) (option_map suc (position (same name) xs))) e ∙ ap (option_map suc) h.1, h.2)
    ]

-- each name once: all differ, and each is one of the names
pub unique_each : (P : List ℕ → Type 0) (xs : List (List ℕ)) → AllByRecursion P xs → AllByRecursion P (unique_keys same xs)
unique_each P [] h = tt
unique_each P (x ∷ xs) h = by (unique_each P xs h.1) (list_any (same x) xs)
  where
    by : AllByRecursion P (unique_keys same xs) → (t : Bool) → AllByRecursion P (cond t (unique_keys same xs) (x ∷ unique_keys same xs))
    by rest true = rest
    by rest false = (h.0, rest)

pub unique_apart : (xs : List (List ℕ)) → Apart (unique_keys same xs)
unique_apart [] = tt
unique_apart (x ∷ xs) = by (unique_apart xs) (list_any (same x) xs) refl
  where
    other : list_any (same x) xs ≡ false → AllByRecursion (λ y. x ≢ y) (unique_keys same xs)
    other e = unique_each (λ y. x ≢ y) xs (AllByRecursion-weaker (Contains xs) (λ y. x ≢ y)
        (λ y c d. true≢false (sym (list_any-from_Any (same x) xs (c.0, y, c.1, c.2, ap (same x) (sym d) ∙ nat_list_eq_equiv.refl x)) ∙ e)) xs (each_itself xs))

    by : Apart (unique_keys same xs) → (t : Bool) → list_any (same x) xs ≡ t → Apart (cond t (unique_keys same xs) (x ∷ unique_keys same xs))
    by rest true e = rest
    by rest false e = (other e, rest)
