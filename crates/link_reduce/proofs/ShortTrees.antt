-- A tree of given links has no more of them than there are.
use Rattle.std.specs.Prelude.{Contains, Some, slice_get, ◌⊎◌}
use Rattle.std.proofs.Common.{List, ap, arith, eqb-true, false, get_or, inl, inr, length, refl, suc, sym, zero, ℕ, ◌++◌, ◌+◌, ◌<◌}
use Rattle.std.proofs.Common.{◌∙◌, ◌≡◌, ◌≤◌}
use Rattle.std.proofs.Math.Dec.{eqb}
use Rattle.std.proofs.lemmas.Bool.{ne_eqb}
use Rattle.std.proofs.lemmas.Map.Keys.{IsDistinct-from_apart}
use Rattle.std.proofs.lemmas.Map.Steps.{length-le_from_distinct_below}
use Rattle.std.proofs.lemmas.Map.Views.{Contains-from_any}
use Rattle.std.proofs.lemmas.Option.{slice_get-get_or, slice_get_within}
use Rattle.dom_base.proofs.Lists.{slice_get-contained}
use Rattle.sp_network.specs.Tree.{Leaf, Parallel, Series, Tree}
use Rattle.sp_reduction.specs.Networks.{Apart, Between, Has, Link}
use Rattle.sp_reduction.proofs.Lists.{in_append}
use Rattle.link_reduce.specs.Parts.{IsOnce, links_of, numbers_of}
use Rattle.link_reduce.specs.declared.part.Ends.{Ends}
use Rattle.link_reduce.proofs.Begun.{given_links}

-- a list in which no number stands twice is no longer than what bounds its numbers
pub once_short : (numbers : List ℕ) (bound : ℕ) → IsOnce numbers → ((i n : ℕ) → slice_get numbers i ≡ Some n → n < bound)
    → length numbers ≤ bound
once_short numbers bound once low =
    length-le_from_distinct_below numbers bound (IsDistinct-from_apart eqb numbers apart)
    (λ q e. let y = slice_get-contained numbers q (Contains-from_any (λ x y. eqb-true x y) q numbers e) in low y.0 q y.1)
  where
    apart : (i j d : ℕ) → i < j → j < length numbers → eqb (get_or numbers i d) (get_or numbers j d) ≡ false
    apart i j d lt within = ne_eqb (get_or numbers i d) (get_or numbers j d) (λ z.
        let a = slice_get-get_or numbers i d (omega (arith, lt, within)) in
        let b = slice_get-get_or numbers j d within in
        let e = once i j (get_or numbers j d) (a ∙ ap Some z) b in
        omega (arith, e, lt))

-- two lists that share no number
once_append : (xs ys : List ℕ) → IsOnce xs → IsOnce ys → ((i j n : ℕ) → slice_get xs i ≡ Some n → slice_get ys j ≡ Some n → ⊥)
    → IsOnce (xs ++ ys)
once_append xs ys one other apart = λ j k n p q. by j k n (in_append xs ys j n p) (in_append xs ys k n q)
  where
    by : (j k n : ℕ) → ((j < length xs) × (slice_get xs j ≡ Some n)) ⊎ ((i : ℕ) × (j ≡ length xs + i) × (slice_get ys i ≡ Some n))
        → ((k < length xs) × (slice_get xs k ≡ Some n)) ⊎ ((i : ℕ) × (k ≡ length xs + i) × (slice_get ys i ≡ Some n)) → j ≡ k
    by j k n (inl y) (inl z) = one j k n y.1 z.1
    by j k n (inr y) (inr z) = let e = other y.0 z.0 n y.2 z.2 in omega (arith, e, y.1, z.1)
    by j k n (inl y) (inr z) = absurd (apart j z.0 n y.1 z.2)
    by j k n (inr y) (inl z) = absurd (apart k y.0 n z.1 y.2)

-- a number that a tree spells is that of a link
number_of : (t : Tree Link) (i n : ℕ) → slice_get (numbers_of t) i ≡ Some n → (e : Link) × Has t e × (e.number ≡ n)
number_of (Leaf e) zero n at = let z : e.number ≡ n = cc in (e, refl, z)
number_of (Leaf e) (suc i) n at = absurd cc
number_of (Series l r) i n at = elim (in_append (numbers_of l) (numbers_of r) i n at) [
  | inl y ↦ let z = number_of l i n y.1 in (z.0, inl z.1, z.2)
  | inr y ↦ let z = number_of r y.0 n y.2 in (z.0, inr z.1, z.2)
]
number_of (Parallel l r) i n at = elim (in_append (numbers_of l) (numbers_of r) i n at) [
  | inl y ↦ let z = number_of l i n y.1 in (z.0, inl z.1, z.2)
  | inr y ↦ let z = number_of r y.0 n y.2 in (z.0, inr z.1, z.2)
]

numbers_apart : (l r : Tree Link) → Apart l r → (i j n : ℕ) → slice_get (numbers_of l) i ≡ Some n → slice_get (numbers_of r) j ≡ Some n → ⊥
numbers_apart l r apart i j n p q =
    let y = number_of l i n p in let z = number_of r j n q in apart y.0 z.0 y.1 z.1 (y.2 ∙ sym z.2)

-- no link stands twice in a tree
numbers_once : (t : Tree Link) (a b : ℕ) → Between t a b → IsOnce (numbers_of t)
numbers_once (Leaf e) a b h = λ j k n p q. by j k n p q
  where
    by : (j k n : ℕ) → slice_get (numbers_of (Leaf e)) j ≡ Some n → slice_get (numbers_of (Leaf e)) k ≡ Some n → j ≡ k
    by zero zero n p q = refl
    by zero (suc k) n p q = absurd cc
    by (suc j) k n p q = absurd cc
numbers_once (Series l r) a b (m, p, q, s, k) =
    once_append (numbers_of l) (numbers_of r) (numbers_once l a m p) (numbers_once r m b q) (numbers_apart l r k)
numbers_once (Parallel l r) a b (p, q, s, k) =
    once_append (numbers_of l) (numbers_of r) (numbers_once l a b p) (numbers_once r a b q) (numbers_apart l r k)

-- the numbers that a tree of given links spells are theirs
pub number_low : (ends : List Ends) (t : Tree Link) → ((e : Link) → Has t e → Contains (links_of ends) e) → (i n : ℕ) → slice_get (numbers_of t) i ≡ Some n → n < length ends
number_low ends t from i n at =
    let y = number_of t i n at in
    let z = given_links 0 ends y.0 (from y.0 y.1) in
    let lt = slice_get_within ends z.0 z.1 z.2 in
    omega (arith, lt, y.2, ap (λ (e : Link). e.number) z.3)

pub tree_short : (ends : List Ends) (t : Tree Link) (a b : ℕ) → Between t a b → ((e : Link) → Has t e → Contains (links_of ends) e)
    → length (numbers_of t) ≤ length ends
tree_short ends t a b h from = once_short (numbers_of t) (length ends) (numbers_once t a b h) (number_low ends t from)
