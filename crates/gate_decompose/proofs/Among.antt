-- Items among a list, as `map`, `flat_map`, `filter_map` and `++` make it.
use Rattle.std.proofs.Common.{◌≡◌, ◌⊎◌, inl, inr, refl, ℕ, zero, suc, ◌+◌, ◌≤◌, ◌<◌, List, [], ◌∷◌, ◌++◌, map, flat_map, filter_map, Option, Some, None, Contains, slice_get, arith, subst, sym}
use Rattle.std.specs.List.{range_with_len, cons_option}
use Rattle.std.proofs.lemmas.Bool.{cases_eq}
use Rattle.gate_decompose.specs.Items.{Among}

pub among_left : {X : Type 0} (x : X) (xs ys : List X) → Among x xs → Among x (xs ++ ys)
among_left x [] ys at = elim at [ ]
among_left x (y ∷ xs) ys (inl e) = inl e
among_left x (y ∷ xs) ys (inr at) = inr (among_left x xs ys at)

pub among_right : {X : Type 0} (x : X) (xs ys : List X) → Among x ys → Among x (xs ++ ys)
among_right x [] ys at = at
among_right x (y ∷ xs) ys at = inr (among_right x xs ys at)

pub among_either : {X : Type 0} (x : X) (xs ys : List X) → Among x (xs ++ ys) → Among x xs ⊎ Among x ys
among_either x [] ys at = inr at
among_either x (y ∷ xs) ys (inl e) = inl (inl e)
among_either x (y ∷ xs) ys (inr at) = elim (among_either x xs ys at) [ inl a ↦ inl (inr a) | inr a ↦ inr a ]

pub among_map : {X Y : Type 0} (f : X → Y) (x : X) (xs : List X) → Among x xs → Among (f x) (map f xs)
among_map f x [] at = elim at [ ]
among_map f x (y ∷ xs) (inl e) = inl (λ i. f (e i))
among_map f x (y ∷ xs) (inr at) = inr (among_map f x xs at)

pub among_mapped : {X Y : Type 0} (f : X → Y) (y : Y) (xs : List X) → Among y (map f xs) → (x : X) × Among x xs × (f x ≡ y)
among_mapped f y [] at = elim at [ ]
among_mapped f y (x ∷ xs) (inl e) = (x, inl refl, e)
among_mapped f y (x ∷ xs) (inr at) = let r = among_mapped f y xs at in (r.0, inr r.1, r.2)

pub among_flat : {X Y : Type 0} (f : X → List Y) (x : X) (y : Y) (xs : List X) → Among x xs → Among y (f x) → Among y (flat_map f xs)
among_flat f x y [] at h = elim at [ ]
among_flat f x y (z ∷ xs) (inl e) h = among_left y (f z) (flat_map f xs) (subst (λ u. Among y (f u)) (sym e) h)
among_flat f x y (z ∷ xs) (inr at) h = among_right y (f z) (flat_map f xs) (among_flat f x y xs at h)

pub among_flattened : {X Y : Type 0} (f : X → List Y) (y : Y) (xs : List X) → Among y (flat_map f xs) → (x : X) × Among x xs × Among y (f x)
among_flattened f y [] at = elim at [ ]
among_flattened f y (x ∷ xs) at =
    elim (among_either y (f x) (flat_map f xs) at) [
      | inl a ↦ (x, inl refl, a)
      | inr a ↦ let r = among_flattened f y xs a in (r.0, inr r.1, r.2)
    ]

pub among_filter_map : {X Y : Type 0} (f : X → Option Y) (x : X) (y : Y) (xs : List X) → Among x xs → f x ≡ Some y → Among y (filter_map f xs)
among_filter_map f x y [] at h = elim at [ ]
among_filter_map f x y (z ∷ xs) (inl e) h = rw (e, h) (inl refl)
among_filter_map {X} {Y} f x y (z ∷ xs) (inr at) h = later (f z) (among_filter_map f x y xs at h)
  where
    later : (o : Option Y) → Among y (filter_map f xs) → Among y (cons_option o (filter_map f xs))
    later None r = r
    later (Some u) r = inr r

pub among_filtered : {X Y : Type 0} (f : X → Option Y) (y : Y) (xs : List X) → Among y (filter_map f xs) → (x : X) × Among x xs × (f x ≡ Some y)
among_filtered f y [] at = elim at [ ]
among_filtered {X} {Y} f y (z ∷ xs) at = by (f z) refl (λ h. among_filtered f y xs h) at
  where
    by : (o : Option Y) → f z ≡ o → (Among y (filter_map f xs) → (x : X) × Among x xs × (f x ≡ Some y)) → Among y (cons_option o (filter_map f xs)) → (x : X) × Among x (z ∷ xs) × (f x ≡ Some y)
    by None e more h = let r = more h in (r.0, inr r.1, r.2)
    by (Some u) e more (inl same) = (z, inl refl, rw e (λ i. Some (same i)))
    by (Some u) e more (inr h) = let r = more h in (r.0, inr r.1, r.2)

pub among_range : (i a n : ℕ) → a ≤ i → i < a + n → Among i (range_with_len a n)
among_range i a zero low high = absurd (omega arith)
among_range i a (suc n) low high =
    elim (cases_eq i a) [
      | inl e ↦ inl (sym e)
      | inr other ↦ inr (among_range i (a + 1) n (omega arith) (omega arith))
    ]

pub among_ranged : (i a n : ℕ) → Among i (range_with_len a n) → (a ≤ i) × (i < a + n)
among_ranged i a zero at = elim at [ ]
among_ranged i a (suc n) (inl e) = (omega arith, omega arith)
among_ranged i a (suc n) (inr at) = let r = among_ranged i (a + 1) n at in (omega (arith, r.0), omega (arith, r.1))

pub contains-among : {X : Type 0} (xs : List X) (x : X) → Contains xs x → Among x xs
contains-among [] x (k, lt, e) = absurd (omega arith)
contains-among (y ∷ xs) x (zero, lt, e) = inl e
contains-among (y ∷ xs) x (suc k, lt, e) = inr (contains-among xs x (k, omega arith, e))

pub among-contains : {X : Type 0} (xs : List X) (x : X) → Among x xs → Contains xs x
among-contains [] x at = absurd at
among-contains (y ∷ xs) x (inl e) = (0, omega arith, e)
among-contains (y ∷ xs) x (inr at) = let r = among-contains xs x at in (suc r.0, omega (arith, r.1), r.2)

pub among_place : {X : Type 0} (x : X) (xs : List X) → Among x xs → (k : ℕ) × (slice_get xs k ≡ Some x)
among_place x [] at = absurd at
among_place x (y ∷ xs) (inl e) = (0, λ i. Some (e i))
among_place x (y ∷ xs) (inr at) = let r = among_place x xs at in (suc r.0, r.1)
