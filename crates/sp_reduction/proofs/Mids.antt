-- The nets that parts in series share are touched, are none of the two ends, and differ.
use Rattle.std.specs.Prelude.{Some, slice_get, ◌≢◌, ◌⊎◌}
use Rattle.std.proofs.Common.{ap, inl, inr, length, refl, suc, sym, zero, ℕ, ◌++◌, ◌+◌, ◌∙◌, ◌≡◌}
use Rattle.std.proofs.lemmas.Option.{same_Some}
use Rattle.sp_network.specs.Tree.{Leaf, Parallel, Series, Tree}
use Rattle.sp_reduction.specs.Networks.{Between, Has, Link, Touches, mids}
use Rattle.sp_reduction.proofs.Lists.{in_append}
use Rattle.sp_reduction.proofs.Facts.{bottom_touched, ends_differ, top_touched}

touch_left : (l r : Tree Link) (x : ℕ) → Touches l x → (e : Link) × (Has l e ⊎ Has r e) × ((e.from ≡ x) ⊎ (e.to ≡ x))
touch_left l r x t = (t.0, inl t.1, t.2)

touch_right : (l r : Tree Link) (x : ℕ) → Touches r x → (e : Link) × (Has l e ⊎ Has r e) × ((e.from ≡ x) ⊎ (e.to ≡ x))
touch_right l r x t = (t.0, inr t.1, t.2)

pub mid_is : (t : Tree Link) (a b : ℕ) (h : Between t a b) (i x : ℕ) → slice_get (mids t a b h) i ≡ Some x → Touches t x × (x ≢ a) × (x ≢ b)
mid_is (Leaf e) a b h i x z = absurd (cc)
mid_is (Series l r) a b (m, p, q, s, k) zero x z =
    let same : m ≡ x = same_Some _ _ z in
    (rw (← same) (touch_left l r m (bottom_touched l a m p)), (λ w. ends_differ l a m p (sym (same ∙ w))), (λ w. ends_differ r m b q (same ∙ w)))
mid_is (Series l r) a b (m, p, q, s, k) (suc i) x z =
    elim (in_append (mids l a m p) (mids r m b q) i x z) [
      | inl y ↦
          let u = mid_is l a m p i x y.1 in
          (touch_left l r x u.0, u.1, (λ w. u.2 (s x u.0 (rw w (bottom_touched r m b q)))))
      | inr y ↦
          let u = mid_is r m b q y.0 x y.2 in
          (touch_right l r x u.0, (λ w. u.1 (s x (rw w (top_touched l a m p)) u.0)), u.2)
    ]
mid_is (Parallel l r) a b (p, q, s, k) i x z =
    elim (in_append (mids l a b p) (mids r a b q) i x z) [
      | inl y ↦ let u = mid_is l a b p i x y.1 in (touch_left l r x u.0, u.1, u.2)
      | inr y ↦ let u = mid_is r a b q y.0 x y.2 in (touch_right l r x u.0, u.1, u.2)
    ]

-- no later mid is the first one
not_mid : (l r : Tree Link) (a b m : ℕ) (p : Between l a m) (q : Between r m b) → ((x : ℕ) → Touches l x → Touches r x → x ≡ m) → (j x : ℕ)
    → slice_get (mids l a m p ++ mids r m b q) j ≡ Some x → x ≡ m → ⊥
not_mid l r a b m p q s j x w z =
    elim (in_append (mids l a m p) (mids r m b q) j x w) [
      | inl y ↦ (mid_is l a m p j x y.1).2 z
      | inr y ↦ (mid_is r m b q y.0 x y.2).1 z
    ]

pub mids_differ : (t : Tree Link) (a b : ℕ) (h : Between t a b) (i j x : ℕ) → slice_get (mids t a b h) i ≡ Some x → slice_get (mids t a b h) j ≡ Some x → i ≡ j
mids_differ (Leaf e) a b h i j x z w = absurd (cc)
mids_differ (Series l r) a b (m, p, q, s, k) zero zero x z w = refl
mids_differ (Series l r) a b (m, p, q, s, k) zero (suc j) x z w = absurd (not_mid l r a b m p q s j x w (sym (same_Some _ _ z)))
mids_differ (Series l r) a b (m, p, q, s, k) (suc i) zero x z w = absurd (not_mid l r a b m p q s i x z (sym (same_Some _ _ w)))
mids_differ (Series l r) a b (m, p, q, s, k) (suc i) (suc j) x z w =
    elim (in_append (mids l a m p) (mids r m b q) i x z) [
      | inl y ↦ elim (in_append (mids l a m p) (mids r m b q) j x w) [
        | inl v ↦ ap (λ n. suc n) (mids_differ l a m p i j x y.1 v.1)
        | inr v ↦ absurd ((mid_is l a m p i x y.1).2 (s x (mid_is l a m p i x y.1).0 (mid_is r m b q v.0 x v.2).0))
      ]
      | inr y ↦ elim (in_append (mids l a m p) (mids r m b q) j x w) [
        | inl v ↦ absurd ((mid_is l a m p j x v.1).2 (s x (mid_is l a m p j x v.1).0 (mid_is r m b q y.0 x y.2).0))
        | inr v ↦ ap (λ n. suc n) (y.1 ∙ ap (λ n. length (mids l a m p) + n) (mids_differ r m b q y.0 v.0 x y.2 v.2) ∙ sym v.1)
      ]
    ]
mids_differ (Parallel l r) a b (p, q, s, k) i j x z w =
    elim (in_append (mids l a b p) (mids r a b q) i x z) [
      | inl y ↦ elim (in_append (mids l a b p) (mids r a b q) j x w) [
        | inl v ↦ mids_differ l a b p i j x y.1 v.1
        | inr v ↦ absurd (cross (mid_is l a b p i x y.1) (mid_is r a b q v.0 x v.2))
      ]
      | inr y ↦ elim (in_append (mids l a b p) (mids r a b q) j x w) [
        | inl v ↦ absurd (cross (mid_is l a b p j x v.1) (mid_is r a b q y.0 x y.2))
        | inr v ↦ y.1 ∙ ap (λ n. length (mids l a b p) + n) (mids_differ r a b q y.0 v.0 x y.2 v.2) ∙ sym v.1
      ]
    ]
  where
    cross : Touches l x × (x ≢ a) × (x ≢ b) → Touches r x × (x ≢ a) × (x ≢ b) → ⊥
    cross u v = elim (s x u.0 v.0) [ inl z ↦ u.1 z | inr z ↦ u.2 z ]
