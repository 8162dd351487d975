-- Lists split at an element, and the first element of which something holds, by what stands before it.
use Rattle.std.proofs.Common.{◌≡◌, ℕ, zero, suc, ◌<◌, List, [], ◌∷◌, ◌++◌, append_assoc, drop, length, take, Option, Some, None, refl, ap, sym, ◌∙◌, subst, arith}
use Rattle.std.specs.Prelude.{slice_get}
use Rattle.std.specs.List.{AllByRecursion, cons_option, filter_map, flat_map}
use Rattle.dom_base.proofs.Lists.{AllByRecursion-contains, Contains-slice_get}
use Rattle.model_calls.specs.First.{IsFirst}
use Rattle.network.proofs.IndexedLists.{split_at}

module _ {X : Type 0} where
  get_seam : (before after : List X) (x : X) → slice_get (before ++ x ∷ after) (length before) ≡ Some x
  get_seam [] after x = refl
  get_seam (y ∷ before) after x = get_seam before after x

  get_before : (before after : List X) (k : ℕ) (x : X) → k < length before → slice_get (before ++ after) k ≡ Some x → slice_get before k ≡ Some x
  get_before [] after k x l e = absurd (omega (arith, l))
  get_before (y ∷ before) after zero x l e = e
  get_before (y ∷ before) after (suc k) x l e = get_before before after k x (omega (arith, l)) e

  take_seam : (before after : List X) → take (length before) (before ++ after) ≡ before
  take_seam [] after = refl
  take_seam (y ∷ before) after = ap (λ l. y ∷ l) (take_seam before after)

  take_before : (before after : List X) (k : ℕ) → k < length before → take k (before ++ after) ≡ take k before
  take_before [] after k l = absurd (omega (arith, l))
  take_before (y ∷ before) after zero l = refl
  take_before (y ∷ before) after (suc k) l = ap (λ r. y ∷ r) (take_before before after k (omega (arith, l)))

  module _ (Holds : List X → X → Type 0) (all before after : List X) (x : X) (split : all ≡ before ++ x ∷ after) where
    -- the element behind a front of a list is the first of which this holds, if it holds of none of that front
    pub first_behind : Holds before x → ((k : ℕ) (y : X) → slice_get before k ≡ Some y → Holds (take k before) y → ⊥) → IsFirst Holds all x
    first_behind holds none = subst (λ l. IsFirst Holds l x) (sym split) (record {
      index = length before;
      there = get_seam before after x;
      holds = subst (λ l. Holds l x) (sym (take_seam before (x ∷ after))) holds;
      none_before = λ k other l at h. none k other (get_before before (x ∷ after) k other l at) (subst (λ r. Holds r other) (take_before before (x ∷ after) k l) h);
    })

  -- and so where it is a fact of the element alone
  pub first_by_itself : (P : X → Type 0) (all before after : List X) (x : X) → all ≡ before ++ x ∷ after → P x → AllByRecursion (λ y. P y → ⊥) before → IsFirst (λ _ y. P y) all x
  first_by_itself P all before after x split holds none =
      first_behind (λ _ y. P y) all before after x split holds (λ k y at h. AllByRecursion-contains (λ z. P z → ⊥) before y none (Contains-slice_get before k y at) h)

module _ {X Y : Type 0} where
  -- what stands in a list of lists, with all that stands before it
  pub flat_split : (g : X → List Y) (xs : List X) (k : ℕ) (x : X) (j : ℕ) (y : Y) → slice_get xs k ≡ Some x → slice_get (g x) j ≡ Some y
      → (after : List Y) × (flat_map g xs ≡ (flat_map g (take k xs) ++ take j (g x)) ++ y ∷ after)
  flat_split g [] k x j y at there = absurd cc
  flat_split g (z ∷ zs) zero x j y at there =
      let i : z ≡ x = cc in
      (drop (suc j) (g x) ++ flat_map g zs, ap (λ w. g w ++ flat_map g zs) i ∙ ap (λ l. l ++ flat_map g zs) (split_at (g x) j y there) ∙ append_assoc (take j (g x)) (y ∷ drop (suc j) (g x)) (flat_map g zs))
  flat_split g (z ∷ zs) (suc k) x j y at there =
      let r = flat_split g zs k x j y at there in
      (r.0, ap (λ l. g z ++ l) r.1 ∙ sym (append_assoc (g z) (flat_map g (take k zs) ++ take j (g x)) (y ∷ r.0)) ∙ ap (λ l. l ++ y ∷ r.0) (sym (append_assoc (g z) (flat_map g (take k zs)) (take j (g x)))))

  -- what is kept of a list, with all that is kept before it
  pub kept_split : (g : X → Option Y) (xs : List X) (k : ℕ) (x : X) (y : Y) → slice_get xs k ≡ Some x → g x ≡ Some y
      → (after : List Y) × (filter_map g xs ≡ filter_map g (take k xs) ++ y ∷ after)
  kept_split g [] k x y at is = absurd cc
  kept_split g (z ∷ zs) zero x y at is = let i : z ≡ x = cc in (filter_map g zs, ap (λ o. cons_option o (filter_map g zs)) (ap g i ∙ is))
  kept_split g (z ∷ zs) (suc k) x y at is = let r = kept_split g zs k x y at is in by (g z) r
    where
      by : (o : Option Y) → (after : List Y) × (filter_map g zs ≡ filter_map g (take k zs) ++ y ∷ after)
          → (after : List Y) × (cons_option o (filter_map g zs) ≡ cons_option o (filter_map g (take k zs)) ++ y ∷ after)
      by None r = r
      by (Some w) r = (r.0, ap (λ l. w ∷ l) r.1)

  -- what is kept comes of an element
  pub kept_from : (g : X → Option Y) (xs : List X) (y : Y) (j : ℕ) → slice_get (filter_map g xs) j ≡ Some y → (k : ℕ) × (x : X) × (slice_get xs k ≡ Some x) × (g x ≡ Some y)
  kept_from g [] y j at = absurd cc
  kept_from g (x ∷ xs) y j at = by (kept_from g xs y) (g x) refl j at
    where
      by : ((i : ℕ) → slice_get (filter_map g xs) i ≡ Some y → (k : ℕ) × (w : X) × (slice_get xs k ≡ Some w) × (g w ≡ Some y))
          → (o : Option Y) → g x ≡ o → (i : ℕ) → slice_get (cons_option o (filter_map g xs)) i ≡ Some y → (k : ℕ) × (w : X) × (slice_get (x ∷ xs) k ≡ Some w) × (g w ≡ Some y)
      by deeper None e i at = let r = deeper i at in (suc r.0, r.1, r.2, r.3)
      by deeper (Some w) e zero at = (0, x, refl, e ∙ at)
      by deeper (Some w) e (suc i) at = let r = deeper i at in (suc r.0, r.1, r.2, r.3)
