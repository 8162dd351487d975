-- Checks of lists of numbers: that all have a property, that none stands twice, that the devices at nets are among some places.
use Rattle.std.specs.List.{AllByRecursion}
use Rattle.std.specs.Prelude.{Contains, Some, slice_get, ◌≢◌}
use Rattle.std.proofs.Common.{List, [], ap, arith, inl, inr, length, refl, suc, sym, take, zero, ℕ, ◌+◌, ◌<◌, ◌∙◌, ◌∷◌, ◌≡◌, ◌≤◌}
use Rattle.std.proofs.lemmas.Option.{same_Some, slice_get_within}
use Rattle.dom_base.proofs.Decided.{lt_or_ge}
use Rattle.dom_base.proofs.Lists.{AllByRecursion-contains, Contains-slice_get, slice_get-contained}
use Rattle.deck.specs.declared.device.Device.{Device}
use Rattle.circuit_law.specs.Counts.{Distinct}
use Rattle.deck_audit.proofs.Lists.{all_from, distinct_at}
use Rattle.audit_deck.specs.Indexes.{AreThose, EndingAt, GatedBy}
use Rattle.audit_deck.specs.Latches.{Covers, GatesNone, HasFew}
use Rattle.audit_deck.specs.Scans.{AllBefore}
use Rattle.audit_deck.proofs.Scans.{all_have}
use Rattle.audit_deck.proofs.ShortLists.{no_longer}

pub all_before : (P : ℕ → Type 0) (xs : List ℕ) (i : ℕ) → length xs ≤ i → AllBefore P xs i → AllByRecursion P xs
all_before P xs i done h = all_from P xs (λ j x e. all_have P xs i done h j x e)

pub not_all : (P : ℕ → Type 0) (xs : List ℕ) (i x : ℕ) → slice_get xs i ≡ Some x → (P x → ⊥) → AllByRecursion P xs → ⊥
not_all P xs i x at none h = none (AllByRecursion-contains P xs x h (Contains-slice_get xs i x at))

pub distinct_from : (xs : List ℕ) → ((i j x : ℕ) → slice_get xs i ≡ Some x → slice_get xs j ≡ Some x → i ≡ j) → Distinct xs
distinct_from [] h = tt
distinct_from (x ∷ xs) h = (
  all_from (λ m. m ≢ x) xs (λ i m e z. let w = h (suc i) 0 x (e ∙ ap Some z) refl in omega (arith, w)),
  distinct_from xs (λ i j y e f. let w = h (suc i) (suc j) y e f in omega (arith, w)),
)

-- what stands in the first elements stands in the list
taken : (xs : List ℕ) (n i x : ℕ) → slice_get (take n xs) i ≡ Some x → (i < n) × (slice_get xs i ≡ Some x)
taken [] zero i x e = absurd (cc)
taken [] (suc n) i x e = absurd (cc)
taken (y ∷ xs) zero i x e = absurd (cc)
taken (y ∷ xs) (suc n) zero x e = (omega arith, e)
taken (y ∷ xs) (suc n) (suc i) x e = let z = taken xs n i x e in (omega (arith, z.0), z.1)

to_take : (xs : List ℕ) (n i x : ℕ) → i < n → slice_get xs i ≡ Some x → slice_get (take n xs) i ≡ Some x
to_take xs zero i x lt e = absurd (omega (arith, lt))
to_take [] (suc n) i x lt e = absurd (cc)
to_take (y ∷ xs) (suc n) zero x lt e = e
to_take (y ∷ xs) (suc n) (suc i) x lt e = to_take xs n i x (omega (arith, lt)) e

-- among the first numbers none stands twice
abbrev pub NoTwins : List ℕ → ℕ → Type 0
NoTwins xs n = (i j x : ℕ) → i < j → j < n → slice_get xs i ≡ Some x → slice_get xs j ≡ Some x → ⊥

pub twins_more : (xs : List ℕ) (n x : ℕ) → slice_get xs n ≡ Some x → (Contains (take n xs) x → ⊥) → NoTwins xs n → NoTwins xs (n + 1)
twins_more xs n x at none h i j y lt low e f = elim (lt_or_ge j n) [
  | inl z ↦ h i j y lt z e f
  | inr z ↦
      let s : j ≡ n = omega (arith, z, low) in
      let v : y ≡ x = same_Some _ _ (sym f ∙ ap (slice_get xs) s ∙ at) in
      none (Contains-slice_get (take n xs) i x (to_take xs n i x (omega (arith, lt, s)) (e ∙ ap Some v)))
]

pub no_twins : (xs : List ℕ) (n : ℕ) → length xs ≤ n → NoTwins xs n → Distinct xs
no_twins xs n done h = distinct_from xs (λ i j x e f. same i j x e f)
  where
    low : (j x : ℕ) → slice_get xs j ≡ Some x → j < n
    low j x e = let z = slice_get_within xs j x e in omega (arith, z, done)

    same : (i j x : ℕ) → slice_get xs i ≡ Some x → slice_get xs j ≡ Some x → i ≡ j
    same i j x e f = elim (lt_or_ge i j) [
      | inl z ↦ absurd (h i j x z (low j x f) e f)
      | inr z ↦ elim (lt_or_ge j i) [ inl y ↦ absurd (h j i x y (low i x e) f e) | inr y ↦ omega (arith, y, z) ]
    ]

pub twin_found : (xs : List ℕ) (n x : ℕ) → slice_get xs n ≡ Some x → Contains (take n xs) x → Distinct xs → ⊥
twin_found xs n x at c d =
    let i = slice_get-contained (take n xs) x c in
    let z = taken xs n i.0 x i.1 in
    let e = distinct_at xs d i.0 n x z.1 at in omega (arith, e, z.0)

module _ (ds : List Device) (n : ℕ) (l : List ℕ) where
  pub covered : AreThose (EndingAt ds n) l → (places : List ℕ) → ((i p : ℕ) → slice_get l i ≡ Some p → Contains places p) → Covers ds places n
  covered are places h p d at t = let y = are.full p (d, at, t) in h y.0 p y.1

  pub covers_all : AreThose (EndingAt ds n) l → (places : List ℕ) → Covers ds places n → (i p : ℕ) → slice_get l i ≡ Some p → Contains places p
  covers_all are places h i p e = let y = are.sound i p e in h p y.0 y.1 y.2

  pub few_short : AreThose (EndingAt ds n) l → HasFew ds n → length l ≤ 9
  few_short are few =
      let short = no_longer l few.0 are.once (λ i p e. covers_all are few.0 few.2 i p e) in omega (arith, short, few.1)

  pub gates_none : AreThose (GatedBy ds n) l → length l ≡ 0 → GatesNone ds n
  gates_none are e p d at g = let y = are.full p (d, at, g) in let z = slice_get_within l y.0 p y.1 in omega (arith, z, e)

  pub gates_some : AreThose (GatedBy ds n) l → (length l ≡ 0 → ⊥) → GatesNone ds n → ⊥
  gates_some are some none = by l are some
    where
      by : (l : List ℕ) → AreThose (GatedBy ds n) l → (length l ≡ 0 → ⊥) → ⊥
      by [] are some = some refl
      by (p ∷ l) are some = let y = are.sound 0 p refl in none p y.0 y.1 y.2
