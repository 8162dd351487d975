-- Lists of numbered blocks, one for each element of a list, and where a block stands.
use Rattle.std.specs.List.{AllByRecursion}
use Rattle.std.specs.Prelude.{Some, slice_get, ◌≢◌}
use Rattle.std.proofs.Common.{List, [], add-zero, arith, refl, subst, suc, zero, ℕ, ◌++◌, ◌+◌, ◌<◌, ◌∷◌, ◌≡◌}
use Rattle.std.proofs.lemmas.Option.{same_Some}
use Rattle.dom_base.proofs.Lists.{AllByRecursion-append, AllByRecursion-weaker}
use Rattle.deck_audit.proofs.Offsets.{Offset, offset_behind, offset_front, offset_whole}

-- the blocks of the elements, numbered from o on
abbrev pub blocks : {X Card : Type 0} → (ℕ → X → List Card) → ℕ → List X → List Card
blocks block o [] = []
blocks block o (x ∷ xs) = block o x ++ blocks block (o + 1) xs

-- what holds in each block holds in all
pub blocks_all : {X Card : Type 0} (block : ℕ → X → List Card) (P : Card → Type 0) (o : ℕ) (xs : List X)
    → ((m : ℕ) (x : X) → slice_get xs m ≡ Some x → AllByRecursion P (block (o + m) x)) → AllByRecursion P (blocks block o xs)
blocks_all block P o [] h = tt
blocks_all block P o (x ∷ xs) h =
    AllByRecursion-append P (block o x) (blocks block (o + 1) xs) (rw add-zero at (h 0 x refl))
    (blocks_all block P (o + 1) xs (λ m y e. subst (λ k. AllByRecursion P (block k y)) (shift o m) (h (suc m) y e)))
  where
    shift : (o m : ℕ) → o + suc m ≡ o + 1 + m
    shift o m = omega arith

module _ {X Card : Type 0} (block : ℕ → X → List Card) (Of : ℕ → Card → Type 0) (own : (k : ℕ) (x : X) → AllByRecursion (Of k) (block k x))
    (one : (k j : ℕ) (c : Card) → Of k c → Of j c → k ≡ j) where
  other : (k j : ℕ) (x : X) → k ≢ j → AllByRecursion (λ c. Of k c → ⊥) (block j x)
  other k j x n = AllByRecursion-weaker (Of j) (λ c. Of k c → ⊥) (λ c h z. n (one k j c z h)) (block j x) (own j x)

  no_later : (k j : ℕ) (xs : List X) → k < j → AllByRecursion (λ c. Of k c → ⊥) (blocks block j xs)
  no_later k j [] lt = tt
  no_later k j (x ∷ xs) lt = AllByRecursion-append (λ c. Of k c → ⊥) (block j x) (blocks block (j + 1) xs) (other k j x (λ e. omega (arith, e, lt))) (no_later k (j + 1) xs (omega (arith, lt)))

  among : (o : ℕ) (xs : List X) (m : ℕ) (x : X) → slice_get xs m ≡ Some x → Offset (Of (o + m)) (blocks block o xs) (block (o + m) x)
  among o [] m x e = absurd (cc)
  among o (y ∷ xs) zero x e =
      subst (λ k. Offset (Of k) (block o y ++ blocks block (o + 1) xs) (block k x)) (plus o)
      (subst (λ z. Offset (Of o) (block o y ++ blocks block (o + 1) xs) (block o z)) (same_Some _ _ e)
      (offset_front (Of o) (block o y) (blocks block (o + 1) xs) (block o y) (offset_whole (Of o) (block o y)) (no_later o (o + 1) xs (omega arith))))
    where
      plus : (o : ℕ) → o ≡ o + 0
      plus o = omega arith
  among o (y ∷ xs) (suc m) x e =
      offset_behind (Of (o + suc m)) (block o y) (blocks block (o + 1) xs) (block (o + suc m) x) (other (o + suc m) o y (λ z. omega (arith, z)))
      (subst (λ k. Offset (Of k) (blocks block (o + 1) xs) (block k x)) (shift o m) (among (o + 1) xs m x e))
    where
      shift : (o m : ℕ) → o + 1 + m ≡ o + suc m
      shift o m = omega arith

  pub block_offset : (xs : List X) (k : ℕ) (x : X) → slice_get xs k ≡ Some x → Offset (Of k) (blocks block 0 xs) (block k x)
  block_offset xs k x e = subst (λ j. Offset (Of j) (blocks block 0 xs) (block j x)) (plus k) (among 0 xs k x e)
    where
      plus : (k : ℕ) → 0 + k ≡ k
      plus k = omega arith
