-- Where a block of a list stands: at an offset, with all elements of a sort.
use Rattle.std.specs.List.{AllByRecursion}
use Rattle.std.specs.Prelude.{Some, slice_get}
use Rattle.std.proofs.Common.{List, arith, inl, inr, length, subst, ℕ, ◌++◌, ◌+◌, ◌∙◌, ◌≡◌}
use Rattle.dom_base.proofs.Lists.{AllByRecursion-contains, Contains-slice_get, slice_get-append, slice_get-behind}
use Rattle.sp_reduction.proofs.Lists.{in_append}

-- the block stands at an offset, and each element of the sort is one of it
pub record Offset {X : Type 0} (Of : X → Type 0) (xs block : List X) : Type 0 where
  pub offset : ℕ
  pub to : (i : ℕ) (x : X) → slice_get block i ≡ Some x → slice_get xs (offset + i) ≡ Some x
  pub from : (i : ℕ) (x : X) → slice_get xs i ≡ Some x → Of x → (j : ℕ) × (i ≡ offset + j) × (slice_get block j ≡ Some x)

pub none_at : {X : Type 0} (Of : X → Type 0) (xs : List X) → AllByRecursion (λ x. Of x → ⊥) xs → (i : ℕ) (x : X) → slice_get xs i ≡ Some x → Of x → ⊥
none_at Of xs h i x e = AllByRecursion-contains (λ x. Of x → ⊥) xs x h (Contains-slice_get xs i x e)

pub offset_whole : {X : Type 0} (Of : X → Type 0) (block : List X) → Offset Of block block
offset_whole Of block = record { offset = 0; to = λ i x e. subst (λ j. slice_get block j ≡ Some x) (plus i) e; from = λ i x e o. (i, plus i, e) }
  where
    plus : (i : ℕ) → i ≡ 0 + i
    plus i = omega arith

pub offset_front : {X : Type 0} (Of : X → Type 0) (xs ys block : List X) → Offset Of xs block → AllByRecursion (λ x. Of x → ⊥) ys → Offset Of (xs ++ ys) block
offset_front Of xs ys block o h = record {
  offset = o.offset;
  to = λ i x e. slice_get-append xs ys (o.offset + i) x (o.to i x e);
  from = λ i x e f. elim (in_append xs ys i x e) [ inl z ↦ o.from i x z.1 f | inr z ↦ absurd (none_at Of ys h z.0 x z.2 f) ];
}

pub offset_behind : {X : Type 0} (Of : X → Type 0) (xs ys block : List X) → AllByRecursion (λ x. Of x → ⊥) xs → Offset Of ys block → Offset Of (xs ++ ys) block
offset_behind Of xs ys block h o = record {
  offset = length xs + o.offset;
  to = λ i x e. subst (λ j. slice_get (xs ++ ys) j ≡ Some x) (shift i) (slice_get-behind xs ys (o.offset + i) ∙ o.to i x e);
  from = λ i x e f. elim (in_append xs ys i x e) [
    | inl z ↦ absurd (none_at Of xs h i x z.1 f)
    | inr z ↦ let q = o.from z.0 x z.2 f in (q.0, omega (arith, z.1, q.1), q.2)
  ];
}
  where
    shift : (i : ℕ) → length xs + (o.offset + i) ≡ length xs + o.offset + i
    shift i = omega arith
