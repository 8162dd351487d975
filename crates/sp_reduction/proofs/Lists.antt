-- What stands at an index of two lists, one behind the other.
use Rattle.std.specs.Prelude.{Some, slice_get, ◌⊎◌}
use Rattle.std.proofs.Common.{List, [], arith, inl, inr, length, suc, zero, ℕ, ◌++◌, ◌+◌, ◌<◌, ◌∷◌, ◌≡◌}

-- an element of two lists, one behind the other
pub in_append : {X : Type 0} (xs ys : List X) (i : ℕ) (x : X) → slice_get (xs ++ ys) i ≡ Some x
    → ((i < length xs) × (slice_get xs i ≡ Some x)) ⊎ ((j : ℕ) × (i ≡ length xs + j) × (slice_get ys j ≡ Some x))
in_append [] ys i x e = inr (i, omega arith, e)
in_append (y ∷ xs) ys zero x e = inl (omega arith, e)
in_append (y ∷ xs) ys (suc i) x e = elim (in_append xs ys i x e) [ inl z ↦ inl (omega (arith, z.0), z.1) | inr z ↦ inr (z.0, omega (arith, z.1), z.2) ]
