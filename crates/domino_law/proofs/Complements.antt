-- No complement stands twice in a deck.
use Rattle.std.specs.Prelude.{Some, slice_get}
use Rattle.std.proofs.Common.{arith, inl, inr, ℕ, ◌≡◌}
use Rattle.dom_base.proofs.Decided.{lt_or_ge}
use Rattle.domino_law.specs.Nets.{DeckSignal}
use Rattle.domino_law.specs.Shape.{IsShape, Shape}

pub complement_once : (s : Shape) → IsShape s → (i j : ℕ) (l : DeckSignal) → slice_get s.complements i ≡ Some l → slice_get s.complements j ≡ Some l → i ≡ j
complement_once s is i j l e f = elim (lt_or_ge i j) [
  | inl lt ↦ absurd (omega (arith, is.complements_ordered i j l l lt e f))
  | inr ge ↦ elim (lt_or_ge j i) [
    | inl lt ↦ absurd (omega (arith, is.complements_ordered j i l l lt f e))
    | inr le ↦ omega (arith, ge, le)
  ]
]
