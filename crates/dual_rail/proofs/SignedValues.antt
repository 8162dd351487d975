-- Values for both signs that are the same.
use Rattle.std.proofs.Common.{◌≡◌}
use Rattle.dual_rail.specs.declared.signed.Signed.{Signed}

pub signed_same : {T : Type 0} (a b : Signed T) → (a.plus ≡ b.plus) × (a.minus ≡ b.minus) → a ≡ b
signed_same a b e = λ i. record { plus = e.0 i; minus = e.1 i }
