-- A device that leads to a source, or to none.
use Rattle.std.proofs.Common.{◌≡◌, ◌<◌, ℕ, subst, inl, inr}
use Rattle.std.specs.Prelude.{Some, None}
use Rattle.deck.specs.declared.device.Device.{Device}
use Rattle.deck.specs.Nets.{IsInRange}
use Rattle.deck.specs.Paths.{Ends}

-- both ends of a device in range are in range
pub start_in_range : (nets : ℕ) (d : Device) (m s : ℕ) → IsInRange nets d → Ends d m s → m < nets
start_in_range nets d m s r (inl e) = subst (λ n. n < nets) e.0 r.drain
start_in_range nets d m s r (inr e) = subst (λ n. n < nets) e.0 r.source

pub the_pair : (p q : ℕ × ℕ) → Some p ≡ Some q → q ≡ p
the_pair p q e = cc

pub none_is_none : (p : ℕ × ℕ) → None ≡ Some p → ⊥
none_is_none p e = cc
