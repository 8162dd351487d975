-- A stage without taps is a stage whose taps are none.
use Rattle.std.specs.Prelude.{Contains}
use Rattle.std.specs.List.{All}
use Rattle.std.proofs.Common.{Bool, List, [], arith, subst, sym, true, ℕ, ◌<◌, ◌≡◌}
use Rattle.std.proofs.lemmas.List.{append-nil}
use Rattle.deck.specs.declared.device.Device.{Device}
use Rattle.deck.specs.NamedDevices.{device_of}
use Rattle.domino_cell.specs.Stage.{Branch, IsStage, Spot, stage}
use Rattle.domino_cell.specs.Tapped.{IsTapped}

module _ (devices : List Device) (is_source : ℕ → Bool) (at : Spot → ℕ) (bs : List Branch) where
  pub untapped : IsTapped devices is_source at bs [] → IsStage devices is_source at bs
  untapped is =
      record {
        apart = is.apart;
        free = is.free;
        supplies = subst (All (λ b. is_source b.supply ≡ true)) (append-nil bs) is.supplies;
        there = subst (All (λ c. Contains devices (device_of c))) (append-nil (stage at 0 bs)) is.there;
        alone = λ d a i c e. rw append-nil at (is.alone d a i c e);
      }

  pub as_tapped : IsStage devices is_source at bs → IsTapped devices is_source at bs []
  as_tapped is =
      record {
        apart = is.apart;
        free = is.free;
        spots = λ i d l. absurd (none i l);
        supplies = subst (All (λ b. is_source b.supply ≡ true)) (sym (append-nil bs)) is.supplies;
        there = subst (All (λ c. Contains devices (device_of c))) (sym (append-nil (stage at 0 bs))) is.there;
        alone = λ d a i c e. rw append-nil (is.alone d a i c e);
      }
    where
      none : (i : ℕ) → i < 0 → ⊥
      none i l = omega arith
