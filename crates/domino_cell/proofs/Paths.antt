-- Definite and possible strong paths as paths of devices whose conduction passes a test.
use Rattle.std.proofs.Common.{ℕ, Bool, List}
use Rattle.std.specs.Prelude.{◌≢◌, Contains}
use Rattle.dom_base.specs.declared.kind.Kind.TheVariants.{Keep}
use Rattle.dom_base.specs.declared.tri.Tri.{Tri}
use Rattle.deck.specs.declared.device.Device.{Device}
use Rattle.deck.specs.Paths.{DefiniteStrong, Possible, PossibleStrong}
use Rattle.deck.specs.Switches.{IsOn, IsNotOff}
use Rattle.sp_network.specs.Known.{is_not_zero, is_one}
use Rattle.sp_network.proofs.TreeTests.{is_not_zero-from, is_not_zero-true, is_one-from, is_one-true}
use Rattle.domino_cell.specs.Steps.{IsStep, IsStrongStep}
use Rattle.dom_base.proofs.Lists.{AllByRecursion-both, AllByRecursion-weaker}
use Rattle.deck.specs.Reach.{Reach}
use Rattle.deck.proofs.Reach.{Reach-from_path, path_from_Reach, strong_each, strong_from_each}

pub Reach-from_definite : (devices : List Device) (is_source : ℕ → Bool) (values : List Tri) (a b : ℕ)
    → DefiniteStrong devices is_source values a b → Reach (IsStrongStep devices is_one values) is_source a b
Reach-from_definite devices is_source values a b h =
    Reach-from_path _ is_source h.1
    (AllByRecursion-weaker _ (IsStrongStep devices is_one values) (λ d k. record { of = k.0; pass = is_one-from _ k.1.0; strong = k.1.1 }) h.0
    (AllByRecursion-both _ _ h.0 h.2 (AllByRecursion-both _ _ h.0 h.3 (strong_each h.0 h.4))))

pub definite_from_Reach : (devices : List Device) (is_source : ℕ → Bool) (values : List Tri) (a b : ℕ)
    → Reach (IsStrongStep devices is_one values) is_source a b → DefiniteStrong devices is_source values a b
definite_from_Reach devices is_source values a b r =
    let h = path_from_Reach _ is_source r in (
      h.0,
      h.1,
      AllByRecursion-weaker _ (Contains devices) (λ d k. k.of) h.0 h.2,
      AllByRecursion-weaker _ (IsOn values) (λ d k. is_one-true _ k.pass) h.0 h.2,
      strong_from_each h.0 (AllByRecursion-weaker _ (λ d. d.kind ≢ Keep) (λ d k. k.strong) h.0 h.2),
    )

pub Reach-from_possible : (devices : List Device) (is_source : ℕ → Bool) (values : List Tri) (a b : ℕ)
    → PossibleStrong devices is_source values a b → Reach (IsStrongStep devices is_not_zero values) is_source a b
Reach-from_possible devices is_source values a b h =
    Reach-from_path _ is_source h.1
    (AllByRecursion-weaker _ (IsStrongStep devices is_not_zero values) (λ d k. record { of = k.0; pass = is_not_zero-from _ k.1.0; strong = k.1.1 }) h.0
    (AllByRecursion-both _ _ h.0 h.2 (AllByRecursion-both _ _ h.0 h.3 (strong_each h.0 h.4))))

pub possible_from_Reach : (devices : List Device) (is_source : ℕ → Bool) (values : List Tri) (a b : ℕ)
    → Reach (IsStrongStep devices is_not_zero values) is_source a b → PossibleStrong devices is_source values a b
possible_from_Reach devices is_source values a b r =
    let h = path_from_Reach _ is_source r in (
      h.0,
      h.1,
      AllByRecursion-weaker _ (Contains devices) (λ d k. k.of) h.0 h.2,
      AllByRecursion-weaker _ (IsNotOff values) (λ d k. is_not_zero-true _ k.pass) h.0 h.2,
      strong_from_each h.0 (AllByRecursion-weaker _ (λ d. d.kind ≢ Keep) (λ d k. k.strong) h.0 h.2),
    )

pub Reach-from_any : (devices : List Device) (is_source : ℕ → Bool) (values : List Tri) (a b : ℕ)
    → Possible devices is_source values a b → Reach (IsStep devices is_not_zero values) is_source a b
Reach-from_any devices is_source values a b h =
    Reach-from_path _ is_source h.1
    (AllByRecursion-weaker _ (IsStep devices is_not_zero values) (λ d k. record { of = k.0; pass = is_not_zero-from _ k.1 }) h.0
    (AllByRecursion-both _ _ h.0 h.2 h.3))
