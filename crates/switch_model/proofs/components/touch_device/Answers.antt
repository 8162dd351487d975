use Rattle.std.proofs.Common.{◌≡◌, ◌⊎◌, inl, inr, sym, ℕ}
use Rattle.switch_model.specs.Components.{IsAt}
use Rattle.switch_model.proofs.ComponentLists.{joins-more}
use Rattle.switch_model.proofs.components.touch_device.Goals as goal

pub returns-clause-touched : goal.returns-clause-touched
returns-clause-touched c = λ x k.
    let d = c.args.device in
    let two = joins-more {T = (d.gate ≡ x) ⊎ (d.drain ≡ x)} (c.in_ok-touch-2.ensures.touched x k) (c.in_ok-touch.ensures.touched x k) first_two two_first in
    joins-more {T = IsAt d x} (c.in_ok-touch-3.ensures.touched x k) two all_three three_all
  where
    first_two : {x g d : ℕ} → (x ≡ g) ⊎ (x ≡ d) → (g ≡ x) ⊎ (d ≡ x)
    first_two (inl e) = inl (sym e)
    first_two (inr e) = inr (sym e)

    two_first : {x g d : ℕ} → (g ≡ x) ⊎ (d ≡ x) → (x ≡ g) ⊎ (x ≡ d)
    two_first (inl e) = inl (sym e)
    two_first (inr e) = inr (sym e)

    all_three : {x s : ℕ} {G D : Type 0} → (G ⊎ D) ⊎ (x ≡ s) → G ⊎ (D ⊎ (s ≡ x))
    all_three (inl (inl g)) = inl g
    all_three (inl (inr d)) = inr (inl d)
    all_three (inr e) = inr (inr (sym e))

    three_all : {x s : ℕ} {G D : Type 0} → G ⊎ (D ⊎ (s ≡ x)) → (G ⊎ D) ⊎ (x ≡ s)
    three_all (inl g) = inl (inl g)
    three_all (inr (inl d)) = inl (inr d)
    three_all (inr (inr e)) = inr (sym e)
