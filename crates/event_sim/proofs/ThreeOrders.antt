-- The three orders answer below the count.
use Rattle.std.proofs.Common.{◌≡◌, ℕ, ◌+◌, ◌%◌, ◌/◌, ◌^◌, ap, ◌∙◌, arith}
use Rattle.std.proofs.lemmas.Nat.{mod_below}
use Rattle.std.proofs.Math.Nat.{mod-add-mod}
use Rattle.event_sim.specs.Laws.{IsBelow, OrdersAreBelow}
use Rattle.event_sim.specs.Orders.{congruent, seeded_place}

seeded_is_below : (seed : ℕ) → IsBelow (seeded_place seed)
unfolding seeded_place
seeded_is_below seed step count some = mod_below (congruent seed step / (2 ^ 33)) count (omega (arith, some))

pub orders_are_below : OrdersAreBelow
orders_are_below = record {
  first = λ step count some. omega (arith, some);
  last = λ step count some. omega (arith, some);
  seeded = seeded_is_below;
}

-- a sum that is cut to a modulus at each step
pub cut_each_time : (a b c m : ℕ) → ((a % m + b) % m + c) % m ≡ (a + b + c) % m
cut_each_time a b c m =
    let inner : a % m + b + c ≡ a % m + (b + c) = omega arith in
    let outer : a + (b + c) ≡ a + b + c = omega arith in
    mod-add-mod (a % m + b) m c ∙ ap (λ (n : ℕ). n % m) inner ∙ mod-add-mod a m (b + c) ∙ ap (λ (n : ℕ). n % m) outer
