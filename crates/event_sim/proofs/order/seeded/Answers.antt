use Rattle.std.proofs.Common.{ℕ, ◌/◌, ◌%◌, ◌^◌, ap}
use Rattle.event_sim.specs.Orders.{seeded_place}
use Rattle.event_sim.proofs.order.seeded.Goals as goal

pub returns-clause-place : goal.returns-clause-place
unfolding seeded_place
returns-clause-place c = ap (λ (n : ℕ). (n / (2 ^ 33)) % c.args.count) c.congruent.ensures
