-- A file that has nothing to be refused for is within the limits.
use Rattle.std.proofs.Common.{◌≡◌, ℕ, ◌<◌, ◌≤◌, ◌-◌, ◌^◌, min, Some, refl, arith}
use Rattle.std.specs.Prelude.{slice_get}
use Rattle.blif_ast.specs.BlifFileData.{BlifFileData}
use Rattle.model_calls.specs.Counts.{Counted, IsTooMany, counts, letter_count, signal_count, sink_count}
use Rattle.network.specs.Limits.{most_letters, most_signals, most_sinks}
use Rattle.model_calls.specs.Refusal.{Refusal, TooMany}
use Rattle.model_calls.specs.Refusals.{HasRefusal}
use Rattle.model_calls.proofs.Firsts.{none_holds}

module _ (f : BlifFileData) (accepted : (r : Refusal) → HasRefusal f r → ⊥) where
  within : (k : ℕ) (c : Counted) → slice_get (counts f) k ≡ Some c → c.count ≤ c.most
  within k c e =
      let none : c.most < c.count → ⊥ =
      none_holds IsTooMany (counts f) (λ d first. accepted (TooMany d.limit (min d.count (2 ^ 64 - 1))) (record { counted = d; first = first; limit_is = refl; count_is = refl })) k c e in
      omega (arith, none)

  pub few_signals : signal_count f ≤ most_signals
  few_signals = within 0 _ refl

  pub few_letters : letter_count f ≤ most_letters
  few_letters = within 2 _ refl

  pub few_sinks : sink_count f ≤ most_sinks
  few_sinks = within 3 _ refl
