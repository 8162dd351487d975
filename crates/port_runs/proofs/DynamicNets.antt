-- Dynamic nets and domino outputs by other words for the clocks and for `vdd`.
use Rattle.std.proofs.Common.{List, subst, ℕ, ◌≡◌}
use Rattle.deck.specs.Paths.{Ends}
use Rattle.deck.specs.declared.device.Device.{Device}
use Rattle.port_runs.specs.Periods.{IsDominoOutputIn, IsDynamicNetIn}

module _ (devices : List Device) (IsClock IsClock' : ℕ → Type 0) (vdd vdd' : ℕ) (clock_is : (g : ℕ) → IsClock g → IsClock' g) (vdd_is : vdd ≡ vdd') where
  abbrev pub dynamic_as : (n : ℕ) → IsDynamicNetIn devices IsClock vdd n → IsDynamicNetIn devices IsClock' vdd' n
  dynamic_as n d = record {
    precharge = d.precharge;
    there = d.there;
    kind_is = d.kind_is;
    gated = clock_is (d.precharge).gate d.gated;
    joined = subst (Ends d.precharge n) vdd_is d.joined;
  }

  abbrev pub output_as : (n : ℕ) → IsDominoOutputIn devices IsClock vdd n → IsDominoOutputIn devices IsClock' vdd' n
  output_as n d = record {
    pull_up = d.pull_up;
    there = d.there;
    kind_is = d.kind_is;
    gated = dynamic_as (d.pull_up).gate d.gated;
    joined = subst (Ends d.pull_up n) vdd_is d.joined;
  }
