-- The cell of an And of two inputs.
use Rattle.std.proofs.Common.{◌≡◌, ℕ, ◌≤◌, ◌<◌, map, refl, inl, inr, arith}
use Rattle.std.specs.Prelude.{◌⊎◌, ◌≢◌, Contains, nat_lt, false, slice_index_or}
use Rattle.std.specs.List.{AllByRecursion}
use Rattle.std.proofs.lemmas.List.Elements.{All-from_recursion}
use Rattle.deck.specs.Worked.{and_devices}
use Rattle.deck.specs.declared.device.Device.{Device}
use Rattle.deck.specs.NamedDevices.{device_of}
use Rattle.dom_base.specs.declared.kind.Kind.TheVariants.{N as nch, P as pch, Keep}
use Rattle.domino_cell.specs.Cell.{IsStageNet, dynamic_stage, inverter}
use Rattle.domino_cell.specs.Worked.{AndHoldsCell, AndIsSpelled, ThreeInSeries, and_nets, and_tree}
use Rattle.sp_network.specs.Tree.{inner_count}
use Rattle.dom_base.proofs.Lists.{AllByRecursion-contains}

pub and_is_spelled : AndIsSpelled
and_is_spelled = refl

pub three_in_series : ThreeInSeries
three_in_series t d f a b c = refl

-- the nets of the dynamic stage
stage_net : (n : ℕ) → IsStageNet and_nets and_tree n → (n ≡ 12) ⊎ ((n ≡ 15) ⊎ (n ≡ 14))
stage_net n (inl e) = inl e
stage_net n (inr (inl e)) = inr (inl e)
stage_net n (inr (inr (j, lt, e))) = inr (inr e)

-- the ends of the inverters are none of them
apart : (d s n : ℕ) → (d ≡ 13) ⊎ (d ≡ 11) → s ≤ 1 → IsStageNet and_nets and_tree n → (d ≡ n) ⊎ (s ≡ n) → ⊥
apart d s n h k i e = by (stage_net n i) h e
  where
    by : (n ≡ 12) ⊎ ((n ≡ 15) ⊎ (n ≡ 14)) → (d ≡ 13) ⊎ (d ≡ 11) → (d ≡ n) ⊎ (s ≡ n) → ⊥
    by i h e = grind arith

-- a device of the dynamic stage, or one that does not end at its nets
IsOwn : Device → Type 0
IsOwn d = (n : ℕ) → IsStageNet and_nets and_tree n → (d.drain ≡ n) ⊎ (d.source ≡ n) → Contains (map device_of (dynamic_stage and_nets and_tree)) d

-- the k-th device is own
own_at : (k : ℕ) → k < 5 → (d : Device) → slice_index_or (map device_of (dynamic_stage and_nets and_tree)) k d ≡ d → IsOwn d
unfolding IsOwn
own_at k lt d e n i h = (k, lt, e)

other : (d : Device) → (d.drain ≡ 13) ⊎ (d.drain ≡ 11) → d.source ≤ 1 → IsOwn d
unfolding IsOwn
other d h k n i e = absurd (apart d.drain d.source n h k i e)

own : AllByRecursion IsOwn and_devices
own = (
  own_at 0 (omega arith) (record { kind = pch; drain = 12; gate = 2; source = 0 }) refl,
  (
    own_at 1 (omega arith) (record { kind = Keep; drain = 12; gate = 13; source = 0 }) refl,
    (
      own_at 2 (omega arith) (record { kind = nch; drain = 12; gate = 9; source = 14 }) refl,
      (
        own_at 3 (omega arith) (record { kind = nch; drain = 14; gate = 10; source = 15 }) refl,
        (
          own_at 4 (omega arith) (record { kind = nch; drain = 15; gate = 2; source = 1 }) refl,
          (
            other (record { kind = pch; drain = 13; gate = 12; source = 0 }) (inl refl) (omega arith),
            (
              other (record { kind = nch; drain = 13; gate = 12; source = 1 }) (inl refl) (omega arith),
              (
                other (record { kind = pch; drain = 11; gate = 12; source = 0 }) (inr refl) (omega arith),
                (other (record { kind = nch; drain = 11; gate = 12; source = 1 }) (inr refl) (omega arith), tt),
              ),
            ),
          ),
        ),
      ),
    ),
  ),
)

there_at : (k : ℕ) → k < 9 → (d : Device) → slice_index_or and_devices k d ≡ d → Contains and_devices d
there_at k lt d e = (k, lt, e)

stage_there : AllByRecursion (λ c. Contains and_devices (device_of c)) (dynamic_stage and_nets and_tree)
stage_there = (
  there_at 0 (omega arith) (record { kind = pch; drain = 12; gate = 2; source = 0 }) refl,
  (
    there_at 1 (omega arith) (record { kind = Keep; drain = 12; gate = 13; source = 0 }) refl,
    (
      there_at 2 (omega arith) (record { kind = nch; drain = 12; gate = 9; source = 14 }) refl,
      (
        there_at 3 (omega arith) (record { kind = nch; drain = 14; gate = 10; source = 15 }) refl,
        (there_at 4 (omega arith) (record { kind = nch; drain = 15; gate = 2; source = 1 }) refl, tt),
      ),
    ),
  ),
)

inverter_there : AllByRecursion (λ c. Contains and_devices (device_of c)) (inverter and_nets.vdd and_nets.vss and_nets.dynamic and_nets.output)
inverter_there = (
  there_at 5 (omega arith) (record { kind = pch; drain = 13; gate = 12; source = 0 }) refl,
  (there_at 6 (omega arith) (record { kind = nch; drain = 13; gate = 12; source = 1 }) refl, tt),
)

free : (n : ℕ) → IsStageNet and_nets and_tree n → nat_lt n 11 ≡ false
free n i = by (stage_net n i)
  where
    by : (n ≡ 12) ⊎ ((n ≡ 15) ⊎ (n ≡ 14)) → nat_lt n 11 ≡ false
    by (inl e) = rw e refl
    by (inr (inl e)) = rw e refl
    by (inr (inr e)) = rw e refl

alone : (d : Device) (n : ℕ) → Contains and_devices d → IsStageNet and_nets and_tree n → (d.drain ≡ n) ⊎ (d.source ≡ n)
    → Contains (map device_of (dynamic_stage and_nets and_tree)) d
unfolding IsOwn
alone d n c i e = AllByRecursion-contains IsOwn and_devices d own c n i e

inner_apart : (j : ℕ) → j < inner_count and_tree → (and_nets.inner j ≢ and_nets.dynamic) × (and_nets.inner j ≢ and_nets.foot)
inner_apart j lt = ((λ e. omega arith), (λ e. omega arith))

inners_apart : (i j : ℕ) → i < 1 → j < 1 → i ≡ j
inners_apart i j a b = omega arith

pub and_holds_cell : AndHoldsCell
and_holds_cell =
    record {
      stage = record {
        vdd_is = refl;
        vss_is = refl;
        supplies = λ e. omega arith;
        free = free;
        foot_apart = λ e. omega arith;
        inner_apart = inner_apart;
        inners_apart = λ i j a b e. inners_apart i j a b;
        there = All-from_recursion (λ c. Contains and_devices (device_of c)) (dynamic_stage and_nets and_tree) stage_there;
        alone = alone;
      };
      inverter_there = All-from_recursion (λ c. Contains and_devices (device_of c)) (inverter and_nets.vdd and_nets.vss and_nets.dynamic and_nets.output) inverter_there;
    }
