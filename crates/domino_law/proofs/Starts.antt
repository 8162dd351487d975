-- The rest of reset is honest, and each latch has its start value there.
use Rattle.std.proofs.Common.{Bool, List, ap, inl, inr, length, refl, sym, ℕ, ◌<◌, ◌∙◌, ◌≡◌}
use Rattle.dom_base.specs.Tri.{opposite}
use Rattle.dom_base.specs.declared.tri.Tri.{Tri}
use Rattle.dom_base.specs.declared.tri.Tri.TheVariants.{One, Zero}
use Rattle.deck.specs.Switches.{value_of}
use Rattle.deck.specs.declared.device.Device.{Device}
use Rattle.sp_network.specs.Known.{IsKnown}
use Rattle.domino_cell.specs.Stage.{IsStage, Spot, Top}
use Rattle.switch_model.specs.Targets.{IsAtRest}
use Rattle.port_runs.specs.Environment.{Reset, bit}
use Rattle.domino_law.specs.Branches.{static_branches}
use Rattle.domino_law.specs.Honest.{IsDynamicSpot, IsHonest, static_value}
use Rattle.domino_law.specs.LooseDeck.{HoldsDeck, IsPart, IsSpotOf}
use Rattle.domino_law.specs.Nets.{At, Clock, Complement, Dynamic, FromLatch, FromPin, Ls, Lsb, Master, Net, Next, Output, Part, Pin, Rs, Rsb, DeckSignal, Sink, Slave, Vdd, Vss, own, CellSide}
use Rattle.domino_law.specs.OwnRun.{bit_at, start_state}
use Rattle.domino_law.specs.Places.{AreSources, up_at}
use Rattle.domino_law.specs.Shape.{DominoCell, HasComplement, IsCellAt, IsLatchAt, IsSignal, Latch, Shape, DynamicStage, IsSideAt, dynamic_nets, gate_tree}
use Rattle.domino_law.proofs.DeckParts.{complement_is, dynamic_is, next_is, opposite-known, output_is, sink_is, slave_is, zero_or_one, AreKnownGates, value-known}
use Rattle.domino_law.proofs.OwnRuns.{bit_at-map}
use Rattle.domino_law.proofs.Parts.{precharges, slave_reset}
use Rattle.domino_law.proofs.Places.{bit-known}
use Rattle.domino_law.proofs.Rests.{rest_at, rest_spots, rest_static}
use Rattle.domino_law.proofs.ClockOrder.{all_waiting, before_fallen, none_previous}
use Rattle.sp_network.specs.Tree.{Leaf, Tree}
use Rattle.domino_law.proofs.Statics.{each_dynamic, gate_nets, tree_one}

module _ {devices : List Device} {is_source : ℕ → Bool} {net : Net → ℕ} {s : Shape} (deck : HoldsDeck devices is_source net s)
    (risen : ℕ) (fallen : ℕ → Bool) (pins : ℕ → Bool) (kept : ℕ → Tri) (values : List Tri) (sources : AreSources net s Reset risen fallen pins values)
    (masters : (j : ℕ) (b : Latch) → IsLatchAt s j b → value_of values (net (At (Master j) Top)) ≡ kept j)
    (rest : IsAtRest devices is_source values) (range : (part : Part) (a : Spot) → IsSpotOf s part a → net (At part a) < length values) where
  dynamic_one : (k : CellSide) (c : DynamicStage) (e : IsSideAt s k c) → value_of values (net (At (Dynamic k) Top)) ≡ One
  dynamic_one k c e =
      rest_at deck values rest range (Dynamic k) (c, e) One
      (precharges devices is_source net values (sources Vdd tt) (sources Vss tt) s.style (λ a. net (At (Dynamic k) a)) k c (dynamic_is deck k c e) (sources (Clock c.clock) ((deck.shape).clocks_are k c e)))

  spot_one : (k : CellSide) (c : DynamicStage) (e : IsSideAt s k c) (a : Spot) → IsDynamicSpot s.style c a → value_of values (net (At (Dynamic k) a)) ≡ One
  spot_one k c e a i = rest_spots deck values rest range (sources Vdd tt) (sources Vss tt) k c e (sources (Clock c.clock) ((deck.shape).clocks_are k c e)) a i

  static_at : (part : Part) → IsPart s part → (gate : Tree Net) → IsStage devices is_source (λ a. net (At part a)) (static_branches net gate) → IsKnown (static_value net values gate)
      → value_of values (net (At part Top)) ≡ opposite (static_value net values gate)
  static_at = rest_static deck values rest range (sources Vdd tt) (sources Vss tt)

  series_one : (k : ℕ) (c : DominoCell) (e : IsCellAt s k c) → static_value net values (dynamic_nets k c.right) ≡ One
  series_one k c e = tree_one (λ a. value_of values (net a)) (dynamic_nets k c.right) (each_dynamic s (λ a. value_of values (net a) ≡ One) k c e (λ d z side i. dynamic_one _ d i))

  output_zero : (k : ℕ) (c : DominoCell) (e : IsCellAt s k c) → value_of values (net (At (Output k) Top)) ≡ Zero
  output_zero k c e =
      let d = series_one k c e in
      static_at (Output k) (c, e) (dynamic_nets k c.right) (output_is deck k c e) (inr d) ∙ rw d refl

  pub slave_start : (j : ℕ) (b : Latch) (e : IsLatchAt s j b) → value_of values (net (At (Slave j) Top)) ≡ bit b.init
  slave_start j b e =
      rest_at deck values rest range (Slave j) (b, e) (bit b.init)
      (slave_reset devices is_source net values (sources Vdd tt) (sources Vss tt) (λ a. net (At (Slave j) a)) (At (Master j) Top) b.init (slave_is deck j b e)
      (sources Lsb tt) (sources Ls tt) (sources Rs tt) (sources Rsb tt))

  start-known : (l : DeckSignal) → IsSignal s l → IsKnown (value_of values (net (own l)))
  start-known (FromPin p) a = rw (sources (Pin p) a) (bit-known (pins p))
  start-known (FromLatch j) a = rw (slave_start j a.0 a.1) (bit-known (a.0).init)

  complement_at : (l : DeckSignal) (a : HasComplement s l) → value_of values (net (At (Complement l) Top)) ≡ opposite (value_of values (net (own l)))
  complement_at l a = static_at (Complement l) a (Leaf (own l)) (complement_is deck l a) (start-known l ((deck.shape).complements_are l a))

  complement-known : (l : DeckSignal) (a : HasComplement s l) → IsKnown (value_of values (net (At (Complement l) Top)))
  complement-known l a = rw (complement_at l a) (opposite-known _ (start-known l ((deck.shape).complements_are l a)))

  start_gate : AreKnownGates net s values
  start_gate =
      gate_nets s (λ a. IsKnown (value_of values (net a))) start-known complement-known (λ k c e. inl (output_zero k c e)) (λ k c e. inr (dynamic_one k c e))
      (inr (sources Vdd tt)) (inl (sources Vss tt))

  start_bit : (j : ℕ) (b : Latch) → IsLatchAt s j b → bit_at (start_state s) j ≡ b.init
  start_bit j b e = bit_at-map (λ l. l.init) s.latches j b e

  pub reset_rests : (new : ℕ → Bool) → IsHonest devices is_source net s Reset (up_at Reset risen fallen) (bit_at (start_state s)) new pins kept values
  reset_rests new =
      record {
        frame = record {
          sources = sources;
          clocks = all_waiting s Reset (up_at Reset risen fallen) (λ i. refl) (λ i. refl);
          complements = complement-known;
          opposed = complement-known;
          slaves = λ j b e. slave_start j b e ∙ sym (ap bit (start_bit j b e));
          masters = masters;
          started = λ z j b e. start_bit j b e;
          nexts = λ j b e. let g = value-known net s values start_gate b.next ((deck.shape).nexts j b e) in
              rw (static_at (Next j) (b, e) (gate_tree s b.next) (next_is deck j b e) g) (opposite-known _ g);
          next_is = λ j b e. tt;
          outputs = λ i g e. let k = value-known net s values start_gate g ((deck.shape).outputs_are i g e) in
              rw (static_at (Sink i) (g, e) (gate_tree s g) (sink_is deck i g e) k) (opposite-known _ k);
        };
        cells = record {
          sides = λ k c e. record {
            pulled = λ o f a i z. absurd (zero_or_one (sym z ∙ spot_one k c e a i));
            spots_known = λ a i. inr (spot_one k c e a i);
            spots_idle = λ off a i. inl (spot_one k c e a i);
          };
          outs = λ k c e. record {
            evaluated = λ o. inl (output_zero k c e);
            idle = λ off. inl (series_one k c e, output_zero k c e);
          };
          held = λ k c e o early. absurd (none_previous (up_at Reset risen fallen) (λ j z. before_fallen z) c.clock early);
        };
        settled = tt;
      }
