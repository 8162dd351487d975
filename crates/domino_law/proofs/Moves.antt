-- Each move takes an honest state to an honest state.
use Rattle.std.specs.Prelude.{◌≢◌}
use Rattle.std.proofs.Common.{Bool, List, [], arith, inl, inr, length, refl, sym, ℕ, ◌<◌, ◌∙◌, ◌≡◌, ap, false, subst, suc, true, zero, ◌+◌}
use Rattle.dom_base.specs.Tri.{opposite}
use Rattle.dom_base.specs.declared.tri.Tri.{Tri}
use Rattle.dom_base.specs.declared.tri.Tri.TheVariants.{One, Zero}
use Rattle.deck.specs.Switches.{value_of}
use Rattle.deck.specs.declared.device.Device.{Device}
use Rattle.domino_cell.specs.Stage.{Spot, Top}
use Rattle.switch_model.specs.Targets.{IsAtRest}
use Rattle.dom_base.proofs.Decided.{dec_nat}
use Rattle.port_runs.specs.Environment.{Capture, Captured, Evaluation, Launch, Launched, Pins, Place, Precharge, Released, Reset, bit, fallen_with, none_fallen}
use Rattle.port_runs.specs.declared.clocking.Clocking.TheVariants.{Overlapping}
use Rattle.domino_law.specs.Honest.{AreHonestCells, IsHonest, HasPreviousFallen, IsHeldCell, IsHonestOutput, IsHonestSide}
use Rattle.domino_law.specs.LooseDeck.{HoldsDeck, IsPart, IsSpotOf}
use Rattle.domino_law.specs.Nets.{At, Clock, Lm, Lmb, Ls, Lsb, Master, Net, Next, Part, Rs, Rsb, Slave, Vdd, Vss, CellSide, Output, left_side}
use Rattle.domino_law.specs.Places.{AreSources, up_at, AfterFall, AreClocksAt, BeforeRise, ClockState, Raised, clock_value}
use Rattle.domino_law.specs.Runs.{ChangesSources}
use Rattle.domino_law.specs.Shape.{DominoCell, IsCellAt, IsLatchAt, Latch, Shape, DynamicStage, IsSideAt}
use Rattle.domino_law.proofs.Carried.{carry, comp-known, opposed_same, same, settled_same, spot-same, held_same, same_held, same_out, same_side, fresh_out, fresh_side, series-same}
use Rattle.domino_law.proofs.DeckParts.{master_is, opposite-known, opposite_twice, slave_is, zero_or_one, gate-known, up_of, output-known}
use Rattle.domino_law.proofs.Parts.{clocked_target, slave_open}
use Rattle.domino_law.proofs.Places.{bit-known}
use Rattle.domino_law.proofs.Rests.{rest_at, rest_complement, rest_precharged, rest_settled, rest_output, rest_low}
use Rattle.domino_law.proofs.OwnRuns.{rest_held}
use Rattle.domino_law.proofs.ClockOrder.{all_fallen, all_waiting, at_capture, at_captured, before_fallen, clocks_as, falls_alone, falls_down, falls_up, first_risen, from_fallen, from_raised, is_fallen, is_raised, next_risen, none_previous, one_fallen, raised_fallen, same_previous, stands_on}
use Rattle.domino_law.specs.OwnRun.{own_bit}
use Rattle.domino_law.proofs.Statics.{left_is}

module _ {devices : List Device} {is_source : ℕ → Bool} {net : Net → ℕ} {s : Shape} (deck : HoldsDeck devices is_source net s)
    (risen risen' : ℕ) (fallen fallen' : ℕ → Bool) (old new pins : ℕ → Bool) (kept : ℕ → Tri) (before after : List Tri) (only : ChangesSources is_source before after) where
  abbrev pub H : Place → ℕ → (ℕ → Bool) → (ℕ → Bool) → (ℕ → Bool) → (ℕ → Bool) → (ℕ → Tri) → List Tri → Type 0
  H place r f o n p k v = IsHonest devices is_source net s place (up_at place r f) o n p k v

  stays : (part : Part) → IsPart s part → value_of after (net (At part Top)) ≡ value_of before (net (At part Top))
  stays = same deck before after only

  -- a later clock rises
  pub rise : risen' ≡ risen + 1 → risen < s.clocks → ((i : ℕ) → fallen' i ≡ fallen i) → H Evaluation risen fallen old new pins kept before
      → AreSources net s Evaluation risen' fallen' pins after → H Evaluation risen' fallen' old new pins kept after
  rise one l same_fallen h src =
      record {
        frame = carry deck h.frame Evaluation (up_at Evaluation risen' fallen') pins after src only clocks old new kept
            (λ l a. opposed_same deck h.frame Evaluation (up_at Evaluation risen' fallen') pins after src only (λ p a. refl) l a (h.frame.opposed l a))
            (λ j b e. stays (Slave j) (b, e) ∙ h.frame.slaves j b e) (λ j b e. stays (Master j) (b, e) ∙ h.frame.masters j b e) (λ z. cc) (λ j b e. tt);
        cells = record {
          sides = λ k c e. as_side k c e (up_at Evaluation risen fallen c.clock) refl;
          outs = λ k c e. as_out k c e (up_at Evaluation risen fallen c.clock) refl;
          held = λ k c e. as_held k c e (up_at Evaluation risen fallen c.clock) refl;
        };
        settled = tt;
      }
    where
      as_before : (i : ℕ) → up_at Evaluation risen' fallen' i ≡ up_at Evaluation (risen + 1) fallen i
      as_before i = rw (one, same_fallen i) refl

      clocks : AreClocksAt s Evaluation (up_at Evaluation risen' fallen')
      clocks = clocks_as s Evaluation (up_at Evaluation (risen + 1) fallen) (up_at Evaluation risen' fallen') as_before (next_risen s risen fallen h.frame.clocks l)

      late : (i : ℕ) → up_at Evaluation risen fallen i ≡ AfterFall → up_at Evaluation risen' fallen' i ≡ AfterFall
      late i z = is_fallen risen' fallen' i (same_fallen i ∙ from_fallen risen fallen i z)

      back : (i : ℕ) → up_at Evaluation risen' fallen' i ≡ AfterFall → up_at Evaluation risen fallen i ≡ AfterFall
      back i z = is_fallen risen fallen i (sym (same_fallen i) ∙ from_fallen risen' fallen' i z)

      same_clock : (i : ℕ) → i < s.clocks → up_at Evaluation risen' fallen' i ≡ up_at Evaluation risen fallen i → value_of after (net (Clock i)) ≡ value_of before (net (Clock i))
      same_clock i l z = src (Clock i) l ∙ (ap clock_value z ∙ sym (h.frame.sources (Clock i) l))

      goes_on : (i : ℕ) → up_at Evaluation risen fallen i ≡ Raised → up_at Evaluation risen' fallen' i ≡ up_at Evaluation risen fallen i
      goes_on i z = is_raised risen' fallen' i (let q = (from_raised risen fallen i z).0 in omega arith) (same_fallen i ∙ (from_raised risen fallen i z).1) ∙ sym z

      was_off : (i : ℕ) → i < s.clocks → up_at Evaluation risen fallen i ≡ BeforeRise → value_of before (net (Clock i)) ≡ Zero
      was_off i l z = h.frame.sources (Clock i) l ∙ rw z refl

      ahead : (i : ℕ) → HasPreviousFallen (up_at Evaluation risen fallen) i → HasPreviousFallen (up_at Evaluation risen' fallen') i
      ahead = same_previous (up_at Evaluation risen fallen) (up_at Evaluation risen' fallen') late

      behind : (i : ℕ) → HasPreviousFallen (up_at Evaluation risen' fallen') i → HasPreviousFallen (up_at Evaluation risen fallen) i
      behind = same_previous (up_at Evaluation risen' fallen') (up_at Evaluation risen fallen) back

      go_side : (k : CellSide) (c : DynamicStage) → IsSideAt s k c → up_at Evaluation risen' fallen' c.clock ≡ up_at Evaluation risen fallen c.clock
          → IsHonestSide devices is_source net s.style (up_at Evaluation risen' fallen') after k c
      go_side k c e z =
          same_side deck h.frame Evaluation (up_at Evaluation risen' fallen') pins after src only (λ p a. refl) k c e (h.cells.sides k c e)
          (same_clock c.clock ((deck.shape).clocks_are k c e) z) (late c.clock) (ahead c.clock)

      as_side : (k : CellSide) (c : DynamicStage) → IsSideAt s k c → (v : ClockState) → up_at Evaluation risen fallen c.clock ≡ v
          → IsHonestSide devices is_source net s.style (up_at Evaluation risen' fallen') after k c
      as_side k c e BeforeRise z =
          fresh_side deck before after only (up_at Evaluation risen' fallen') k c e
          (λ a i. elim ((h.cells.sides k c e).spots_idle (was_off c.clock ((deck.shape).clocks_are k c e) z) a i) [ inl o ↦ o | inr p ↦ absurd (before_fallen (sym z ∙ p)) ])
      as_side k c e Raised z = go_side k c e (goes_on c.clock z)
      as_side k c e AfterFall z = go_side k c e (late c.clock z ∙ sym z)

      go_out : (k : ℕ) (c : DominoCell) → IsCellAt s k c → up_at Evaluation risen' fallen' c.clock ≡ up_at Evaluation risen fallen c.clock
          → IsHonestOutput net (up_at Evaluation risen' fallen') after k c
      go_out k c e z =
          same_out deck h.frame Evaluation (up_at Evaluation risen' fallen') pins after src only (λ p a. refl) k c e (h.cells.outs k c e)
          (same_clock c.clock ((deck.shape).clocks_are (left_side k) _ (left_is s k c e)) z) (late c.clock)

      as_out : (k : ℕ) (c : DominoCell) → IsCellAt s k c → (v : ClockState) → up_at Evaluation risen fallen c.clock ≡ v → IsHonestOutput net (up_at Evaluation risen' fallen') after k c
      as_out k c e BeforeRise z =
          fresh_out deck before after only (up_at Evaluation risen' fallen') k c e
          (elim ((h.cells.outs k c e).idle (was_off c.clock ((deck.shape).clocks_are (left_side k) _ (left_is s k c e)) z)) [ inl p ↦ p | inr p ↦ absurd (before_fallen (sym z ∙ p.0)) ])
      as_out k c e Raised z = go_out k c e (goes_on c.clock z)
      as_out k c e AfterFall z = go_out k c e (late c.clock z ∙ sym z)

      go_held : (k : ℕ) (c : DominoCell) → IsCellAt s k c → up_at Evaluation risen' fallen' c.clock ≡ up_at Evaluation risen fallen c.clock
          → value_of after (net (Clock c.clock)) ≡ One → HasPreviousFallen (up_at Evaluation risen' fallen') c.clock → IsHeldCell devices is_source net (own_bit s pins old k) after k c
      go_held k c e z =
          same_held deck h.frame Evaluation (up_at Evaluation risen' fallen') pins after src only (λ p a. refl) (gate-known deck h) (own_bit s pins old k) k c e
          (h.cells.held k c e) (same_clock c.clock ((deck.shape).clocks_are (left_side k) _ (left_is s k c e)) z) (behind c.clock)

      as_held : (k : ℕ) (c : DominoCell) → IsCellAt s k c → (v : ClockState) → up_at Evaluation risen fallen c.clock ≡ v
          → value_of after (net (Clock c.clock)) ≡ One → HasPreviousFallen (up_at Evaluation risen' fallen') c.clock → IsHeldCell devices is_source net (own_bit s pins old k) after k c
      as_held k c e BeforeRise z on early = absurd (not_previous (up_at Evaluation risen fallen) h.frame.clocks c.clock z (behind c.clock early))
        where
          -- a clock that has not risen isn't next to one that has fallen
          not_previous : (up : ℕ → ClockState) → AreClocksAt s Evaluation up → (i : ℕ) → up i ≡ BeforeRise → HasPreviousFallen up i → ⊥
          not_previous up q zero z p = p
          not_previous up q (suc i) z p = q.after_next i p z
      as_held k c e Raised z on early = go_held k c e (goes_on c.clock z) on early
      as_held k c e AfterFall z on early = go_held k c e (late c.clock z ∙ sym z) on early

  module _
      (rest : IsAtRest devices is_source before) (range : (part : Part) (a : Spot) → IsSpotOf s part a → net (At part a) < length before) where
    -- where all clocks were at 0 each cell is precharged
    fresh_cells : (place : Place) (up' : ℕ → ClockState) (old' pins' : ℕ → Bool) → H place risen fallen old new pins kept before
        → ((i : ℕ) → i < s.clocks → value_of before (net (Clock i)) ≡ Zero) → ((i : ℕ) → up' i ≢ AfterFall)
        → AreHonestCells devices is_source net s up' old' pins' after
    fresh_cells place up' old' pins' h off none =
        record {
          sides = λ k c e. fresh_side deck before after only up' k c e
              (rest_precharged deck h rest range k c e (off c.clock ((deck.shape).clocks_are k c e)));
          outs = λ k c e. fresh_out deck before after only up' k c e
              (rest_low deck h rest range k c e (off c.clock ((deck.shape).clocks_are (left_side k) _ (left_is s k c e))));
          held = λ k c e on early. absurd (none_previous up' none c.clock early);
        }

    pub to_released : H Reset risen fallen old new pins kept before → AreSources net s Released risen' fallen' pins after → H Released risen' fallen' old new pins kept after
    to_released h src =
        record {
          frame = carry deck h.frame Released (up_at Released risen' fallen') pins after src only (all_waiting s Released (up_at Released risen' fallen') (λ i. refl) (λ i. refl)) old new kept
              (comp-known deck h.frame Released (up_at Released risen' fallen') pins after src only) (λ j b e. stays (Slave j) (b, e) ∙ h.frame.slaves j b e)
              (λ j b e. stays (Master j) (b, e) ∙ h.frame.masters j b e) (λ z. cc) (λ j b e. tt);
          cells = fresh_cells Reset (up_at Released risen' fallen') old pins h (λ i l. h.frame.sources (Clock i) l) (λ i z. before_fallen z);
          settled = tt;
        }

    -- the first cycle
    pub to_pins : (pins' : ℕ → Bool) (next : ℕ → Bool) → H Released risen fallen old new pins kept before → AreSources net s Pins risen' fallen' pins' after → H Pins risen' fallen' old next pins' kept after
    to_pins pins' next h src =
        record {
          frame = carry deck h.frame Pins (up_at Pins risen' fallen') pins' after src only (all_waiting s Pins (up_at Pins risen' fallen') (λ i. refl) (λ i. refl)) old next kept
              (comp-known deck h.frame Pins (up_at Pins risen' fallen') pins' after src only) (λ j b e. stays (Slave j) (b, e) ∙ h.frame.slaves j b e)
              (λ j b e. stays (Master j) (b, e) ∙ h.frame.masters j b e) (λ z. cc) (λ j b e. tt);
          cells = fresh_cells Released (up_at Pins risen' fallen') old pins' h (λ i l. h.frame.sources (Clock i) l) (λ i z. before_fallen z);
          settled = tt;
        }

    -- the next cycle: what was new is old, for any state after it
    pub to_next_pins : (pins' : ℕ → Bool) (next : ℕ → Bool) → H Launched risen fallen old new pins kept before → AreSources net s Pins risen' fallen' pins' after → H Pins risen' fallen' new next pins' (λ j. opposite (bit (new j))) after
    to_next_pins pins' next h src =
        record {
          frame = carry deck h.frame Pins (up_at Pins risen' fallen') pins' after src only (all_waiting s Pins (up_at Pins risen' fallen') (λ i. refl) (λ i. refl)) new next (λ j. opposite (bit (new j)))
              (comp-known deck h.frame Pins (up_at Pins risen' fallen') pins' after src only) (λ j b e. stays (Slave j) (b, e) ∙ h.frame.slaves j b e)
              (λ j b e. stays (Master j) (b, e) ∙ h.frame.masters j b e) (λ z. cc) (λ j b e. tt);
          cells = fresh_cells Launched (up_at Pins risen' fallen') new pins' h (λ i l. h.frame.sources (Clock i) l) (λ i z. before_fallen z);
          settled = tt;
        }

    pub to_evaluation : risen' ≡ 1 → ((i : ℕ) → fallen' i ≡ false) → H Pins risen fallen old new pins kept before → AreSources net s Evaluation risen' fallen' pins after → H Evaluation risen' fallen' old new pins kept after
    to_evaluation first none h src =
        record {
          frame = carry deck h.frame Evaluation (up_at Evaluation risen' fallen') pins after src only
              (clocks_as s Evaluation (up_at Evaluation 1 none_fallen) (up_at Evaluation risen' fallen') (λ i. rw (first, none i) refl) (first_risen s)) old new kept
              (λ l a. opposed_same deck h.frame Evaluation (up_at Evaluation risen' fallen') pins after src only (λ p a. refl) l a (rest_complement deck h.frame rest range l a))
              (λ j b e. stays (Slave j) (b, e) ∙ h.frame.slaves j b e) (λ j b e. stays (Master j) (b, e) ∙ h.frame.masters j b e) (λ z. cc) (λ j b e. tt);
          cells = fresh_cells Pins (up_at Evaluation risen' fallen') old pins h (λ i l. h.frame.sources (Clock i) l) (λ i z. let y : true ≡ false = sym (from_fallen risen' fallen' i z) ∙ none i in cc);
          settled = tt;
        }

    -- the latch inputs are the next state when the masters open
    pub to_capture : (risen ≡ s.clocks) → ((i : ℕ) → fallen' i ≡ fallen i) → ((j : ℕ) (b : Latch) → IsLatchAt s j b → value_of before (net (At (Next j) Top)) ≡ bit (new j))
        → H Evaluation risen fallen old new pins kept before → AreSources net s Capture risen' fallen' pins after → H Capture risen' fallen' old new pins kept after
    to_capture all same_fallen read h src =
        record {
          frame = carry deck h.frame Capture (up_at Capture risen' fallen') pins after src only
              (clocks_as s Capture (up_at Capture risen fallen) (up_at Capture risen' fallen') (λ i. rw (same_fallen i) refl) (at_capture s risen fallen h.frame.clocks)) old new kept
              (λ l a. opposed_same deck h.frame Capture (up_at Capture risen' fallen') pins after src only (λ p a. refl) l a (h.frame.opposed l a))
              (λ j b e. stays (Slave j) (b, e) ∙ h.frame.slaves j b e) (λ j b e. inl (stays (Master j) (b, e) ∙ h.frame.masters j b e)) (λ z. cc)
              (λ j b e. stays (Next j) (b, e) ∙ read j b e);
          cells = record {
            sides = λ k c e. let l = (deck.shape).clocks_are k c e in
                same_side deck h.frame Capture (up_at Capture risen' fallen') pins after src only (λ p a. refl) k c e (h.cells.sides k c e) (same_clock c.clock l) (λ z. same c.clock l ∙ z) (previous c.clock l);
            outs = λ k c e. let l = (deck.shape).clocks_are (left_side k) _ (left_is s k c e) in
                same_out deck h.frame Capture (up_at Capture risen' fallen') pins after src only (λ p a. refl) k c e (h.cells.outs k c e) (same_clock c.clock l) (λ z. same c.clock l ∙ z);
            held = λ k c e. let l = (deck.shape).clocks_are (left_side k) _ (left_is s k c e) in
                same_held deck h.frame Capture (up_at Capture risen' fallen') pins after src only (λ p a. refl) (gate-known deck h) (own_bit s pins old k) k c e
                (h.cells.held k c e) (same_clock c.clock l) (back c.clock l);
          };
          settled = settled_same deck h.frame Capture (up_at Capture risen' fallen') pins after src only (λ p a. refl) same_clock previous (rest_settled deck h rest range);
        }
      where
        same : (i : ℕ) → i < s.clocks → up_at Capture risen' fallen' i ≡ up_at Evaluation risen fallen i
        same i l = rw (same_fallen i) (stands_on s risen fallen h.frame.clocks all i l)

        same_clock : (i : ℕ) → i < s.clocks → value_of after (net (Clock i)) ≡ value_of before (net (Clock i))
        same_clock i l = src (Clock i) l ∙ (ap clock_value (same i l) ∙ sym (h.frame.sources (Clock i) l))

        previous : (i : ℕ) → i < s.clocks → HasPreviousFallen (up_at Evaluation risen fallen) i → HasPreviousFallen (up_at Capture risen' fallen') i
        previous zero l p = p
        previous (suc i) l p = same i (omega arith) ∙ p

        back : (i : ℕ) → i < s.clocks → HasPreviousFallen (up_at Capture risen' fallen') i → HasPreviousFallen (up_at Evaluation risen fallen) i
        back zero l p = p
        back (suc i) l p = sym (same i (omega arith)) ∙ p

    -- an early clock falls: its cells are late, and those of the next clock hold
    module _ (k : ℕ) (next : k + 1 < risen) (once : fallen k ≡ false) (overlap : s.clocking ≡ Overlapping) (last : k + 1 < s.clocks)
        (is_risen : risen' ≡ risen) (is_fallen_with : (i : ℕ) → fallen' i ≡ fallen_with k fallen i) where
      pub fall : H Evaluation risen fallen old new pins kept before → AreSources net s Evaluation risen' fallen' pins after → H Evaluation risen' fallen' old new pins kept after
      fall h src =
          record {
            frame = carry deck h.frame Evaluation (up_at Evaluation risen' fallen') pins after src only
                (clocks_as s Evaluation (up_at Evaluation risen (fallen_with k fallen)) (up_at Evaluation risen' fallen') as_with (one_fallen s risen fallen h.frame.clocks k next once overlap last)) old new kept
                (λ l a. opposed_same deck h.frame Evaluation (up_at Evaluation risen' fallen') pins after src only (λ p a. refl) l a (h.frame.opposed l a))
                (λ j b e. stays (Slave j) (b, e) ∙ h.frame.slaves j b e) (λ j b e. stays (Master j) (b, e) ∙ h.frame.masters j b e) (λ z. cc) (λ j b e. tt);
            cells = record {
              sides = λ m c e. elim (dec_nat c.clock k) [ inl z ↦ late_side m c e z | inr ne ↦ other_side m c e ne ];
              outs = λ m c e. elim (dec_nat c.clock k) [ inl z ↦ late_out m c e z | inr ne ↦ other_out m c e ne ];
              held = λ m c e on early. elim (dec_nat c.clock k) [
                | inl z ↦ absurd (zero_or_one (sym (off c.clock ((deck.shape).clocks_are (left_side m) _ (left_is s m c e)) z) ∙ on))
                | inr ne ↦ elim (dec_nat c.clock (suc k)) [ inl z ↦ next_held m c e ne z on early | inr nz ↦ far_held m c e ne nz on early ]
              ];
            };
            settled = tt;
          }
        where
          as_with : (i : ℕ) → up_at Evaluation risen' fallen' i ≡ up_at Evaluation risen (fallen_with k fallen) i
          as_with i = rw (is_risen, is_fallen_with i) refl

          fallen_there : (i : ℕ) → i ≡ k → up_at Evaluation risen' fallen' i ≡ AfterFall
          fallen_there i z = subst (λ m. up_at Evaluation risen' fallen' m ≡ AfterFall) (sym z) (as_with k ∙ falls_down s risen fallen h.frame.clocks k next once overlap last)

          alone : (i : ℕ) → i ≢ k → up_at Evaluation risen' fallen' i ≡ up_at Evaluation risen fallen i
          alone i ne = as_with i ∙ falls_alone s risen fallen h.frame.clocks k next once overlap last i ne

          off : (i : ℕ) → i < s.clocks → i ≡ k → value_of after (net (Clock i)) ≡ Zero
          off i l z = src (Clock i) l ∙ rw (fallen_there i z) refl

          clock : (i : ℕ) → i < s.clocks → i ≢ k → value_of after (net (Clock i)) ≡ value_of before (net (Clock i))
          clock i l ne = src (Clock i) l ∙ (ap clock_value (alone i ne) ∙ sym (h.frame.sources (Clock i) l))

          back : (i : ℕ) → up_at Evaluation risen fallen i ≡ AfterFall → up_at Evaluation risen' fallen' i ≡ AfterFall
          back i w = elim (dec_nat i k) [ inl z ↦ fallen_there i z | inr ne ↦ alone i ne ∙ w ]

          -- the cells of the clock that falls
          late_side : (m : CellSide) (c : DynamicStage) → IsSideAt s m c → c.clock ≡ k → IsHonestSide devices is_source net s.style (up_at Evaluation risen' fallen') after m c
          late_side m c e z =
              record {
                pulled = λ o f a i w. absurd (zero_or_one (sym (off c.clock ((deck.shape).clocks_are m c e) z) ∙ o));
                spots_known = λ a i. rw (spot-same deck before after only m c e a i) ((h.cells.sides m c e).spots_known a i);
                spots_idle = λ w a i. inr (fallen_there c.clock z);
              }

          late_out : (m : ℕ) (c : DominoCell) → IsCellAt s m c → c.clock ≡ k → IsHonestOutput net (up_at Evaluation risen' fallen') after m c
          late_out m c e z =
              record {
                evaluated = λ o. absurd (zero_or_one (sym (off c.clock ((deck.shape).clocks_are (left_side m) _ (left_is s m c e)) z) ∙ o));
                idle = λ w. inr (
                  fallen_there c.clock z,
                  rw (stays (Output m) (c, e)) (output-known deck h m c e),
                  (λ x. stays (Output m) (c, e)
                      ∙ (rest_output deck h.frame rest range (gate-known deck h) m c e ∙ rw (sym (series-same deck before after only m c e) ∙ x) refl)),
                );
              }

          -- those of other clocks
          other_side : (m : CellSide) (c : DynamicStage) → IsSideAt s m c → c.clock ≢ k → IsHonestSide devices is_source net s.style (up_at Evaluation risen' fallen') after m c
          other_side m c e ne =
              same_side deck h.frame Evaluation (up_at Evaluation risen' fallen') pins after src only (λ p a. refl) m c e (h.cells.sides m c e)
              (clock c.clock ((deck.shape).clocks_are m c e) ne) (λ w. alone c.clock ne ∙ w) (same_previous (up_at Evaluation risen fallen) (up_at Evaluation risen' fallen') back c.clock)

          other_out : (m : ℕ) (c : DominoCell) → IsCellAt s m c → c.clock ≢ k → IsHonestOutput net (up_at Evaluation risen' fallen') after m c
          other_out m c e ne =
              same_out deck h.frame Evaluation (up_at Evaluation risen' fallen') pins after src only (λ p a. refl) m c e (h.cells.outs m c e)
              (clock c.clock ((deck.shape).clocks_are (left_side m) _ (left_is s m c e)) ne) (λ w. alone c.clock ne ∙ w)

          far_held : (m : ℕ) (c : DominoCell) → IsCellAt s m c → c.clock ≢ k → c.clock ≢ suc k → value_of after (net (Clock c.clock)) ≡ One
              → HasPreviousFallen (up_at Evaluation risen' fallen') c.clock → IsHeldCell devices is_source net (own_bit s pins old m) after m c
          far_held m c e ne nz =
              same_held deck h.frame Evaluation (up_at Evaluation risen' fallen') pins after src only (λ p a. refl) (gate-known deck h) (own_bit s pins old m) m c e
              (h.cells.held m c e) (clock c.clock ((deck.shape).clocks_are (left_side m) _ (left_is s m c e)) ne) (before_too c.clock nz)
            where
              before_too : (i : ℕ) → i ≢ suc k → HasPreviousFallen (up_at Evaluation risen' fallen') i → HasPreviousFallen (up_at Evaluation risen fallen) i
              before_too zero n p = p
              before_too (suc i) n p = sym (alone i (λ w. n (ap (λ j. suc j) w))) ∙ p

          -- one that reads the cells of the clock that falls
          next_held : (m : ℕ) (c : DominoCell) → IsCellAt s m c → c.clock ≢ k → c.clock ≡ suc k → value_of after (net (Clock c.clock)) ≡ One
              → HasPreviousFallen (up_at Evaluation risen' fallen') c.clock → IsHeldCell devices is_source net (own_bit s pins old m) after m c
          next_held m c e ne z o early =
              let same = clock c.clock ((deck.shape).clocks_are (left_side m) _ (left_is s m c e)) ne in
              held_same deck h.frame Evaluation (up_at Evaluation risen' fallen') pins after src only (λ p a. refl) (gate-known deck h) (own_bit s pins old m) m c e
              ((deck.shape).overlap overlap) (sym same ∙ o) same
              (rest_held deck risen fallen old new pins kept before h rest range (inl overlap) ((deck.shape).overlap overlap) m c e
              (up_of deck h.frame c.clock ((deck.shape).clocks_are (left_side m) _ (left_is s m c e)) (sym same ∙ o)) (free c.clock z))
            where
              free : (i : ℕ) → i ≡ suc k → HasPreviousFallen (up_at Evaluation risen fallen) i → ⊥
              free zero w p = p
              free (suc i) w p =
                  let y : i ≡ k = omega arith in
                  raised_fallen (sym (falls_up s risen fallen h.frame.clocks k next once overlap last) ∙ subst (λ j. up_at Evaluation risen fallen j ≡ AfterFall) y p)

    pub to_captured : ((i : ℕ) → fallen' i ≡ fallen i) → H Capture risen fallen old new pins kept before → AreSources net s Captured risen' fallen' pins after → H Captured risen' fallen' old new pins kept after
    to_captured same_fallen h src =
        record {
          frame = carry deck h.frame Captured (up_at Captured risen' fallen') pins after src only (clocks_as s Captured (up_at Captured risen fallen) (up_at Captured risen' fallen') (λ i. rw (same_fallen i) refl) (at_captured s risen fallen h.frame.clocks)) old new kept
              (λ l a. opposed_same deck h.frame Captured (up_at Captured risen' fallen') pins after src only (λ p a. refl) l a (h.frame.opposed l a))
              (λ j b e. stays (Slave j) (b, e) ∙ h.frame.slaves j b e)
              (λ j b e. stays (Master j) (b, e)
              ∙ (rest_at deck before rest range (Master j) (b, e) _
              (clocked_target devices is_source net before (h.frame.sources Vdd tt) (h.frame.sources Vss tt) (λ a. net (At (Master j) a)) Lmb Lm (At (Next j) Top) [] (master_is deck j b e) (h.frame.sources Lmb tt) (h.frame.sources Lm tt) tt (h.frame.nexts j b e))
              ∙ rw (h.frame.next_is j b e) refl))
              (λ z. cc) (λ j b e. stays (Next j) (b, e) ∙ h.frame.next_is j b e);
          cells = record {
            sides = λ k c e. let l = (deck.shape).clocks_are k c e in
                same_side deck h.frame Captured (up_at Captured risen' fallen') pins after src only (λ p a. refl) k c e (h.cells.sides k c e) (same_clock c.clock l) (λ z. same c.clock ∙ z) (same_previous (up_at Capture risen fallen) (up_at Captured risen' fallen') (λ j z. same j ∙ z) c.clock);
            outs = λ k c e. let l = (deck.shape).clocks_are (left_side k) _ (left_is s k c e) in
                same_out deck h.frame Captured (up_at Captured risen' fallen') pins after src only (λ p a. refl) k c e (h.cells.outs k c e) (same_clock c.clock l) (λ z. same c.clock ∙ z);
            held = λ k c e. let l = (deck.shape).clocks_are (left_side k) _ (left_is s k c e) in
                same_held deck h.frame Captured (up_at Captured risen' fallen') pins after src only (λ p a. refl) (gate-known deck h) (own_bit s pins old k) k c e
                (h.cells.held k c e) (same_clock c.clock l) (same_previous (up_at Captured risen' fallen') (up_at Capture risen fallen) (λ j z. sym (same j) ∙ z) c.clock);
          };
          settled = settled_same deck h.frame Captured (up_at Captured risen' fallen') pins after src only (λ p a. refl) same_clock
              (λ i l. same_previous (up_at Capture risen fallen) (up_at Captured risen' fallen') (λ j z. same j ∙ z) i) h.settled;
        }
      where
        same : (i : ℕ) → up_at Captured risen' fallen' i ≡ up_at Capture risen fallen i
        same i = rw (same_fallen i) refl

        same_clock : (i : ℕ) → i < s.clocks → value_of after (net (Clock i)) ≡ value_of before (net (Clock i))
        same_clock i l = src (Clock i) l ∙ (ap clock_value (same i) ∙ sym (h.frame.sources (Clock i) l))

    pub to_precharge : H Captured risen fallen old new pins kept before → AreSources net s Precharge risen' fallen' pins after → H Precharge risen' fallen' old new pins kept after
    to_precharge h src =
        record {
          frame = carry deck h.frame Precharge (up_at Precharge risen' fallen') pins after src only (all_fallen s risen' fallen') old new kept
              (λ l a. opposed_same deck h.frame Precharge (up_at Precharge risen' fallen') pins after src only (λ p a. refl) l a (h.frame.opposed l a))
              (λ j b e. stays (Slave j) (b, e) ∙ h.frame.slaves j b e) (λ j b e. stays (Master j) (b, e) ∙ h.frame.masters j b e) (λ z. cc) (λ j b e. tt);
          cells = record {
            sides = λ k c e. record {
              pulled = λ o f a i z. absurd (zero_or_one (sym (src (Clock c.clock) ((deck.shape).clocks_are k c e)) ∙ o));
              spots_known = λ a i. rw (spot-same deck before after only k c e a i) ((h.cells.sides k c e).spots_known a i);
              spots_idle = λ off a i. inr refl;
            };
            outs = λ k c e. record {
              evaluated = λ o. absurd (zero_or_one (sym (src (Clock c.clock) ((deck.shape).clocks_are (left_side k) _ (left_is s k c e))) ∙ o));
              idle = λ off. inr (
                refl,
                rw (stays (Output k) (c, e)) (output-known deck h k c e),
                (λ x. stays (Output k) (c, e) ∙ (h.settled.cells k c e ∙ rw (sym (series-same deck before after only k c e) ∙ x) refl)),
              );
            };
            held = λ k c e o. absurd (zero_or_one (sym (src (Clock c.clock) ((deck.shape).clocks_are (left_side k) _ (left_is s k c e))) ∙ o));
          };
          settled = tt;
        }

    pub to_launch : H Precharge risen fallen old new pins kept before → AreSources net s Launch risen' fallen' pins after → H Launch risen' fallen' old new pins kept after
    to_launch h src =
        record {
          frame = carry deck h.frame Launch (up_at Launch risen' fallen') pins after src only (all_waiting s Launch (up_at Launch risen' fallen') (λ i. refl) (λ i. refl)) old new kept
              (comp-known deck h.frame Launch (up_at Launch risen' fallen') pins after src only) (λ j b e. inl (stays (Slave j) (b, e) ∙ h.frame.slaves j b e))
              (λ j b e. stays (Master j) (b, e) ∙ h.frame.masters j b e) (λ z. cc) (λ j b e. tt);
          cells = fresh_cells Precharge (up_at Launch risen' fallen') old pins h (λ i l. h.frame.sources (Clock i) l) (λ i z. before_fallen z);
          settled = tt;
        }

    pub to_launched : H Launch risen fallen old new pins kept before → AreSources net s Launched risen' fallen' pins after → H Launched risen' fallen' old new pins kept after
    to_launched h src =
        record {
          frame = carry deck h.frame Launched (up_at Launched risen' fallen') pins after src only (all_waiting s Launched (up_at Launched risen' fallen') (λ i. refl) (λ i. refl)) old new kept
              (comp-known deck h.frame Launched (up_at Launched risen' fallen') pins after src only)
              (λ j b e. stays (Slave j) (b, e)
              ∙ (rest_at deck before rest range (Slave j) (b, e) _
              (slave_open devices is_source net before (h.frame.sources Vdd tt) (h.frame.sources Vss tt) (λ a. net (At (Slave j) a)) (At (Master j) Top) b.init (slave_is deck j b e)
              (h.frame.sources Lsb tt) (h.frame.sources Ls tt) (h.frame.sources Rs tt) (h.frame.sources Rsb tt)
              (rw (h.frame.masters j b e) (opposite-known _ (bit-known (new j)))))
              ∙ rw (h.frame.masters j b e) (opposite_twice (new j))))
              (λ j b e. stays (Master j) (b, e) ∙ h.frame.masters j b e) (λ z. cc) (λ j b e. tt);
          cells = fresh_cells Launch (up_at Launched risen' fallen') old pins h (λ i l. h.frame.sources (Clock i) l) (λ i z. before_fallen z);
          settled = tt;
        }
