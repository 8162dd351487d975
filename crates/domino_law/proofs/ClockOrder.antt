-- Where the clocks stand at each place, and after each move.
use Rattle.std.specs.Prelude.{nat_eq, nat_lt, ◌≢◌, ◌⊎◌}
use Rattle.std.proofs.Common.{Bool, arith, false, inl, inr, refl, suc, sym, true, zero, ℕ, ◌+◌, ◌<◌, ◌∙◌, ◌≡◌, subst, ap, ◌≤◌}
use Rattle.std.proofs.lemmas.Bool.{eq-eqb, eqb-true}
use Rattle.dom_base.specs.declared.tri.Tri.TheVariants.{One, Zero}
use Rattle.dom_base.proofs.Bools.{never}
use Rattle.dom_base.proofs.Decided.{dec_nat, lt_or_ge}
use Rattle.sp_network.specs.Known.{IsKnown}
use Rattle.switch_model.proofs.Searches.{first-false, first-true}
use Rattle.port_runs.specs.Environment.{Capture, Captured, Evaluation, Place, Precharge, fallen_with, none_fallen}
use Rattle.port_runs.specs.declared.clocking.Clocking.TheVariants.{Overlapping}
use Rattle.domino_law.specs.Honest.{HasPreviousFallen}
use Rattle.domino_law.specs.Places.{AfterFall, AreClocksAt, BeforeRise, ClockState, IsStateAt, Raised, clock_value, fallen_state, risen_state, up_at}
use Rattle.domino_law.specs.Shape.{Shape}

pub before_raised : BeforeRise ≡ Raised → ⊥
before_raised e = cc

pub before_fallen : BeforeRise ≡ AfterFall → ⊥
before_fallen e = cc

pub raised_fallen : Raised ≡ AfterFall → ⊥
raised_fallen e = cc

pub state-known : (c : ClockState) → IsKnown (clock_value c)
state-known BeforeRise = inl refl
state-known Raised = inr refl
state-known AfterFall = inl refl

pub state_up : (c : ClockState) → clock_value c ≡ One → c ≡ Raised
state_up BeforeRise e = absurd (cc)
state_up Raised e = refl
state_up AfterFall e = absurd (cc)

pub state_down : (c : ClockState) → clock_value c ≡ Zero → (c ≡ BeforeRise) ⊎ (c ≡ AfterFall)
state_down BeforeRise e = inl refl
state_down Raised e = absurd (cc)
state_down AfterFall e = inr refl

-- a clock state is one of three
pub dec_fallen : (c : ClockState) → (c ≡ AfterFall) ⊎ (c ≢ AfterFall)
dec_fallen BeforeRise = inr (λ e. cc)
dec_fallen Raised = inr (λ e. cc)
dec_fallen AfterFall = inl refl

pub raised_where : (c : ClockState) → c ≢ BeforeRise → c ≢ AfterFall → c ≡ Raised
raised_where BeforeRise a b = absurd (a refl)
raised_where Raised a b = refl
raised_where AfterFall a b = absurd (b refl)

pub dec_previous : (up : ℕ → ClockState) (i : ℕ) → HasPreviousFallen up i ⊎ (HasPreviousFallen up i → ⊥)
dec_previous up zero = inr (λ e. e)
dec_previous up (suc i) = dec_fallen (up i)

below : (i risen : ℕ) → nat_lt i risen ≡ true → i < risen
below i risen h = elim (lt_or_ge i risen) [
  | inl l ↦ l
  | inr g ↦ absurd (never {b = nat_lt i risen} h (first-false risen i g))
]

pub same_previous : (up up' : ℕ → ClockState) → ((j : ℕ) → up j ≡ AfterFall → up' j ≡ AfterFall) → (i : ℕ) → HasPreviousFallen up i → HasPreviousFallen up' i
same_previous up up' f zero p = p
same_previous up up' f (suc i) p = f i p

pub none_previous : (up : ℕ → ClockState) → ((j : ℕ) → up j ≢ AfterFall) → (i : ℕ) → HasPreviousFallen up i → ⊥
none_previous up f zero p = p
none_previous up f (suc i) p = f i p

pub fallen_with-same : (k : ℕ) (fallen : ℕ → Bool) → fallen_with k fallen k ≡ true
fallen_with-same k fallen = rw (eq-eqb k k refl) refl

pub fallen_with-other : (k : ℕ) (fallen : ℕ → Bool) (i : ℕ) → i ≢ k → fallen_with k fallen i ≡ fallen i
fallen_with-other k fallen i ne = go (nat_eq i k) refl
  where
    go : (b : Bool) → nat_eq i k ≡ b → fallen_with k fallen i ≡ fallen i
    go true e = absurd (ne (eqb-true i k e))
    go false e = rw e refl

-- in evaluation
module _ (risen : ℕ) (fallen : ℕ → Bool) (i : ℕ) where
  pub is_raised : i < risen → fallen i ≡ false → up_at Evaluation risen fallen i ≡ Raised
  is_raised l f = rw (f, first-true risen i l) refl

  pub is_fallen : fallen i ≡ true → up_at Evaluation risen fallen i ≡ AfterFall
  is_fallen f = rw f refl

  pub from_raised : up_at Evaluation risen fallen i ≡ Raised → (i < risen) × (fallen i ≡ false)
  from_raised e = go (fallen i) (nat_lt i risen) refl refl e
    where
      go : (a b : Bool) → fallen i ≡ a → nat_lt i risen ≡ b → fallen_state a (risen_state b) ≡ Raised → (i < risen) × (fallen i ≡ false)
      go true b x y z = absurd (cc)
      go false true x y z = (below i risen y, x)
      go false false x y z = absurd (cc)

  pub from_fallen : up_at Evaluation risen fallen i ≡ AfterFall → fallen i ≡ true
  from_fallen e = go (fallen i) (nat_lt i risen) refl e
    where
      go : (a b : Bool) → fallen i ≡ a → fallen_state a (risen_state b) ≡ AfterFall → fallen i ≡ true
      go true b x z = x
      go false true x z = absurd (cc)
      go false false x z = absurd (cc)

  pub from_open : up_at Evaluation risen fallen i ≢ BeforeRise → (fallen i ≡ true) ⊎ (i < risen)
  from_open e = go (fallen i) (nat_lt i risen) refl refl e
    where
      go : (a b : Bool) → fallen i ≡ a → nat_lt i risen ≡ b → fallen_state a (risen_state b) ≢ BeforeRise → (fallen i ≡ true) ⊎ (i < risen)
      go true b x y z = inl x
      go false true x y z = inr (below i risen y)
      go false false x y z = absurd (z refl)

  pub open_below : i < risen → up_at Evaluation risen fallen i ≢ BeforeRise
  open_below l e = go (fallen i) (nat_lt i risen) (first-true risen i l) e
    where
      go : (a b : Bool) → b ≡ true → fallen_state a (risen_state b) ≡ BeforeRise → ⊥
      go true b y z = cc
      go false true y z = cc
      go false false y z = cc

  pub open_fallen : fallen i ≡ true → up_at Evaluation risen fallen i ≢ BeforeRise
  open_fallen f e = let z : AfterFall ≡ BeforeRise = sym (is_fallen f) ∙ e in cc

-- a clock that has risen stands in capture as before
pub risen_same : (risen : ℕ) (fallen : ℕ → Bool) (i : ℕ) → i < risen → up_at Evaluation risen fallen i ≡ up_at Capture risen fallen i
risen_same risen fallen i l = rw (first-true risen i l) refl

-- clocks that stand as others do
pub clocks_as : (s : Shape) (place : Place) (up up' : ℕ → ClockState) → ((i : ℕ) → up' i ≡ up i) → AreClocksAt s place up → AreClocksAt s place up'
clocks_as s place up up' same h =
    record {
      at = λ i. subst (IsStateAt place) (sym (same i)) (h.at i);
      early = λ i e. h.early i (sym (same i) ∙ e);
      in_order = λ i n e. h.in_order i (λ z. n (same (suc i) ∙ z)) (sym (same i) ∙ e);
      after_next = λ i e z. h.after_next i (sym (same i) ∙ e) (sym (same (suc i)) ∙ z);
    }

-- the places at which no clock is up
pub all_waiting : (s : Shape) (place : Place) (up : ℕ → ClockState) → ((i : ℕ) → up i ≡ BeforeRise) → ((i : ℕ) → IsStateAt place (up i)) → AreClocksAt s place up
all_waiting s place up h at =
    record {
      at = at;
      early = λ i e. absurd (before_fallen (sym (h i) ∙ e));
      in_order = λ i n. absurd (n (h (suc i)));
      after_next = λ i e. absurd (before_fallen (sym (h i) ∙ e));
    }

pub all_fallen : (s : Shape) (risen : ℕ) (fallen : ℕ → Bool) → AreClocksAt s Precharge (up_at Precharge risen fallen)
all_fallen s risen fallen =
    record {
      at = λ i. refl;
      early = λ i e. inl refl;
      in_order = λ i n e. cc;
      after_next = λ i e z. cc;
    }

-- the first clock has risen
pub first_risen : (s : Shape) → AreClocksAt s Evaluation (up_at Evaluation 1 none_fallen)
first_risen s =
    record {
      at = λ i. tt;
      early = λ i e. absurd (no (from_fallen 1 none_fallen i e));
      in_order = λ i n. elim (from_open 1 none_fallen (suc i) n) [ inl e ↦ absurd (no e) | inr l ↦ absurd (omega arith) ];
      after_next = λ i e. absurd (no (from_fallen 1 none_fallen i e));
    }
  where
    no : false ≡ true → ⊥
    no e = cc

module _ (s : Shape) (risen : ℕ) (fallen : ℕ → Bool) (h : AreClocksAt s Evaluation (up_at Evaluation risen fallen)) where
  overlaps : (i : ℕ) → fallen i ≡ true → (s.clocking ≡ Overlapping) × (i + 1 < s.clocks)
  overlaps i f = elim (h.early i (is_fallen risen fallen i f)) [ inl z ↦ absurd (cc) | inr o ↦ o ]

  -- a later clock rises
  pub next_risen : risen < s.clocks → AreClocksAt s Evaluation (up_at Evaluation (risen + 1) fallen)
  next_risen l =
      record {
        at = λ i. tt;
        early = λ i e. inr (overlaps i (from_fallen (risen + 1) fallen i e));
        in_order = λ i n. elim (from_open (risen + 1) fallen (suc i) n) [
          | inl f ↦ wider i (h.in_order i (open_fallen risen fallen (suc i) f))
          | inr lt ↦ open_below (risen + 1) fallen i (omega arith)
        ];
        after_next = λ i e. wider (suc i) (h.after_next i (is_fallen risen fallen i (from_fallen (risen + 1) fallen i e)));
      }
    where
      wider : (i : ℕ) → up_at Evaluation risen fallen i ≢ BeforeRise → up_at Evaluation (risen + 1) fallen i ≢ BeforeRise
      wider i n = elim (from_open risen fallen i n) [
        | inl f ↦ open_fallen (risen + 1) fallen i f
        | inr lt ↦ open_below (risen + 1) fallen i (omega arith)
      ]

  -- an early clock falls
  module _ (k : ℕ) (next : k + 1 < risen) (once : fallen k ≡ false) (overlap : s.clocking ≡ Overlapping) (last : k + 1 < s.clocks) where
    -- the clock that falls was up, and is down; the others stay
    pub falls_up : up_at Evaluation risen fallen k ≡ Raised
    falls_up = is_raised risen fallen k (omega arith) once

    pub falls_down : up_at Evaluation risen (fallen_with k fallen) k ≡ AfterFall
    falls_down = is_fallen risen (fallen_with k fallen) k (fallen_with-same k fallen)

    pub falls_alone : (i : ℕ) → i ≢ k → up_at Evaluation risen (fallen_with k fallen) i ≡ up_at Evaluation risen fallen i
    falls_alone i ne = rw (fallen_with-other k fallen i ne) refl

    pub one_fallen : AreClocksAt s Evaluation (up_at Evaluation risen (fallen_with k fallen))
    one_fallen =
        record {
          at = λ i. tt;
          early = λ i e. inr (elim (dec_nat i k) [
            | inl z ↦ (overlap, rw z last)
            | inr ne ↦ overlaps i (from_fallen risen fallen i (sym (falls_alone i ne) ∙ e))
          ]);
          in_order = λ i n. elim (dec_nat i k) [
            | inl z ↦ rw z (opened k (inl refl))
            | inr ne ↦ elim (dec_nat (suc i) k) [
              | inl z ↦ opened i (inr (open_below risen fallen i (omega arith)))
              | inr ns ↦ opened i (inr (h.in_order i (λ w. n (falls_alone (suc i) ns ∙ w))))
            ]
          ];
          after_next = λ i e. elim (dec_nat i k) [
            | inl z ↦ opened (suc i) (inr (open_below risen fallen (suc i) (omega arith)))
            | inr ne ↦ opened (suc i) (inr (h.after_next i (sym (falls_alone i ne) ∙ e)))
          ];
        }
      where
        opened : (i : ℕ) → (i ≡ k) ⊎ (up_at Evaluation risen fallen i ≢ BeforeRise) → up_at Evaluation risen (fallen_with k fallen) i ≢ BeforeRise
        opened i (inl z) w = let y : AfterFall ≡ BeforeRise = sym falls_down ∙ subst (λ j. up_at Evaluation risen (fallen_with k fallen) j ≡ BeforeRise) z w in cc
        opened i (inr n) w = elim (dec_nat i k) [
          | inl z ↦ let y : AfterFall ≡ BeforeRise = sym falls_down ∙ subst (λ j. up_at Evaluation risen (fallen_with k fallen) j ≡ BeforeRise) z w in cc
          | inr ne ↦ n (sym (falls_alone i ne) ∙ w)
        ]

  -- capture keeps them
  pub stands_on : risen ≡ s.clocks → (i : ℕ) → i < s.clocks → up_at Capture risen fallen i ≡ up_at Evaluation risen fallen i
  stands_on all i l = go (fallen i) refl
    where
      go : (b : Bool) → fallen i ≡ b → up_at Capture risen fallen i ≡ up_at Evaluation risen fallen i
      go true f = rw f refl
      go false f = rw f (sym (rw f at (is_raised risen fallen i (omega arith) f)))

  pub at_capture : AreClocksAt s Capture (up_at Capture risen fallen)
  at_capture =
      record {
        at = λ i. begun (fallen i);
        early = λ i e. inr (overlaps i (down (fallen i) e));
        in_order = λ i n. begun (fallen i);
        after_next = λ i e. begun (fallen (suc i));
      }
    where
      begun : (b : Bool) → fallen_state b Raised ≢ BeforeRise
      begun true e = cc
      begun false e = cc

      down : (b : Bool) → fallen_state b Raised ≡ AfterFall → b ≡ true
      down true e = refl
      down false e = absurd (cc)

pub at_captured : (s : Shape) (risen : ℕ) (fallen : ℕ → Bool) → AreClocksAt s Capture (up_at Capture risen fallen) → AreClocksAt s Captured (up_at Captured risen fallen)
at_captured s risen fallen h =
    record {
      at = h.at;
      early = λ i e. elim (h.early i e) [ inl z ↦ absurd (cc) | inr o ↦ inr o ];
      in_order = h.in_order;
      after_next = h.after_next;
    }

-- Clocks at one place that have the same values stand alike.
module _ (s : Shape) (place : Place) (up up' : ℕ → ClockState) (h : AreClocksAt s place up) (h' : AreClocksAt s place up') (ne : place ≢ Precharge)
    (same : (i : ℕ) → i < s.clocks → clock_value (up i) ≡ clock_value (up' i)) where
  never_up : (c : ClockState) → clock_value c ≡ Zero → c ≢ BeforeRise → c ≡ AfterFall
  never_up c z n = elim (state_down c z) [ inl e ↦ absurd (n e) | inr e ↦ e ]

  waits_on : (i : ℕ) → up' i ≡ BeforeRise → up' (suc i) ≡ BeforeRise
  waits_on i w = go (up' (suc i)) refl
    where
      go : (c : ClockState) → up' (suc i) ≡ c → up' (suc i) ≡ BeforeRise
      go BeforeRise e = e
      go Raised e = absurd (h'.in_order i (λ z. before_raised (sym z ∙ e)) w)
      go AfterFall e = absurd (h'.in_order i (λ z. before_fallen (sym z ∙ e)) w)

  not_last : (i : ℕ) → up i ≡ AfterFall → i + 1 < s.clocks
  not_last i f = elim (h.early i f) [ inl z ↦ absurd (ne z) | inr o ↦ o.1 ]

  -- a clock that has fallen isn't one that has not risen: else so it would be with the next one, up to the last
  pub no_gap : (n i : ℕ) → s.clocks ≤ i + n → up i ≡ AfterFall → up' i ≡ BeforeRise → ⊥
  no_gap zero i l f w = let m = not_last i f in omega arith
  no_gap (suc n) i l f w =
      let m = not_last i f in
      no_gap n (suc i) (omega arith) (never_up (up (suc i)) (same (suc i) (omega arith) ∙ rw (waits_on i w) refl) (h.after_next i f)) (waits_on i w)

pub stand_alike : (s : Shape) (place : Place) (up up' : ℕ → ClockState) → AreClocksAt s place up → AreClocksAt s place up' → place ≢ Precharge
    → ((i : ℕ) → i < s.clocks → clock_value (up i) ≡ clock_value (up' i)) → (i : ℕ) → i < s.clocks → up i ≡ up' i
stand_alike s place up up' h h' ne same i l = go (up i) (up' i) refl refl
  where
    go : (c d : ClockState) → up i ≡ c → up' i ≡ d → up i ≡ up' i
    go BeforeRise BeforeRise a b = a ∙ sym b
    go Raised Raised a b = a ∙ sym b
    go AfterFall AfterFall a b = a ∙ sym b
    go BeforeRise AfterFall a b = absurd (no_gap s place up' up h' h ne (λ j m. sym (same j m)) s.clocks i (omega arith) b a)
    go AfterFall BeforeRise a b = absurd (no_gap s place up up' h h' ne same s.clocks i (omega arith) a b)
    go Raised BeforeRise a b = let z : One ≡ Zero = sym (ap clock_value a) ∙ (same i l ∙ ap clock_value b) in absurd (cc)
    go Raised AfterFall a b = let z : One ≡ Zero = sym (ap clock_value a) ∙ (same i l ∙ ap clock_value b) in absurd (cc)
    go BeforeRise Raised a b = let z : Zero ≡ One = sym (ap clock_value a) ∙ (same i l ∙ ap clock_value b) in absurd (cc)
    go AfterFall Raised a b = let z : Zero ≡ One = sym (ap clock_value a) ∙ (same i l ∙ ap clock_value b) in absurd (cc)

-- beyond the last clock nothing rises or falls
pub stand_beyond : (s : Shape) (place : Place) (risen risen' : ℕ) (fallen fallen' : ℕ → Bool)
    → AreClocksAt s place (up_at place risen fallen) → AreClocksAt s place (up_at place risen' fallen')
    → (place ≡ Evaluation → (risen ≤ s.clocks) × (risen' ≤ s.clocks)) → (i : ℕ) → s.clocks ≤ i → up_at place risen fallen i ≡ up_at place risen' fallen' i
stand_beyond s Evaluation risen risen' fallen fallen' h h' few i g = waits risen fallen h (few refl).0 ∙ sym (waits risen' fallen' h' (few refl).1)
  where
    waits : (risen : ℕ) (fallen : ℕ → Bool) → AreClocksAt s Evaluation (up_at Evaluation risen fallen) → risen ≤ s.clocks → up_at Evaluation risen fallen i ≡ BeforeRise
    waits risen fallen h l = go (fallen i) refl
      where
        go : (b : Bool) → fallen i ≡ b → up_at Evaluation risen fallen i ≡ BeforeRise
        go false f = rw (f, first-false risen i (omega arith)) refl
        go true f = elim (h.early i (is_fallen risen fallen i f)) [ inl z ↦ absurd (cc) | inr o ↦ (let m = o.1 in absurd (omega arith)) ]
stand_beyond s Capture risen risen' fallen fallen' h h' few i g = up_there fallen h.early ∙ sym (up_there fallen' h'.early)
  where
    up_there : (f : ℕ → Bool) → ((j : ℕ) → fallen_state (f j) Raised ≡ AfterFall → (Capture ≡ Precharge) ⊎ ((s.clocking ≡ Overlapping) × (j + 1 < s.clocks))) → fallen_state (f i) Raised ≡ Raised
    up_there f early = go (f i) refl
      where
        go : (b : Bool) → f i ≡ b → fallen_state (f i) Raised ≡ Raised
        go false e = rw e refl
        go true e = elim (early i (rw e refl)) [ inl z ↦ absurd (cc) | inr o ↦ (let m = o.1 in absurd (omega arith)) ]
stand_beyond s Captured risen risen' fallen fallen' h h' few i g = up_there fallen h.early ∙ sym (up_there fallen' h'.early)
  where
    up_there : (f : ℕ → Bool) → ((j : ℕ) → fallen_state (f j) Raised ≡ AfterFall → (Captured ≡ Precharge) ⊎ ((s.clocking ≡ Overlapping) × (j + 1 < s.clocks))) → fallen_state (f i) Raised ≡ Raised
    up_there f early = go (f i) refl
      where
        go : (b : Bool) → f i ≡ b → fallen_state (f i) Raised ≡ Raised
        go false e = rw e refl
        go true e = elim (early i (rw e refl)) [ inl z ↦ absurd (cc) | inr o ↦ (let m = o.1 in absurd (omega arith)) ]
stand_beyond s _ risen risen' fallen fallen' h h' few i g = refl
