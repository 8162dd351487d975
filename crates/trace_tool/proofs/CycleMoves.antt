-- The moves of a trace are moves of the environment, each allowed after those before it.
use Rattle.std.specs.Prelude.{◌⊎◌}
use Rattle.std.proofs.Common.{◌≡◌, ℕ, zero, suc, ◌+◌, ◌-◌, ◌<◌, Bool, true, false, List, [], ◌∷◌, length, map, nat_eq, replicate, refl, sym, ap, ◌∙◌, arith}
use Rattle.std.proofs.lemmas.Bool.{eqb-true}
use Rattle.dom_base.specs.declared.tri.Tri.TheVariants.{One, Zero}
use Rattle.deck.specs.PortLayout.{first_clock, first_pin}
use Rattle.deck.specs.declared.role.Roles.{Roles}
use Rattle.port_runs.specs.Environment.{Capture, Captured, Evaluation, Fall, IsNext, Launch, Launched, Move, Open, Place, Precharge, Released, Reset, Rise, Take, World, after_move, bit, fallen_with}
use Rattle.port_runs.specs.LegalSteps.{ClockedLinks}
use Rattle.port_runs.specs.Moves.{set_from}
use Rattle.port_runs.specs.declared.clocking.Clocking.{Clocking}
use Rattle.port_runs.specs.declared.clocking.Clocking.TheVariants.{Overlapping, Together}
use Rattle.trace_tool.specs.Moves.{evaluation_by, evaluation_moves, overlapping_moves, rises_and_falls}
use Rattle.trace_tool.proofs.PortWalks.{AreAllowed, after_moves, settings_from, taken}

-- pins are taken at the rest of released or launched
abbrev pub IsBetween : World → Type 0
IsBetween w = (w.place ≡ Released) ⊎ (w.place ≡ Launched)

-- the moves up to a reading, on one clock more than so many
abbrev pub to_reading : List Bool → ℕ → List Move
to_reading pins more = Take pins ∷ Open Evaluation ∷ replicate more Rise

-- where clocks overlap, from clock i on, so many times: the next clock rises, then this one falls
abbrev pub falls_in_turn : ℕ → ℕ → List Move
falls_in_turn i zero = []
falls_in_turn i (suc n) = Rise ∷ Fall i ∷ falls_in_turn (i + 1) n

abbrev pub overlapping_reading : List Bool → ℕ → List Move
overlapping_reading pins more = Take pins ∷ Open Evaluation ∷ falls_in_turn 0 more

-- those up to a reading by how the clocks fall
abbrev pub reading_by : Clocking → List Bool → ℕ → List Move
reading_by Together = to_reading
reading_by Overlapping = overlapping_reading

-- and those from it on
abbrev pub from_reading : List Move
from_reading = Open Capture ∷ Open Captured ∷ Open Precharge ∷ Open Launch ∷ Open Launched ∷ []

-- the later clocks rise
pub rises_end : (n : ℕ) (w : World) → after_moves (replicate n Rise) w ≡ record w { risen = w.risen + n }
rises_end zero w = ap (λ r. record w { risen = r }) (same w.risen)
  where
    same : (r : ℕ) → r ≡ r + 0
    same r = omega arith
rises_end (suc n) w = rises_end n (after_move Rise w) ∙ ap (λ r. record w { risen = r }) (shift w.risen n)
  where
    shift : (r n : ℕ) → r + 1 + n ≡ r + suc n
    shift r n = omega arith

pub rises_take_none : (n : ℕ) → taken (replicate n Rise) ≡ []
rises_take_none zero = refl
rises_take_none (suc n) = rises_take_none n

falls_take_none : (i n : ℕ) → taken (falls_in_turn i n) ≡ []
falls_take_none i zero = refl
falls_take_none i (suc n) = falls_take_none (i + 1) n

pub falls_end : (i n : ℕ) (w : World)
    → after_moves (falls_in_turn i n) w ≡ record w { risen = w.risen + n; fallen = (after_moves (falls_in_turn i n) w).fallen }
falls_end i zero w = ap (λ r. record w { risen = r }) (same w.risen)
  where
    same : (r : ℕ) → r ≡ r + 0
    same r = omega arith
falls_end i (suc n) w =
    falls_end (i + 1) n (after_move (Fall i) (after_move Rise w))
    ∙ ap (λ r. record w { risen = r; fallen = (after_moves (falls_in_turn i (suc n)) w).fallen }) (shift w.risen n)
  where
    shift : (r n : ℕ) → r + 1 + n ≡ r + suc n
    shift r n = omega arith

-- they take the pins, and lead to the evaluation in which all clocks have risen
pub reading_takes : (clocking : Clocking) (pins : List Bool) (more : ℕ) → taken (reading_by clocking pins more) ≡ pins ∷ []
reading_takes Together pins more = ap (λ x. pins ∷ x) (rises_take_none more)
reading_takes Overlapping pins more = ap (λ x. pins ∷ x) (falls_take_none 0 more)

pub reading_evaluates : (clocking : Clocking) (pins : List Bool) (more : ℕ) (w : World) → (after_moves (reading_by clocking pins more) w).place ≡ Evaluation
reading_evaluates Together pins more w = ap (λ (u : World). u.place) (rises_end more (after_move (Open Evaluation) (after_move (Take pins) w)))
reading_evaluates Overlapping pins more w = ap (λ (u : World). u.place) (falls_end 0 more (after_move (Open Evaluation) (after_move (Take pins) w)))

pub reading_rises : (clocking : Clocking) (pins : List Bool) (more : ℕ) (w : World) → (after_moves (reading_by clocking pins more) w).risen ≡ 1 + more
reading_rises Together pins more w = ap (λ (u : World). u.risen) (rises_end more (after_move (Open Evaluation) (after_move (Take pins) w)))
reading_rises Overlapping pins more w = ap (λ (u : World). u.risen) (falls_end 0 more (after_move (Open Evaluation) (after_move (Take pins) w)))

-- the moves up to a reading are those of a trace
module _ (roles : Roles) where
  rises_are : (n : ℕ) (w : World) → settings_from roles (replicate n Rise) w ≡ map (λ s. s ∷ []) (set_from (2 + w.risen) (replicate n One))
  rises_are zero w = refl
  rises_are (suc n) w =
      ap (λ l. set_from (2 + w.risen) (One ∷ []) ∷ l)
      (rises_are n (after_move Rise w) ∙ ap (λ p. map (λ s. s ∷ []) (set_from p (replicate n One))) (shift w.risen))
    where
      shift : (r : ℕ) → 2 + (r + 1) ≡ 2 + r + 1
      shift r = omega arith

  pub evaluation_is : (pins : List Bool) (more : ℕ) (w : World) → roles.clocks ≡ suc more
      → settings_from roles (to_reading pins more) w ≡ evaluation_moves roles pins
  evaluation_is pins more w clocks =
      ap (λ l. set_from (first_pin roles) (map bit pins) ∷ set_from first_clock (One ∷ []) ∷ l)
      (rises_are more (after_move (Open Evaluation) (after_move (Take pins) w)))
      ∙ sym (ap (λ n. set_from (first_pin roles) (map bit pins) ∷ map (λ s. s ∷ []) (set_from first_clock (replicate n One))) clocks)

  falls_are : (i n : ℕ) (w : World) → w.risen ≡ i + 1 → settings_from roles (falls_in_turn i n) w ≡ rises_and_falls i n
  falls_are i zero w e = refl
  falls_are i (suc n) w e =
      ap (λ l. set_from (first_clock + w.risen) (One ∷ []) ∷ set_from (first_clock + i) (Zero ∷ []) ∷ l)
      (falls_are (i + 1) n (after_move (Fall i) (after_move Rise w)) (ap (λ r. r + 1) e))
      ∙ ap (λ r. set_from (first_clock + r) (One ∷ []) ∷ set_from (first_clock + i) (Zero ∷ []) ∷ rises_and_falls (i + 1) n) e

  pub overlapping_is : (pins : List Bool) (w : World)
      → settings_from roles (overlapping_reading pins (roles.clocks - 1)) w ≡ overlapping_moves roles pins
  overlapping_is pins w =
      ap (λ l. set_from (first_pin roles) (map bit pins) ∷ set_from first_clock (One ∷ []) ∷ l)
      (falls_are 0 (roles.clocks - 1) (after_move (Open Evaluation) (after_move (Take pins) w)) refl)

  pub reading_is : (clocking : Clocking) (pins : List Bool) (more : ℕ) (w : World) → roles.clocks ≡ suc more
      → settings_from roles (reading_by clocking pins more) w ≡ evaluation_by clocking roles pins
  reading_is Together pins more w clocks = evaluation_is pins more w clocks
  reading_is Overlapping pins more w clocks =
      ap (λ n. settings_from roles (overlapping_reading pins n) w) (below roles.clocks more clocks) ∙ overlapping_is pins w
    where
      below : (n m : ℕ) → n ≡ suc m → m ≡ n - 1
      below n m e = omega (arith, e)

-- with clock k those that have fallen are below the next
with_below : (k : ℕ) (fallen : ℕ → Bool) → ((i : ℕ) → fallen i ≡ true → i < k) → (i : ℕ) → fallen_with k fallen i ≡ true → i < k + 1
with_below k fallen h i e = by (nat_eq i k) refl (h i) e
  where
    by : (b : Bool) → nat_eq i k ≡ b → (fallen i ≡ true → i < k) → fallen_with k fallen i ≡ true → i < k + 1
    by true z h e = let same = eqb-true i k z in omega (arith, same)
    by false z h e = let low = h (rw z at e) in omega (arith, low)

not_fallen : (k : ℕ) (fallen : ℕ → Bool) → ((i : ℕ) → fallen i ≡ true → i < k) → fallen k ≡ false
not_fallen k fallen h = by (fallen k) refl (h k)
  where
    by : (b : Bool) → fallen k ≡ b → (fallen k ≡ true → k < k) → b ≡ false
    by true e h = absurd (let low = h e in omega (arith, low))
    by false e h = refl

-- and they are allowed
module _ (k : ClockedLinks) where
  rises_allowed : (n : ℕ) (w : World) → w.place ≡ Evaluation → w.risen + n ≡ k.clocks → AreAllowed k (replicate n Rise) w
  rises_allowed zero w at all = tt
  rises_allowed (suc n) w at all = ((at, omega (arith, all)), rises_allowed n (after_move Rise w) at (omega (arith, all)))

  pub evaluation_allowed : (pins : List Bool) (more : ℕ) (w : World) → k.clocks ≡ suc more → IsBetween w → length pins ≡ k.pins
      → AreAllowed k (to_reading pins more) w
  evaluation_allowed pins more w clocks between long = (
    (between, long),
    ((tt, (λ z. absurd (no z))), rises_allowed more (after_move (Open Evaluation) (after_move (Take pins) w)) refl (omega (arith, clocks))),
  )
    where
      no : Evaluation ≡ Capture → ⊥
      no z = cc

  falls_allowed : k.clocking ≡ Overlapping → (n i : ℕ) (w : World) → w.place ≡ Evaluation → w.risen ≡ i + 1 → i + 1 + n ≡ k.clocks
      → ((j : ℕ) → w.fallen j ≡ true → j < i)
      → AreAllowed k (falls_in_turn i n) w
  falls_allowed overlap zero i w at risen all low = tt
  falls_allowed overlap (suc n) i w at risen all low = (
    (at, omega (arith, risen, all)),
    (
      (at, omega (arith, risen), not_fallen i w.fallen low, overlap, omega (arith, all)),
      falls_allowed overlap n (i + 1) (after_move (Fall i) (after_move Rise w)) at (ap (λ r. r + 1) risen) (omega (arith, all))
          (with_below i w.fallen low),
    ),
  )

  pub overlapping_allowed : k.clocking ≡ Overlapping → (pins : List Bool) (more : ℕ) (w : World) → k.clocks ≡ suc more → IsBetween w
      → length pins ≡ k.pins → AreAllowed k (overlapping_reading pins more) w
  overlapping_allowed overlap pins more w clocks between long = (
    (between, long),
    (
      (tt, (λ z. absurd (no z))),
      falls_allowed overlap more 0 (after_move (Open Evaluation) (after_move (Take pins) w)) refl refl
          (omega (arith, clocks)) (λ j e. absurd (cc)),
    ),
  )
    where
      no : Evaluation ≡ Capture → ⊥
      no z = cc

  pub reading_allowed : (clocking : Clocking) → k.clocking ≡ clocking → (pins : List Bool) (more : ℕ) (w : World) → k.clocks ≡ suc more
      → IsBetween w → length pins ≡ k.pins → AreAllowed k (reading_by clocking pins more) w
  reading_allowed Together falls pins more w clocks between long = evaluation_allowed pins more w clocks between long
  reading_allowed Overlapping falls pins more w clocks between long = overlapping_allowed falls pins more w clocks between long

  pub latching_allowed : (w : World) → w.place ≡ Evaluation → w.risen ≡ k.clocks → AreAllowed k from_reading w
  latching_allowed w at all = (
    (next w.place at, (λ z. all)),
    ((tt, (λ z. absurd (no1 z))), ((tt, (λ z. absurd (no2 z))), ((tt, (λ z. absurd (no3 z))), ((tt, (λ z. absurd (no4 z))), tt)))),
  )
    where
      next : (place : Place) → place ≡ Evaluation → IsNext place Capture
      next Evaluation z = tt
      next _ z = absurd (cc)

      no1 : Captured ≡ Capture → ⊥
      no1 z = cc

      no2 : Precharge ≡ Capture → ⊥
      no2 z = cc

      no3 : Launch ≡ Capture → ⊥
      no3 z = cc

      no4 : Launched ≡ Capture → ⊥
      no4 z = cc

  pub release_allowed : (w : World) → w.place ≡ Reset → AreAllowed k (Open Released ∷ []) w
  release_allowed w at = ((next w.place at, (λ z. absurd (no z))), tt)
    where
      next : (place : Place) → place ≡ Reset → IsNext place Released
      next Reset z = tt
      next _ z = absurd (cc)

      no : Released ≡ Capture → ⊥
      no z = cc
