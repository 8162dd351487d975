-- The order of moves: where a run stands is told by its stream of pins, its place and the clocks that have risen.
use Rattle.std.specs.List.{AllByRecursion}
use Rattle.std.specs.Prelude.{◌≢◌, ◌⊎◌}
use Rattle.std.proofs.Common.{Bool, List, [], ap, append_assoc, append-nil, arith, inl, inr, length, length-append, refl, subst, suc, sym, ℕ, ◌++◌, ◌+◌, ◌<◌, ◌∙◌, ◌∷◌, ◌≡◌}
use Rattle.port_runs.specs.Environment.{Capture, Captured, Evaluation, Fall, Happens, IsNext, Launch, Launched, Moves, Open, Pins, Place, Precharge, Released, Reset, Rise, Step, Take, World, after_move, is_over, risen_at, stream_of}
use Rattle.port_runs.specs.declared.clocking.Clocking.{Clocking}
use Rattle.port_runs.specs.Order.{Proceeds, StandsAfter, risen_before}

-- a place is opened
opens : (clocks : ℕ) (stream : List (List Bool)) (pl pl' : Place) (risen : ℕ) (past : List (List Bool)) (pins : List Bool)
    → IsNext pl pl' → (pl' ≡ Capture → risen ≡ clocks) → StandsAfter clocks stream pl risen past pins
    → StandsAfter clocks stream pl' (risen_at pl' risen) past pins
opens clocks stream Reset Released risen past pins f up h = h
opens clocks stream Pins Evaluation risen past pins f up h = (h.0, omega arith, λ one. one)
opens clocks stream Evaluation Capture risen past pins f up h = (h.0, up refl)
opens clocks stream Capture Captured risen past pins f up h = h
opens clocks stream Captured Precharge risen past pins f up h = h
opens clocks stream Precharge Launch risen past pins f up h = h
opens clocks stream Launch Launched risen past pins f up h = h
opens clocks stream _ _ risen past pins f up h = absurd f

risen_after : (clocks : ℕ) (past : List (List Bool)) (pins : List Bool) → risen_before clocks (past ++ pins ∷ []) ≡ clocks
risen_after clocks [] pins = refl
risen_after clocks (bits ∷ past) pins = refl

-- pins are taken
takes : (clocks : ℕ) (stream : List (List Bool)) (pl : Place) (risen : ℕ) (past : List (List Bool)) (pins bits : List Bool)
    → (pl ≡ Released) ⊎ (pl ≡ Launched) → StandsAfter clocks stream pl risen past pins
    → StandsAfter clocks (stream ++ bits ∷ []) Pins risen (is_over pl past pins) bits
takes clocks stream Released risen past pins bits e h = (rw (h.0, h.1) refl, rw (h.1, h.3) refl)
takes clocks stream Launched risen past pins bits e h = (rw h.0 refl, h.1 ∙ sym (risen_after clocks past pins))
takes clocks stream _ risen past pins bits e h = absurd (elim e [ inl z ↦ cc | inr z ↦ cc ])

-- a later clock rises
rises : (clocks : ℕ) (stream : List (List Bool)) (pl : Place) (risen : ℕ) (past : List (List Bool)) (pins : List Bool)
    → pl ≡ Evaluation → risen < clocks → StandsAfter clocks stream pl risen past pins → StandsAfter clocks stream pl (risen + 1) past pins
rises clocks stream Evaluation risen past pins e l h = (h.0, omega (arith, h.1), λ one. omega arith)
rises clocks stream _ risen past pins e l h = absurd (cc)

-- the stream goes on with what the steps take
pub stands_after : (clocking : Clocking) (clocks count : ℕ) (stream : List (List Bool)) (steps : List Step) (w w' : World)
    → Proceeds clocking clocks count steps w w'
    → StandsAfter clocks stream w.place w.risen w.past w.pins
    → StandsAfter clocks (stream ++ stream_of steps) w'.place w'.risen w'.past w'.pins
stands_after clocking clocks count stream [] w w' r h =
    subst (λ u. StandsAfter clocks (stream ++ []) u.place u.risen u.past u.pins) (sym r) (rw append-nil h)
stands_after clocking clocks count stream (Happens n ∷ steps) w w' r h = stands_after clocking clocks count stream steps (record w { values = r.0 }) w' r.1 h
stands_after clocking clocks count stream (Moves (Open place) ∷ steps) w w' r h =
    stands_after clocking clocks count stream steps (record (after_move (Open place) w) { values = r.0 }) w' r.2
    (opens clocks stream w.place place w.risen w.past w.pins (r.1).0 (r.1).1 h)
stands_after clocking clocks count stream (Moves (Take bits) ∷ steps) w w' r h =
    subst (λ l. StandsAfter clocks l w'.place w'.risen w'.past w'.pins) (append_assoc stream (bits ∷ []) (stream_of steps))
    (stands_after clocking clocks count (stream ++ bits ∷ []) steps (record (after_move (Take bits) w) { values = r.0 }) w' r.2
    (takes clocks stream w.place w.risen w.past w.pins bits (r.1).0 h))
stands_after clocking clocks count stream (Moves Rise ∷ steps) w w' r h =
    stands_after clocking clocks count stream steps (record (after_move Rise w) { values = r.0 }) w' r.2
    (rises clocks stream w.place w.risen w.past w.pins (r.1).0 (r.1).1 h)
stands_after clocking clocks count stream (Moves (Fall k) ∷ steps) w w' r h =
    stands_after clocking clocks count stream steps (record (after_move (Fall k) w) { values = r.0 }) w' r.2 h

-- each cycle has one bit for each pin
pub bits_taken : (clocking : Clocking) (clocks count : ℕ) (steps : List Step) (w w' : World) → Proceeds clocking clocks count steps w w'
    → AllByRecursion (λ bits. length bits ≡ count) (stream_of steps)
bits_taken clocking clocks count [] w w' r = tt
bits_taken clocking clocks count (Happens n ∷ steps) w w' r = bits_taken clocking clocks count steps (record w { values = r.0 }) w' r.1
bits_taken clocking clocks count (Moves (Open place) ∷ steps) w w' r = bits_taken clocking clocks count steps (record (after_move (Open place) w) { values = r.0 }) w' r.2
bits_taken clocking clocks count (Moves (Take bits) ∷ steps) w w' r = ((r.1).1, bits_taken clocking clocks count steps (record (after_move (Take bits) w) { values = r.0 }) w' r.2)
bits_taken clocking clocks count (Moves Rise ∷ steps) w w' r = bits_taken clocking clocks count steps (record (after_move Rise w) { values = r.0 }) w' r.2
bits_taken clocking clocks count (Moves (Fall k) ∷ steps) w w' r = bits_taken clocking clocks count steps (record (after_move (Fall k) w) { values = r.0 }) w' r.2

pub snoc_same : {X : Type 0} (xs ys : List X) (x y : X) → xs ++ x ∷ [] ≡ ys ++ y ∷ [] → (xs ≡ ys) × (x ≡ y)
snoc_same [] [] x y e = (refl, cc)
snoc_same [] (b ∷ ys) x y e = absurd (short (length-append ys (y ∷ [])) (ap length e))
  where
    short : length (ys ++ y ∷ []) ≡ length ys + 1 → 1 ≡ suc (length (ys ++ y ∷ [])) → ⊥
    short l k = omega arith
snoc_same (a ∷ xs) [] x y e = absurd (long (length-append xs (x ∷ [])) (ap length e))
  where
    long : length (xs ++ x ∷ []) ≡ length xs + 1 → suc (length (xs ++ x ∷ [])) ≡ 1 → ⊥
    long l k = omega arith
snoc_same (a ∷ xs) (b ∷ ys) x y e =
    let heads : a ≡ b = cc in
    let rest = snoc_same xs ys x y (tails e) in
    ((λ i. heads i ∷ rest.0 i), rest.1)
  where
    tails : a ∷ (xs ++ x ∷ []) ≡ b ∷ (ys ++ y ∷ []) → xs ++ x ∷ [] ≡ ys ++ y ∷ []
    tails z = cc

-- runs with one stream that stand at one place took the same pins
pub pins_alike : (clocks : ℕ) (stream : List (List Bool)) (pl : Place) (risen risen' : ℕ) (past past' : List (List Bool)) (pins pins' : List Bool)
    → StandsAfter clocks stream pl risen past pins → StandsAfter clocks stream pl risen' past' pins' → (past ≡ past') × (pins ≡ pins')
pins_alike clocks stream Reset risen risen' past past' pins pins' h k = (h.1 ∙ sym k.1, h.2 ∙ sym k.2)
pins_alike clocks stream Released risen risen' past past' pins pins' h k = (h.1 ∙ sym k.1, h.2 ∙ sym k.2)
pins_alike clocks stream _ risen risen' past past' pins pins' h k = snoc_same past past' pins pins' (sym h.0 ∙ k.0)

-- from the first pins on the stream is the pins of the earlier cycles and of this one
pub stream_begun : (clocks : ℕ) (stream : List (List Bool)) (pl : Place) (risen : ℕ) (past : List (List Bool)) (pins : List Bool)
    → StandsAfter clocks stream pl risen past pins → pl ≢ Reset → pl ≢ Released → stream ≡ past ++ pins ∷ []
stream_begun clocks stream Reset risen past pins h a b = absurd (a refl)
stream_begun clocks stream Released risen past pins h a b = absurd (b refl)
stream_begun clocks stream _ risen past pins h a b = h.0
