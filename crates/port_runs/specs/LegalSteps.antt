-- The steps of legal runs of a circuit without names, whatever values a move gives its sources: lists of events and moves, cut anywhere.
use Rattle.std.specs.Prelude.{List, [], false, length, ℕ, ◌+◌, ◌<◌, ◌∷◌, ◌≡◌, ◌⊎◌}
use Rattle.dom_base.specs.declared.tri.Tri.{Tri}
use Rattle.switch_model.specs.LinksData.{LinksData, is_first}
use Rattle.switch_model.specs.Targets.{EventAt, IsAtRest}
use Rattle.port_runs.specs.Environment.{Capture, Evaluation, Fall, Happens, IsNext, Launched, Move, Moves, Open, Released, Rise, Step, Take, World, after_move}
use Rattle.port_runs.specs.declared.clocking.Clocking.{Clocking}
use Rattle.port_runs.specs.declared.clocking.Clocking.TheVariants.{Overlapping}

-- a circuit without names, with so many clocks that fall so, and so many pins
pub record ClockedLinks : Type 0 where
  pub links : LinksData
  pub clocking : Clocking
  pub clocks : ℕ
  pub pins : ℕ

-- no net that is no source differs from its target
abbrev pub RestsIn : LinksData → World → Type 0
RestsIn links w = IsAtRest links.devices (is_first links.sources) w.values

-- What a move needs. The next place is opened at rest, and capture when all clocks have risen. New pins, one bit for
-- each, are taken at the rest of released or launched. A later clock rises at any moment of evaluation. Where clocks overlap, a clock
-- but the last may fall, once, at a rest of evaluation at which the next one has risen.
abbrev pub MayMoveIn : ClockedLinks → Move → World → Type 0
MayMoveIn k (Open place) w = IsNext w.place place × RestsIn k.links w × (place ≡ Capture → w.risen ≡ k.clocks)
MayMoveIn k (Take pins) w = ((w.place ≡ Released) ⊎ (w.place ≡ Launched)) × RestsIn k.links w × (length pins ≡ k.pins)
MayMoveIn k Rise w = (w.place ≡ Evaluation) × (w.risen < k.clocks)
MayMoveIn k (Fall i) w =
    (w.place ≡ Evaluation) × RestsIn k.links w × (i + 1 < w.risen) × (w.fallen i ≡ false) × (k.clocking ≡ Overlapping) × (i + 1 < k.clocks)

-- an event: one net takes its target
abbrev pub HasEvent : LinksData → ℕ → World → World → Type 0
HasEvent links n w w' =
    (values : List Tri) × (w' ≡ record w { values = values }) × EventAt links.devices (is_first links.sources) n w.values values

-- a move is made, and leaves values that it may give
abbrev pub IsMoved : (Move → World → List Tri → Type 0) → Move → World → World → Type 0
IsMoved Gives move w w' = (values : List Tri) × (w' ≡ record (after_move move w) { values = values }) × Gives move w values

-- what a step does, where moves give such values
abbrev pub DoesIn : ClockedLinks → (Move → World → List Tri → Type 0) → Step → World → World → Type 0
DoesIn k Gives (Happens n) w w' = HasEvent k.links n w w'
DoesIn k Gives (Moves move) w w' = MayMoveIn k move w × IsMoved Gives move w w'

-- steps lead from one state to another
abbrev pub LeadsIn : ClockedLinks → (Move → World → List Tri → Type 0) → List Step → World → World → Type 0
LeadsIn k Gives [] w w' = w' ≡ w
LeadsIn k Gives (step ∷ steps) w w' = (mid : World) × DoesIn k Gives step w mid × LeadsIn k Gives steps mid w'
