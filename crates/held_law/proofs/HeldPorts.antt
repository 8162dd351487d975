-- What holds of nets of cells that hold, by the ports and the devices of a deck.
use Rattle.std.proofs.Common.{List, ap, arith, inl, inr, refl, subst, suc, sym, ℕ, ◌+◌, ◌<◌, ◌∙◌, ◌≡◌}
use Rattle.dom_base.specs.declared.tri.Tri.TheVariants.{One, Zero}
use Rattle.deck.specs.CircuitData.{CircuitData}
use Rattle.deck.specs.Paths.{Ends}
use Rattle.deck.specs.PortLayout.{first_clock, source_count}
use Rattle.deck.specs.Switches.{value_of}
use Rattle.deck.specs.declared.device.Device.{Device}
use Rattle.deck.specs.declared.role.Roles.{Roles}
use Rattle.domino_cell.specs.Stage.{Spot, Top}
use Rattle.switch_model.specs.Laws.{EndsAt}
use Rattle.switch_model.specs.LinksData.{is_first, links_of}
use Rattle.port_runs.specs.Environment.{Place, Reset, Step, World}
use Rattle.port_runs.specs.Periods.{IsDynamicNet}
use Rattle.port_runs.specs.PortRuns.{RunsBy, power_world}
use Rattle.port_runs.specs.declared.clocking.Clocking.TheVariants.{Overlapping}
use Rattle.domino_law.specs.DominoDeck.{IsLooseDominoDeck}
use Rattle.domino_law.specs.Honest.{HasPreviousFallen, IsDynamicSpot}
use Rattle.domino_law.specs.LooseDeck.{IsLooseDeck}
use Rattle.domino_law.specs.Nets.{At, CellSide, Clock, Dynamic, Net, Vdd, Vss, left_side}
use Rattle.domino_law.specs.OwnRun.{bit_at}
use Rattle.domino_law.specs.Places.{AreSources, clock_value, up_at}
use Rattle.domino_law.specs.Runs.{IsHonestWorld}
use Rattle.domino_law.specs.Shape.{DominoCell, DynamicStage, IsCellAt, IsSideAt, MayOverlap, Shape, left_stage}
use Rattle.domino_law.proofs.ClockOrder.{before_raised, state_down}
use Rattle.domino_law.proofs.DeckParts.{are_simple, up_of, zero_or_one}
use Rattle.domino_law.proofs.DominoNets.{clocked_device}
use Rattle.domino_law.proofs.Events.{keeper_spot}
use Rattle.domino_law.proofs.PortLaws.{loose, run_of, start}
use Rattle.domino_law.proofs.RunOrder.{good_sources}
use Rattle.domino_law.proofs.SimpleCells.{simple_side}
use Rattle.domino_law.proofs.Worlds.{good_beyond}
use Rattle.held_law.specs.HeldNets.{IsAtTarget, IsNetOfCell}
use Rattle.held_law.specs.Laws.{DecksHoldTargets}
use Rattle.held_law.proofs.CellNets.{side_keeper}
use Rattle.held_law.proofs.HeldCells.{IsHeldNet, held_closed, held_free, keeper_stage}
use Rattle.held_law.proofs.HeldRuns.{IsHeldWorld, held_nets, held_out, run_held}
use Rattle.held_law.proofs.Settled.{lands}

module _ (c : CircuitData) (roles : Roles) (net : Net → ℕ) (s : Shape) (deck : IsLooseDominoDeck roles (links_of c roles) net s)
    (overlap : s.clocking ≡ Overlapping) where
  abbrev stands : IsLooseDeck (links_of c roles) net s
  stands = loose c roles net s deck

  abbrev may : MayOverlap s
  may = ((stands.deck).shape).overlap overlap

  module _ (w : World) (g : IsHeldWorld stands w) (i : ℕ) (off : value_of w.values (net (Clock i)) ≡ Zero)
      (on : value_of w.values (net (Clock (suc i))) ≡ One)
      (there : suc i < s.clocks) where
    was_there : i < s.clocks
    was_there = omega (arith, there)

    sources : AreSources net s w.place w.risen w.fallen (bit_at w.pins) w.values
    sources = good_sources (links_of c roles) net s stands w g.good

    -- the clock has risen, so it has fallen
    honest : IsHonestWorld (links_of c roles) net s w
    honest = good_beyond stands w g.good (up w.place (sym (sources (Clock (suc i)) there) ∙ on))
      where
        up : (place : Place) → clock_value (up_at place w.risen w.fallen (suc i)) ≡ One → place ≡ Reset → ⊥
        up Reset z e = zero_or_one z
        up _ z e = cc

    early : HasPreviousFallen (up_at w.place w.risen w.fallen) (suc i)
    early = elim (state_down (up_at w.place w.risen w.fallen i) (sym (sources (Clock i) was_there) ∙ off)) [
      | inr z ↦ z
      | inl z ↦ absurd ((honest.frame.clocks).in_order i (λ y. before_raised (sym y ∙ up_of stands.deck honest.frame (suc i) there on)) z)
    ]

    -- the nets of a cell of the next clock
    cell_holds : (k : ℕ) (cell : DominoCell) (e : IsCellAt s k cell) → cell.clock ≡ suc i → (m : ℕ)
        → IsNetOfCell c.devices (is_first (source_count roles)) (net (At (Dynamic (left_side k)) Top)) m
        → IsAtTarget c.devices (is_first (source_count roles)) w.values m
    cell_holds k cell e z m = go
      where
        up : value_of w.values (net (Clock cell.clock)) ≡ One
        up = rw z on

        fallen : HasPreviousFallen (up_at w.place w.risen w.fallen) cell.clock
        fallen = rw z early

        top : IsHeldNet stands.deck may k cell e (net (At (Dynamic (left_side k)) Top))
        top = (Top, tt, refl)

        ends : (d : Device) → EndsAt d (net (At (Dynamic (left_side k)) Top)) → (y : ℕ) × Ends d (net (At (Dynamic (left_side k)) Top)) y
        ends d (inl x) = (d.source, inl (x, refl))
        ends d (inr x) = (d.drain, inr (x, refl))

        go : IsNetOfCell c.devices (is_first (source_count roles)) (net (At (Dynamic (left_side k)) Top)) m
            → IsAtTarget c.devices (is_first (source_count roles)) w.values m
        go (inl (inl x)) = rw x (held_nets stands w g k cell e up fallen may (net (At (Dynamic (left_side k)) Top)) top)
        go (inl (inr ((p, path, of), free))) =
            held_nets stands w g k cell e up fallen may m
            (lands c.devices (is_first (source_count roles)) (IsHeldNet stands.deck may k cell e) (held_free stands.deck may k cell e)
            (held_closed stands.deck may k cell e) path top of free)
        go (inr (d, of, kind, end, gate)) =
            let y = ends d end in
            let out = side_keeper c.devices (is_first (source_count roles)) net (λ a. net (At (Dynamic (left_side k)) a)) (left_side k)
            (left_stage cell) (keeper_stage stands.deck may k cell e)
            ((stands.deck).sources Vdd tt) ((stands.deck).sources Vss tt) d (net (At (Dynamic (left_side k)) Top)) y.0 top of y.1 kind in
            subst (IsAtTarget c.devices (is_first (source_count roles)) w.values) (sym out.1 ∙ gate)
            (held_out stands w g k cell e up fallen)

    -- the same by a dynamic net that this clock precharges
    side_holds : (n m : ℕ) → (k : CellSide) × (d : DynamicStage) × IsSideAt s k d × (a : Spot) × IsDynamicSpot s.style d a
        × (n ≡ net (At (Dynamic k) a)) × (d.clock ≡ suc i)
        → IsNetOfCell c.devices (is_first (source_count roles)) n m → IsAtTarget c.devices (is_first (source_count roles)) w.values m
    side_holds n m (k, d, at, a, spot, same, clock) of =
        let x = simple_side s (are_simple (stands.deck) may) k d at in
        let top = keeper_spot s.style d a may.keepers spot in
        cell_holds k.cell x.0 x.1 (ap (λ (y : DynamicStage). y.clock) x.3 ∙ clock) m
        (subst (λ y. IsNetOfCell c.devices (is_first (source_count roles)) y m)
        (same ∙ ap (λ y. net (At (Dynamic k) y)) top ∙ ap (λ y. net (At (Dynamic y) Top)) x.2) of)

  pub deck_holds : (steps : List Step) (w : World) (i n m : ℕ) → RunsBy Overlapping c roles steps w
      → value_of w.values (first_clock + i) ≡ Zero → value_of w.values (first_clock + (i + 1)) ≡ One
      → (d : IsDynamicNet c roles n) → (d.precharge).gate ≡ first_clock + (i + 1)
      → IsNetOfCell c.devices (is_first (source_count roles)) n m
      → IsAtTarget c.devices (is_first (source_count roles)) w.values m
  deck_holds steps w i n m run off on d gate of =
      side_holds w (run_held stands steps (power_world c roles) w (start c roles net s deck)
      (run_of c roles net s deck Overlapping (inr (sym overlap)) steps w run)) i
      (rw (number i below) off) (rw (number (suc i) there ∙ next i) on) there n m
      (clocked_device stands.deck n (suc i) there d.precharge d.there d.kind_is (gate ∙ sym (number (suc i) there ∙ next i))
      (subst (Ends d.precharge n) (sym ((deck.ports).numbers Vdd tt)) d.joined)) of
    where
      next : (i : ℕ) → first_clock + suc i ≡ first_clock + (i + 1)
      next i = omega arith

      there : suc i < s.clocks
      there = room (d.precharge).gate i (d.gated).1 gate (deck.ports).clocks_are
        where
          room : (g i : ℕ) → g < first_clock + roles.clocks → g ≡ first_clock + (i + 1) → s.clocks ≡ roles.clocks → suc i < s.clocks
          room g i l z y = omega arith

      below : i < s.clocks
      below = omega (arith, there)

      number : (j : ℕ) → j < s.clocks → net (Clock j) ≡ first_clock + j
      number j l = (deck.ports).numbers (Clock j) l

pub decks_hold_targets : DecksHoldTargets
decks_hold_targets c roles net s deck overlap = deck_holds c roles net s deck overlap
