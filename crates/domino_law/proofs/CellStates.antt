-- What honest states say of simple and of compound cells, net by net.
use Rattle.std.specs.Prelude.{None, Some}
use Rattle.std.proofs.Common.{inl, inr, refl, sym, ◌∙◌, ◌≡◌}
use Rattle.dom_base.specs.declared.tri.Tri.{Tri}
use Rattle.dom_base.specs.declared.tri.Tri.TheVariants.{One, Unknown, Zero}
use Rattle.deck.specs.Switches.{value_of}
use Rattle.sp_network.specs.Known.{IsKnown}
use Rattle.sp_network.specs.Tree.{both}
use Rattle.domino_cell.specs.Stage.{Top}
use Rattle.port_runs.specs.Environment.{Precharge, Place}
use Rattle.domino_law.specs.CellStates.{CompoundCellsAreHonest, IsHeld, SimpleCellsHavePairs, dynamic_value, output_value}
use Rattle.domino_law.specs.Honest.{HasPreviousFallen, IsHonestOutput, static_value}
use Rattle.domino_law.specs.Nets.{At, CellSide, Clock, Dynamic, left_side, right_side}
use Rattle.domino_law.specs.Places.{AfterFall, up_at}
use Rattle.domino_law.specs.Shape.{DynamicStage, MayOverlap, IsSideAt, dynamic_nets}
use Rattle.domino_law.proofs.Places.{IsClockAt}
use Rattle.domino_law.proofs.DeckParts.{clocks_at, output-known, previous_overlaps, up_of, zero_or_one}
use Rattle.domino_law.proofs.Statics.{both-right_zero, both_zero, left_is, right_is}

pub simple_cells_have_pairs : SimpleCellsHavePairs
simple_cells_have_pairs links net s w loose h k c e r =
    record {
      evaluated = λ on. elim (out.evaluated on) [
        | inl z ↦ elim d-known [ inl d ↦ inr (inl (d, z)) | inr d ↦ inl (d, z) ]
        | inr q ↦ inr (inr (rw r at q.1, q.0))
      ];
      idle = λ off. elim (out.idle off) [
        | inl p ↦ inl (rw r at p.0, p.1)
        | inr p ↦ elim d-known [
          | inl d ↦ inr (p.0, inl (d, p.2 (rw r d)))
          | inr d ↦ elim p.1 [ inl z ↦ inl (d, z) | inr z ↦ inr (p.0, inr (d, z)) ]
        ]
      ];
    }
  where
    out : IsHonestOutput net (up_at w.place w.risen w.fallen) w.values k c
    out = h.cells.outs k c e

    d-known : IsKnown (value_of w.values (net (At (Dynamic (left_side k)) Top)))
    d-known = (h.cells.sides (left_side k) _ (left_is s k c e)).spots_known Top tt

both_ones : (a b : Tri) → both a b ≡ One → (a ≡ One) × (b ≡ One)
both_ones Zero b h = absurd (cc)
both_ones One b h = (refl, h)
both_ones Unknown Zero h = absurd (cc)
both_ones Unknown One h = absurd (cc)
both_ones Unknown Unknown h = absurd (cc)

pub compound_cells_are_honest : CompoundCellsAreHonest
compound_cells_are_honest links net s w loose h k c t e r =
    record {
      held = λ on. (held (left_side k) _ (left_is s k c e) on, held (right_side k) _ (right_is s k c t e r) on);
      output = λ on. elim (out.evaluated on) [ inl z ↦ inl z | inr q ↦ inr q.0 ];
      risen = λ on z. elim (out.evaluated on) [ inl y ↦ absurd (zero_or_one (sym y ∙ z)) | inr q ↦ both_zero _ _ (rw r at q.1) ];
      idle = λ off. elim (out.idle off) [ inl p ↦ let b = both_ones _ _ (rw r at p.0) in inl (b.0, b.1, p.1) | inr p ↦ inr (late_place p.0) ];
      precharged = λ z. (known (left_side k) _ (left_is s k c e), known (right_side k) _ (right_is s k c t e r), z-known);
      left_late = λ z d. late z (rw (r, d) refl);
      right_late = λ z d. late z (rw (r, d) (both-right_zero _));
    }
  where
    out : IsHonestOutput net (up_at w.place w.risen w.fallen) w.values k c
    out = h.cells.outs k c e

    known : (side : CellSide) (d : DynamicStage) → IsSideAt s side d → IsKnown (dynamic_value net w side)
    known side d i = (h.cells.sides side d i).spots_known Top tt

    -- a deck with a compound cell has no keepers, so its clocks do not overlap
    alone : MayOverlap s → ⊥
    alone may = let y : None ≡ Some t = sym ((loose.deck.shape).simple may.keepers k c e) ∙ r in cc

    late_place : up_at w.place w.risen w.fallen c.clock ≡ AfterFall → w.place ≡ Precharge
    late_place f = elim ((h.frame.clocks).early c.clock f) [ inl z ↦ z | inr o ↦ absurd (alone ((loose.deck.shape).overlap o.0)) ]

    held : (side : CellSide) (d : DynamicStage) → IsSideAt s side d → value_of w.values (net (Clock d.clock)) ≡ One → IsHeld links net w side
    held side d i on = elim (known side d i) [ inl z ↦ inr (z, (h.cells.sides side d i).pulled on free Top tt z) | inr one ↦ inl one ]
      where
        free : HasPreviousFallen (up_at w.place w.risen w.fallen) d.clock → ⊥
        free early =
            alone (previous_overlaps loose.deck h.frame d.clock
            (up_of loose.deck h.frame d.clock ((loose.deck.shape).clocks_are side d i) on) early)

    z-known : IsKnown (output_value net w k)
    z-known = output-known loose.deck h k c e

    off_there : (pl : Place) (v : Tri) → pl ≡ Precharge → IsClockAt pl v → v ≡ Zero
    off_there Precharge v z a = a
    off_there _ v z a = absurd (cc)

    late : w.place ≡ Precharge → static_value net w.values (dynamic_nets k c.right) ≡ Zero → output_value net w k ≡ One
    late z d =
        elim (out.idle (off_there w.place _ z (clocks_at loose.deck h.frame c.clock
        ((loose.deck.shape).clocks_are (left_side k) _ (left_is s k c e))))) [
          | inl p ↦ absurd (zero_or_one (sym d ∙ p.0))
          | inr p ↦ p.2 d
        ]
