use Rattle.std.proofs.Common.{◌≡◌, ◌<◌, ◌+◌, length, ap, sym, ◌∙◌, subst, refl, take}
use Rattle.std.proofs.lemmas.Option.{slice_get_read}
use Rattle.net_flatten.specs.ClockSearches.{IsClockOf, differs_from_clock, joined_clock}
use Rattle.part_numbers.specs.NumberedFiles.{NumberedPartData}
use Rattle.part_numbers.proofs.CardFaults.{card_there, part_there}
use Rattle.net_flatten.proofs.Clocks.{clock_at_latch, clock_at_other}
use Rattle.net_flatten.proofs.clocking.find_other_clock.Goals as goal
use Rattle.net_flatten.proofs.clocking.find_other_clock.Goals.{in-Some+else-differs, in_default}

pub edge_of-requires : goal.edge_of-requires
edge_of-requires c =
    let at = part_there c.args.numbered.now.parts c.parts-parts.result.now c.loop-index.index c.index-parts-index.result c.parts-parts.ensures
    (subst (λ ps. c.loop-index.index < length ps) c.parts-parts.ensures c.loop-index-test.true) c.index-parts-index.is in
    record { there = card_there c.args.file.now c.requires.numbers.0 c.args.numbered.now c.requires.numbers.1 c.loop-index.index c.index-parts-index.result at }

pub loop-index-preserved : goal.loop-index-preserved
loop-index-preserved c =
    let at = slice_get_read c.parts-parts.result.now (length c.parts-parts.result.now) c.loop-index.index c.index-parts-index.result refl c.loop-index-test.true c.index-parts-index.is in
    let control : c.part.inside.control ≡ c.index-parts-index.result.control = ap (λ (p : NumberedPartData). p.control) c.part.view_is in
    elim c.match-edge_of.branch [
      | in-Some+else-differs w ↦
          subst (IsClockOf c.args.file.now (take (c.loop-index.index + 1) c.parts-parts.result.now))
          (ap (joined_clock c.loop-index.clock w.in-Some.edge) (sym control) ∙ sym w.joined-clock.ensures ∙ sym w.clock-is)
          (clock_at_latch c.args.file.now c.parts-parts.result.now c.loop-index.index c.index-parts-index.result at c.loop-index.clock w.in-Some.edge (sym c.edge_of.ensures ∙ w.in-Some.is)
          (ap (differs_from_clock c.loop-index.clock w.in-Some.edge) (sym control) ∙ sym w.differs.ensures ∙ w.if-differs.false) c.loop-index.invariant)
      | in_default w ↦
          subst (IsClockOf c.args.file.now (take (c.loop-index.index + 1) c.parts-parts.result.now)) (sym w.clock-is)
          (clock_at_other c.args.file.now c.parts-parts.result.now c.loop-index.index c.index-parts-index.result at c.loop-index.clock (sym c.edge_of.ensures ∙ w.in_default.is) c.loop-index.invariant)
    ]
