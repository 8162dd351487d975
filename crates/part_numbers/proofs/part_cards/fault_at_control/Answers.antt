use Rattle.part_numbers.specs.CheckOutcomes.{IsLineAt}
use Rattle.part_numbers.proofs.CardFaults.{card_there, control_fault, control_some, control_there, controlled_at, line_at, part_there}
use Rattle.part_numbers.proofs.part_cards.fault_at_control.Goals as goal

pub line_of-requires : goal.line_of-requires
line_of-requires c =
    let at = part_there c.args.numbered.now.parts c.parts.result.now c.args.index c.index-parts-index.result c.parts.ensures c.requires.there c.index-parts-index.is in
    record { there = card_there c.args.file.now c.requires.numbers.0 c.args.numbered.now c.requires.numbers.1 c.args.index c.index-parts-index.result at }

pub control_of-requires : goal.control_of-requires
control_of-requires c =
    let at = part_there c.args.numbered.now.parts c.parts-2.result.now c.args.latch c.index-parts-latch.result c.parts-2.ensures (controlled_at c.args.numbered.now.parts c.args.latch c.requires.control) c.index-parts-latch.is in
    record {
      there = control_there c.args.file.now c.requires.numbers.0 c.args.numbered.now c.requires.numbers.1 c.args.latch c.index-parts-latch.result at
          (control_some c.args.numbered.now.parts c.args.latch c.index-parts-latch.result at c.requires.control);
    }

pub returns : goal.returns
returns c =
    let line = part_there c.args.numbered.now.parts c.parts.result.now c.args.index c.index-parts-index.result c.parts.ensures c.requires.there c.index-parts-index.is in
    let at = part_there c.args.numbered.now.parts c.parts-2.result.now c.args.latch c.index-parts-latch.result c.parts-2.ensures (controlled_at c.args.numbered.now.parts c.args.latch c.requires.control) c.index-parts-latch.is in
    control_fault c.args.file.now c.requires.numbers.0 c.args.numbered.now c.requires.numbers.1 c.args.latch c.index-parts-latch.result at
    c.args.kind (IsLineAt c.args.file.now c.args.index) c.line_of.result c.control_of.result.now c.fault_at.result
    (line_at c.args.file.now c.requires.numbers.0 c.args.numbered.now c.requires.numbers.1 c.args.index c.index-parts-index.result line c.line_of.result c.line_of.ensures) c.control_of.ensures c.fault_at.ensures
