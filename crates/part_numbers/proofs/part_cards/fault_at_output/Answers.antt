use Rattle.part_numbers.proofs.CardFaults.{card_there, output_fault, part_there}
use Rattle.part_numbers.proofs.part_cards.fault_at_output.Goals as goal

pub line_of-requires : goal.line_of-requires
line_of-requires c =
    let at = part_there c.args.numbered.now.parts c.parts.result.now c.args.index c.index-parts-index.result c.parts.ensures c.requires.there c.index-parts-index.is in
    record { there = card_there c.args.file.now c.requires.numbers.0 c.args.numbered.now c.requires.numbers.1 c.args.index c.index-parts-index.result at }

pub returns : goal.returns
returns c =
    let at = part_there c.args.numbered.now.parts c.parts.result.now c.args.index c.index-parts-index.result c.parts.ensures c.requires.there c.index-parts-index.is in
    output_fault c.args.file.now c.requires.numbers.0 c.args.numbered.now c.requires.numbers.1 c.args.index c.index-parts-index.result at c.args.kind c.line_of.result c.output_of.result.now c.fault_at.result
    c.line_of.ensures c.output_of.ensures c.fault_at.ensures
