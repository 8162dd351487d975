use Rattle.part_numbers.proofs.CardFaults.{card_there, input_fault, input_there, part_there, read_there, there_at}
use Rattle.part_numbers.proofs.part_cards.fault_at_input.Goals as goal

pub line_of-requires : goal.line_of-requires
line_of-requires c =
    let at = part_there c.args.numbered.now.parts c.parts.result.now c.args.index c.index-parts-index.result c.parts.ensures (there_at c.args.numbered.now.parts c.args.index c.args.read c.requires.there) c.index-parts-index.is in
    record { there = card_there c.args.file.now c.requires.numbers.0 c.args.numbered.now c.requires.numbers.1 c.args.index c.index-parts-index.result at }

pub input_of-requires : goal.input_of-requires
input_of-requires c =
    let at = part_there c.args.numbered.now.parts c.parts.result.now c.args.index c.index-parts-index.result c.parts.ensures (there_at c.args.numbered.now.parts c.args.index c.args.read c.requires.there) c.index-parts-index.is in
    record {
      there = input_there c.args.file.now c.requires.numbers.0 c.args.numbered.now c.requires.numbers.1 c.args.index c.index-parts-index.result at c.args.read
          (read_there c.args.numbered.now.parts c.args.index c.args.read c.index-parts-index.result at c.requires.there);
    }

pub returns : goal.returns
returns c =
    let at = part_there c.args.numbered.now.parts c.parts.result.now c.args.index c.index-parts-index.result c.parts.ensures (there_at c.args.numbered.now.parts c.args.index c.args.read c.requires.there) c.index-parts-index.is in
    input_fault c.args.file.now c.requires.numbers.0 c.args.numbered.now c.requires.numbers.1 c.args.index c.index-parts-index.result at c.args.kind c.args.read c.line_of.result c.input_of.result.now c.fault_at.result
    c.line_of.ensures c.input_of.ensures c.fault_at.ensures
