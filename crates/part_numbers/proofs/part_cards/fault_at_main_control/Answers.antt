use Rattle.std.proofs.Common.{◌≡◌}
use Rattle.model_calls.specs.Occurrences.{main_model}
use Rattle.part_numbers.proofs.CardFaults.{control_fault, control_some, control_there, controlled_at, part_there}
use Rattle.part_numbers.proofs.part_cards.fault_at_main_control.Goals as goal

pub control_of-requires : goal.control_of-requires
control_of-requires c =
    let at = part_there c.args.numbered.now.parts c.parts.result.now c.args.latch c.index-parts-latch.result c.parts.ensures (controlled_at c.args.numbered.now.parts c.args.latch c.requires.control) c.index-parts-latch.is in
    record {
      there = control_there c.args.file.now c.requires.numbers.0 c.args.numbered.now c.requires.numbers.1 c.args.latch c.index-parts-latch.result at
          (control_some c.args.numbered.now.parts c.args.latch c.index-parts-latch.result at c.requires.control);
    }

pub returns : goal.returns
returns c =
    let at = part_there c.args.numbered.now.parts c.parts.result.now c.args.latch c.index-parts-latch.result c.parts.ensures (controlled_at c.args.numbered.now.parts c.args.latch c.requires.control) c.index-parts-latch.is in
    control_fault c.args.file.now c.requires.numbers.0 c.args.numbered.now c.requires.numbers.1 c.args.latch c.index-parts-latch.result at
    c.args.kind (λ line. line ≡ (main_model c.args.file.now).line) c.main_line.result c.control_of.result.now c.fault_at.result
    c.main_line.ensures c.control_of.ensures c.fault_at.ensures
