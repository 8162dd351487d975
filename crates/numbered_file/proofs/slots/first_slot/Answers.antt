use Rattle.std.proofs.Common.{ap}
use Rattle.std.specs.Prelude.{bit_and}
use Rattle.numbered_file.specs.Slots.{first_slot}
use Rattle.numbered_file.proofs.slots.first_slot.Goals as goal

pub returns : goal.returns
unfolding first_slot
returns c = ap (bit_and c.args.mark) c.saturating_sub.ensures
