use Rattle.std.proofs.Common.{ap, ◌*◌, ◌%◌, ◌/◌}
use Rattle.std.specs.Prelude.{bit_and}
use Rattle.numbered_file.specs.Slots.{second_slot}
use Rattle.numbered_file.proofs.slots.second_slot.Goals as goal

pub returns : goal.returns
unfolding second_slot
returns c = ap (bit_and (c.args.mark * 11400714819323198485 % 18446744073709551616 / 4294967296)) c.saturating_sub.ensures
