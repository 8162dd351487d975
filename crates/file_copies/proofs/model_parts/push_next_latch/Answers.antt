use Rattle.std.proofs.Common.{◌-◌, drop, length, take}
use Rattle.numbered_file.specs.OpenLists.{open_lists}
use Rattle.file_copies.proofs.PartsToCome.{head-and-rest, latch-next}
use Rattle.file_copies.proofs.model_parts.push_next_latch.Goals as goal

pub returns-in_ok-push_latch-in-len1-up : goal.returns-in_ok-push_latch-in-len1-up
returns-in_ok-push_latch-in-len1-up c =
    let latches = c.args.rest.now.latches.now in
    let more = take (length latches - 1) (drop 1 latches) in
    latch-next (open_lists c.args.file.now) (open_lists c.push_latch.new.file) c.args.rest.now.tables.now latches more c.args.rest.now.instances.now
    c.args.letters.now c.latch-item.result (head-and-rest latches c.latch-item.result c.in-len1-up.len_at_least c.latch-item.is) c.requires.pushing
    c.in_ok-push_latch-in-len1-up.ensures
