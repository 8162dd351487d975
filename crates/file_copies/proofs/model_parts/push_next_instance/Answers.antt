use Rattle.std.proofs.Common.{◌-◌, drop, length, take}
use Rattle.numbered_file.specs.OpenLists.{open_lists}
use Rattle.file_copies.proofs.PartsToCome.{head-and-rest, instance-next}
use Rattle.file_copies.proofs.model_parts.push_next_instance.Goals as goal

pub returns-in_ok-push_instance-in-len1-up : goal.returns-in_ok-push_instance-in-len1-up
returns-in_ok-push_instance-in-len1-up c =
    let instances = c.args.rest.now.instances.now in
    let more = take (length instances - 1) (drop 1 instances) in
    instance-next (open_lists c.args.file.now) (open_lists c.push_instance.new.file) c.args.rest.now.tables.now c.args.rest.now.latches.now instances more
    c.args.letters.now c.instance-item.result (head-and-rest instances c.instance-item.result c.in-len1-up.len_at_least c.instance-item.is) c.requires.pushing
    c.in_ok-push_instance-in-len1-up.ensures
