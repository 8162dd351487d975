use Rattle.std.proofs.Common.{◌-◌, drop, length, take}
use Rattle.numbered_file.specs.OpenLists.{open_lists}
use Rattle.file_copies.proofs.PartsToCome.{head-and-rest, table-next}
use Rattle.file_copies.proofs.model_parts.push_next_table.Goals as goal

pub returns-in_ok-left-in-len1-up : goal.returns-in_ok-left-in-len1-up
returns-in_ok-left-in-len1-up c =
    let tables = c.args.rest.now.tables.now in
    let more = take (length tables - 1) (drop 1 tables) in
    table-next (open_lists c.args.file.now) (open_lists c.push_table.new.file) tables more c.args.rest.now.latches.now c.args.rest.now.instances.now
    c.args.letters.now c.in_ok-left-in-len1-up.left.now c.table-item.result (head-and-rest tables c.table-item.result c.in-len1-up.len_at_least c.table-item.is) c.requires.pushing
    c.in_ok-left-in-len1-up.ensures.lists c.in_ok-left-in-len1-up.ensures.left
