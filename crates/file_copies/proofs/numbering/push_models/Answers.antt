use Rattle.std.proofs.Common.{◌-◌, drop, length, take}
use Rattle.numbered_file.specs.OpenLists.{open_lists}
use Rattle.file_copies.proofs.ModelsToCome.{adding-starts, adding-step}
use Rattle.file_copies.proofs.PartsToCome.{head-and-rest}
use Rattle.file_copies.proofs.numbering.push_models.Goals as goal

pub models-init : goal.models-init
models-init c = adding-starts (open_lists c.args.file.now) c.args.models.now c.args.letters.now c.requires.new c.requires.good c.requires.letters

pub push_model-requires-clause-closed : goal.push_model-requires-clause-closed
push_model-requires-clause-closed c = c.models.invariant.closed

pub models-preserved : goal.models-preserved
models-preserved c =
    let rest = c.models.rest.now in
    adding-step (open_lists c.models.file) c.args.models.now c.model-item.result (take (length rest - 1) (drop 1 rest)) rest c.args.letters.now c.models.left.now
    (head-and-rest rest c.model-item.result c.in-len1-up.len_at_least c.model-item.is) c.models.invariant (open_lists c.push_model.new.file) c.in_ok-left.left.now
    c.in_ok-left.ensures.lists c.in_ok-left.ensures.left c.in_ok-left.ensures.there
