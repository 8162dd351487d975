use Rattle.std.proofs.Common.{[], ap, ◌∙◌}
use Rattle.std.proofs.lemmas.Option.{get_or_from_slice_get, slice_get_within}
use Rattle.std.proofs.lemmas.Result.{on_ok_weaker}
use Rattle.numbered_file.specs.OpenLists.{open_lists, with_model}
use Rattle.file_copies.proofs.numbering.close_model.Goals as goal

pub add_model-requires : goal.add_model-requires
add_model-requires c = slice_get_within c.number.new.self.names c.in_ok-number.number c.args.name.now c.in_ok-number.ensures.number

pub returns : goal.returns
returns c = on_ok_weaker c.add_model.result
    (λ e. e ∙ ap (λ w. with_model (open_lists c.number.new.self) w c.args.line)
    (get_or_from_slice_get c.number.new.self.names c.in_ok-number.number c.args.name.now [] c.in_ok-number.ensures.number)
    ∙ ap (λ l. with_model l c.args.name.now c.args.line) c.in_ok-number.ensures.lists) c.add_model.ensures.lists
