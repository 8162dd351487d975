use Rattle.std.proofs.Common.{◌∷◌, [], ap, ◌∙◌}
use Rattle.std.proofs.lemmas.Option.{get_or_from_slice_get, slice_get_within}
use Rattle.std.proofs.lemmas.Result.{on_ok_weaker}
use Rattle.numbered_file.specs.OpenLists.{open_lists, with_inputs}
use Rattle.numbered_file.proofs.open_file.OpenFile.add_input.Goals as goal

pub push_input-requires : goal.push_input-requires
push_input-requires c = slice_get_within c.number.new.self.names c.in_ok-number.number c.args.name.now c.in_ok-number.ensures.number

pub returns-clause-lists : goal.returns-clause-lists
returns-clause-lists c = on_ok_weaker c.push_input.result (λ e. e
    ∙ ap (λ w. with_inputs (open_lists c.number.new.self) (w ∷ [])) (get_or_from_slice_get c.number.new.self.names c.in_ok-number.number c.args.name.now [] c.in_ok-number.ensures.number)
    ∙ ap (λ l. with_inputs l (c.args.name.now ∷ [])) c.in_ok-number.ensures.lists) c.push_input.ensures.lists
