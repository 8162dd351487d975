use Rattle.std.proofs.Common.{◌≡◌, ◌++◌, [], sym, subst}
use Rattle.std.specs.Prelude.{IfOk}
use Rattle.std.proofs.lemmas.Option.{get_or_from_slice_get}
use Rattle.deck.specs.Escapes.{escaped}
use Rattle.trace_tool.proofs.port_names.port_of.Goals as goal

pub returns : goal.returns
returns c =
    let name = c.list.result.now in
    let here = get_or_from_slice_get c.args.names.now c.args.signal name [] c.list.ensures in
    subst (λ name. IfOk c.port_name.result (λ port. port ≡ c.args.front.now ++ escaped name)) (sym here) c.port_name.ensures
