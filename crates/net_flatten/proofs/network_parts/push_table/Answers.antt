use Rattle.std.proofs.Common.{◌≡◌, [], ◌∷◌, ◌++◌, map, Some, ap, sym, ◌∙◌, rules}
use Rattle.std.proofs.lemmas.Result.{on_ok_weaker}
use Rattle.dom_base.proofs.Lists.{map-push}
use Rattle.network.specs.NetworkData.{NetTableData}
use Rattle.net_flatten.specs.NetworkParts.{table_in_network}
use Rattle.net_flatten.proofs.network_parts.push_table.Goals as goal

pub returns : goal.returns
returns c =
    let table : NetTableData = record { inputs = c.deref.result.now; on = c.on.result; rows = c.rows.result } in
    let is : table_in_network c.args.file.now c.args.places.now c.args.part.now ≡ Some table = search rules in
    on_ok_weaker c.push_in_text.result (λ pushed.
    ap (map Some) pushed ∙ map-push Some c.args.tables.now table ∙ ap (λ o. map Some c.args.tables.now ++ o ∷ []) (sym is)) c.push_in_text.ensures
