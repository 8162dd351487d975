use Rattle.std.proofs.Common.{◌≡◌, ◌<◌, ◌+◌, ◌∙◌, map, length, Some, ap, sym, subst, rules}
use Rattle.std.specs.Prelude.{All, slice_get}
use Rattle.std.proofs.lemmas.Option.{same_Some}
use Rattle.network.specs.NetworkData.{NetTableData, NetworkData}
use Rattle.network.specs.Networks.{first_table}
use Rattle.net_flatten.specs.OneModel.{name_at}
use Rattle.net_flatten.proofs.ToFile.{reads_within}
use Rattle.net_flatten.proofs.one_model.table_of.Goals as goal

pub names_read-requires : goal.names_read-requires
names_read-requires c =
    let n : NetworkData = record { name = c.network.inside.name; names = c.network.inside.names; inputs = c.network.inside.inputs; outputs = c.network.inside.outputs.items; latches = c.network.inside.latches.items; tables = c.network.inside.tables } in
    let inputs = ap (λ (t : NetTableData). t.inputs) c.table.view_is in
    let reads = reads_within n c.network.invariant c.args.k c.table-table.result c.table-table.ensures in
    subst (λ signals. All (λ signal. signal < length c.args.network.now.names) signals) (sym inputs)
    (subst (λ count. All (λ signal. signal < count) c.table-table.result.inputs) (ap (λ (n : NetworkData). length n.names) c.network.view_is) reads)

pub returns : goal.returns
returns c = λ t e.
    let n = c.args.network.now in
    let table : c.table-table.result ≡ t = same_Some c.table-table.result t (sym c.table-table.ensures ∙ ap (λ (n : NetworkData). slice_get n.tables c.args.k) c.network.view_is ∙ e) in
    let whole = c.table.view_is ∙ table in
    let inputs = c.in_ok-names_read.ensures ∙ ap (λ (t : NetTableData). map (name_at n) t.inputs) whole in
    let first : c.network.inside.inputs + c.len.result + c.args.k ≡ first_table n + c.args.k = search rules in
    let output = c.in_ok-name_of.ensures ∙ ap (name_at n) first in
    let rows = c.in_ok-copies.ensures ∙ ap (λ (t : NetTableData). t.rows) whole in
    let on = ap (λ (t : NetTableData). t.on) whole in
    λ i. record { inputs = inputs i; output = output i; on = on i; rows = rows i; line = 2 + c.args.k }
