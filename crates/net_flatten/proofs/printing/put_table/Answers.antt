use Rattle.std.proofs.Common.{◌≡◌, ◌<◌, ◌+◌, ◌∙◌, ◌∷◌, [], ◌++◌, map, length, codes, Some, ap, sym, subst, rules}
use Rattle.std.specs.Prelude.{All, slice_get}
use Rattle.std.specs.List.{flat_map}
use Rattle.std.proofs.lemmas.Option.{same_Some}
use Rattle.std.proofs.lemmas.Result.{on_ok_weaker}
use Rattle.blif_ast.specs.Printed.{names_words, printed_line, row_words}
use Rattle.blif_ast.proofs.FileLines.{table_end}
use Rattle.network.specs.NetworkData.{NetTableData, NetworkData}
use Rattle.network.specs.Networks.{first_table}
use Rattle.net_flatten.specs.OneModel.{name_at, table_at}
use Rattle.net_flatten.proofs.ToFile.{reads_within}
use Rattle.net_flatten.proofs.printing.put_table.Goals as goal

pub put_card-requires-clause-inputs : goal.put_card-requires-clause-inputs
put_card-requires-clause-inputs c =
    let n : NetworkData = record { name = c.network.inside.name; names = c.network.inside.names; inputs = c.network.inside.inputs; outputs = c.network.inside.outputs.items; latches = c.network.inside.latches.items; tables = c.network.inside.tables } in
    let inputs = ap (λ (t : NetTableData). t.inputs) c.table.view_is in
    let reads = reads_within n c.network.invariant c.args.k c.table-table.result c.table-table.ensures in
    subst (λ signals. All (λ signal. signal < length c.args.network.now.names) signals) (sym inputs)
    (subst (λ count. All (λ signal. signal < count) c.table-table.result.inputs) (ap (λ (n : NetworkData). length n.names) c.network.view_is) reads)

pub returns : goal.returns
returns c = on_ok_weaker c.put_rows.result (λ put t e.
    let n = c.args.network.now in
    let old = c.args.text.now.items in
    let table : c.table-table.result ≡ t = same_Some c.table-table.result t (sym c.table-table.ensures ∙ ap (λ (n : NetworkData). slice_get n.tables c.args.k) c.network.view_is ∙ e) in
    let whole = c.table.view_is ∙ table in
    let inputs = ap (λ (t : NetTableData). t.inputs) whole in
    let rows = ap (λ (t : NetTableData). t.rows) whole in
    let first : c.network.inside.inputs + c.len.result + c.args.k ≡ first_table n + c.args.k = search rules in
    let card = c.in_ok-put_card.ensures
    ∙ ap (λ names. old ++ printed_line (codes ".names" ∷ map (name_at n) names ++ name_at n (c.network.inside.inputs + c.len.result + c.args.k) ∷ [])) inputs
    ∙ ap (λ output. old ++ printed_line (codes ".names" ∷ map (name_at n) t.inputs ++ name_at n output ∷ [])) first in
    put
    ∙ ap (λ text. text ++ flat_map (λ row. printed_line (row_words c.table.inside.on row)) c.table.inside.rows) card
    ∙ ap (λ on. (old ++ printed_line (names_words (table_at n c.args.k t))) ++ flat_map (λ row. printed_line (row_words on row)) c.table.inside.rows) (ap (λ (t : NetTableData). t.on) whole)
    ∙ ap (λ rows. (old ++ printed_line (names_words (table_at n c.args.k t))) ++ flat_map (λ row. printed_line (row_words t.on row)) rows) rows
    ∙ table_end old (table_at n c.args.k t)) c.put_rows.ensures
