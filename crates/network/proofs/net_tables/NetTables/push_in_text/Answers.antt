use Rattle.std.proofs.Common.{◌≡◌, [], ◌∷◌, ◌++◌, length, ap, sym, ◌∙◌, rules}
use Rattle.std.proofs.lemmas.List.{length-map}
use Rattle.network.specs.TablePools.{tables_in}
use Rattle.network.proofs.TablePools.{pushed_table}
use Rattle.network.proofs.net_tables.NetTables.push_in_text.Goals as goal

pub returns : goal.returns
returns c =
    let reads = c.self.inside.reads.items in
    let inputs = c.args.inputs.now in
    let rows = c.self.inside.rows in
    let more = c.args.rows.now in
    let places = c.rows.inside.places.now in
    let placed : c.in_ok-rows_at.rows_at.count ≡ length places = search rules in
    let count = placed ∙ sym (length-map places _) ∙ ap length c.rows.view_is in
    ap (λ xs. tables_in xs c.push_rows_in_text.new.pool c.push.new.self.items) c.in_ok-extend_from_slice.ensures.items
    ∙ ap (λ all. tables_in (reads ++ inputs) all c.push.new.self.items) c.in_ok-push_rows_in_text.ensures.rows
    ∙ ap (tables_in (reads ++ inputs) (rows ++ more)) c.in_ok-push.ensures.items
    ∙ pushed_table reads inputs rows more c.self.inside.tables.items _ c.self.invariant (search rules) (search rules) (search rules) count
    ∙ ap (λ tables. tables ++ record { inputs = inputs; on = c.args.on; rows = more } ∷ []) c.self.view_is
