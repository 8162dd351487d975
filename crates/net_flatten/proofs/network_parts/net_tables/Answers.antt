use Rattle.std.proofs.lemmas.Option.{slice_get-get_or}
use Rattle.net_flatten.proofs.NetworkSteps.{tables_next}
use Rattle.net_flatten.proofs.network_parts.net_tables.Goals as goal

pub loop-index-preserved : goal.loop-index-preserved
loop-index-preserved c =
    let at = slice_get-get_or c.args.ordered.now c.loop-index.index (record { level = 0; part = 0 }) c.loop-index-test.true in
    tables_next c.args.file.now c.args.places.now c.args.parts.now c.args.ordered.now c.loop-index.index _ c.loop-index.tables c.push_levelled.new.tables
    at c.in_ok-push_levelled.ensures c.loop-index.invariant
