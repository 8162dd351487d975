use Rattle.tree_map.proofs.CompoundCells.{ordinary_chosen}
use Rattle.tree_map.proofs.mapped.kept_edges.Goals as goal

pub returns : goal.returns
returns c =
    let d = c.in_ok-decided.decided in
    record {
      chosen = ordinary_chosen c.args.forest.now c.args.bounds.w c.args.bounds.h d.kept.items d.split.items c.in_ok-decided.ensures.0 c.in_ok-decided.ensures.1;
    }
