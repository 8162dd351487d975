use Rattle.domino_cell.specs.NamedTrees.{inner_net}
use Rattle.compound_cell.proofs.right_names.right_names.Goals as goal

pub returns : goal.returns
returns c =
    let left = c.in_ok-names.ensures in
    λ i. record {
      vdd = left.vdd i;
      vss = left.vss i;
      clock = left.clock_is i;
      dynamic = c.in_ok-dynamic.ensures i;
      output = left.output i;
      foot = c.in_ok-foot.ensures i;
      inner = inner_net (c.in_ok-front.ensures i);
    }
