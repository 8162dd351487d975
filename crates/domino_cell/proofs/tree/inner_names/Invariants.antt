use Rattle.std.proofs.Common.{◌≡◌, length}
use Rattle.domino_cell.specs.NamedTrees.{AreInnerNames}
use Rattle.domino_cell.proofs.tree.inner_names.Given as goal

-- the names of the first inner nets
abbrev pub invariant-inners : goal.invariant-inners
invariant-inners g l = record {
  count : length l.names.items ≡ l.inner;
  named : AreInnerNames l.front l.names.items;
}
