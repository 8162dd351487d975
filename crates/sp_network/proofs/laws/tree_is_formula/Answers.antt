use Rattle.dom_base.specs.declared.kind.Kind.TheVariants.{N as nch}
use Rattle.sp_network.proofs.Known.{IsKnown-tree_conduction, tree_conduction-one}
use Rattle.sp_network.proofs.laws.tree_is_formula.Goals as goal

pub returns-clause-known : goal.returns-clause-known
returns-clause-known c = λ value tree h. IsKnown-tree_conduction nch value tree h

pub returns-clause-formula : goal.returns-clause-formula
returns-clause-formula c = λ value tree. tree_conduction-one nch value tree
