use Rattle.std.proofs.Common.{refl}
use Rattle.dom_base.specs.declared.kind.Kind.TheVariants.{N as nch, P as pch}
use Rattle.sp_network.specs.Tree.{dual}
use Rattle.sp_network.proofs.Duals.{one_conducts, tree_conduction-dual}
use Rattle.sp_network.proofs.laws.dual_conducts_opposite.Goals as goal

pub returns-clause-opposite : goal.returns-clause-opposite
returns-clause-opposite c = λ tree. tree_conduction-dual nch pch (λ v. refl) tree

pub returns-clause-one : goal.returns-clause-one
returns-clause-one c = λ tree. one_conducts nch pch tree (dual tree) (tree_conduction-dual nch pch (λ v. refl) tree)
