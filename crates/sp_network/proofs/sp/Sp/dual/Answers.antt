use Rattle.dom_base.proofs.Options.{if_ok-weaker}
use Rattle.sp_network.specs.TypedTree.{tree_of}
use Rattle.sp_network.proofs.Duals.{dual_opposite, one_conducts}
use Rattle.sp_network.proofs.sp.Sp.dual.Goals as goal

pub returns-clause-opposite : goal.returns-clause-opposite
returns-clause-opposite g c =
    if_ok-weaker c.exchanged.result
    (λ d e. dual_opposite _ _ _ _ (tree_of c.args.self.now) (tree_of d) g.S.Polarity.is_switch g.S.Other.Polarity.is_switch g.met.S.Supply.opposite_on e)
    c.exchanged.ensures

pub returns-clause-one : goal.returns-clause-one
returns-clause-one g c =
    if_ok-weaker c.exchanged.result
    (λ d e. one_conducts _ _ (tree_of c.args.self.now) (tree_of d)
    (dual_opposite _ _ _ _ (tree_of c.args.self.now) (tree_of d) g.S.Polarity.is_switch g.S.Other.Polarity.is_switch g.met.S.Supply.opposite_on e))
    c.exchanged.ensures
