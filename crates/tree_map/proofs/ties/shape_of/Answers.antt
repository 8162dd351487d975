use Rattle.tree_map.proofs.FirstLeast.{root_kind}
use Rattle.tree_map.proofs.ties.shape_of.Goals as goal

pub returns-in-Some-root_of-clause-root : goal.returns-in-Some-root_of-clause-root
returns-in-Some-root_of-clause-root c = λ none.
    root_kind c.args.sums.now c.args.place _ _ c.is_compound.result c.in-Some-root_of.ensures.0 c.in-Some-root_of.ensures.1
    c.is_compound.ensures.compound c.is_compound.ensures.simple
