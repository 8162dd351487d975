use Rattle.gate_decompose.proofs.NeededLists.{needed_one, needed_there}
use Rattle.gate_decompose.proofs.laws.needed_pairs_are_one.Goals as goal

pub returns-clause-there : goal.returns-clause-there
returns-clause-there c = λ gates signs order. needed_there gates signs order

pub returns-clause-one : goal.returns-clause-one
returns-clause-one c = λ gates signs a b x y. needed_one gates signs a b x y
