use Rattle.phase_assign.proofs.ChosenSigns.{chosen_no_worse, chosen_settled, chosen_signs_one, chosen_there}
use Rattle.phase_assign.proofs.laws.chosen_signs_are_settled.Goals as goal

pub returns-clause-there : goal.returns-clause-there
returns-clause-there c = λ gates order. chosen_there gates order

pub returns-clause-one : goal.returns-clause-one
returns-clause-one c = λ gates a b x y. chosen_signs_one gates a b x y

pub returns-clause-settled : goal.returns-clause-settled
returns-clause-settled c = λ gates signs order is. chosen_settled gates order signs is

pub returns-clause-no_worse : goal.returns-clause-no_worse
returns-clause-no_worse c = λ gates signs m n order is a b. chosen_no_worse gates order signs is m n a b
