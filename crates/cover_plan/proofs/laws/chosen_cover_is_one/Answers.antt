use Rattle.cover_plan.proofs.Chosen.{chosen_is, chosen_one}
use Rattle.cover_plan.proofs.Firsts.{chosen_cover_there}
use Rattle.cover_plan.proofs.laws.chosen_cover_is_one.Goals as goal

pub returns-clause-there : goal.returns-clause-there
returns-clause-there k = λ c w h part choice shape sum wide tall. chosen_cover_there c w h wide tall part choice shape sum

pub returns-clause-one : goal.returns-clause-one
returns-clause-one k = λ c w h part choice a b. chosen_one c w h part choice a b

pub returns-clause-least : goal.returns-clause-least
returns-clause-least k = λ c w h part choice cover shape sum. chosen_is c w h part choice cover shape sum
