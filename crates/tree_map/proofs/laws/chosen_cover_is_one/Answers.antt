use Rattle.cover_plan.proofs.Chosen.{chosen_one}
use Rattle.cover_plan.proofs.Firsts.{chosen_cover_there}
use Rattle.tree_map.specs.Covers.{ordinary_costs}
use Rattle.tree_map.proofs.laws.chosen_cover_is_one.Goals as goal

pub returns-clause-there : goal.returns-clause-there
returns-clause-there c = λ w h part choice shape sum wide tall is. chosen_cover_there ordinary_costs w h wide tall part choice shape sum is

pub returns-clause-one : goal.returns-clause-one
returns-clause-one c = λ w h part choice a b x y. chosen_one ordinary_costs w h part choice a b x y
