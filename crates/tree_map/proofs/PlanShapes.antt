-- Kept free edges whose trees' shapes fit are a plan.
use Rattle.std.proofs.Common.{refl, ◌∙◌}
use Rattle.dom_base.proofs.Bools.{never}
use Rattle.cover_plan.specs.Covers.{ordinary_costs}
use Rattle.compound_plan.proofs.OrdinaryPlans.{marks_long, no_marks, ordinary_plan, unmarked}
use Rattle.compound_plan.proofs.PlanShapes as general
use Rattle.tree_map.specs.PlanShapes.{ShapesMakePlans}

-- kept free edges, with a shape of each pair that its arms give and that fits, are a plan
pub plan_there : ShapesMakePlans
plan_there = λ forest w h kept shape order one_each free shapes.
    let cells = general.plan_there ordinary_costs forest w h kept (no_marks kept) shape order (λ p k. unmarked kept p)
    (λ place pair at. ((λ m. shapes place pair at), (λ m. absurd (never m (unmarked kept place))))) one_each (marks_long kept ∙ one_each) free
    (λ place m. absurd (never m (unmarked kept place))) in
    let plan = ordinary_plan ordinary_costs refl forest w h kept (no_marks kept) cells.0 cells.1 in
    (plan.0, plan.2)
