-- A plan without compound cells is an ordinary plan, and the chosen one is the chosen ordinary one: it costs least, is one, and is there.
use Rattle.std.specs.Prelude.{map}
use Rattle.std.specs.List.{AllZip}
use Rattle.std.proofs.Common.{All, Bool, List, [], ap, arith, false, length, refl, suc, sym, true, zero, ℕ, ◌∙◌, ◌∷◌, ◌≡◌, ◌≤◌}
use Rattle.std.proofs.lemmas.List.Sums.{sum_by-cons}
use Rattle.std.proofs.lemmas.List.Elements.{All-cons, All-head, All-nil, All-tail}
use Rattle.dom_base.proofs.Bools.{not_true}
use Rattle.dom_base.proofs.Lists.{map-injective}
use Rattle.sp_network.specs.Tree.{Tree}
use Rattle.dual_rail.specs.ForestData.{ForestData}
use Rattle.dual_rail.specs.ForestOrder.{AreInOrder}
use Rattle.compound_plan.specs.Bounds.{IsWithin}
use Rattle.compound_plan.specs.PlanTrees.{IsTreeOf, cost_by, is_kept, roots, tree_cost_by}
use Rattle.compound_plan.specs.OrdinaryPlans as ordinary
use Rattle.cover_plan.specs.Covers.{Costs}
use Rattle.cover_plan.proofs.SimpleRoots.{simple_root}
use Rattle.compound_plan.specs.PlanParts.{operator_of}
use Rattle.compound_plan.specs.OrdinaryPlans.{IsChosenPlanBy, OrdinaryPlansAreChosen, OrdinaryPlansAreLeast}
use Rattle.compound_plan.specs.Plans.{AreWithin, CellTrees, Compound, IsCellOf, IsChosenPlan, IsPlan, Simple, cell_cost, cost}
use Rattle.compound_plan.proofs.LeastPlan.{chosen_plan_least}
use Rattle.compound_plan.proofs.PlanOne.{chosen_plan_one}
use Rattle.compound_plan.proofs.PlanThere.{chosen_plan_there}

pub same_cost : (c : Costs) (trees : List (Tree ℕ)) → cost c (map Simple trees) ≡ cost_by c trees
same_cost c [] = refl
same_cost c (t ∷ ts) =
    let a = sum_by-cons (cell_cost c) (Simple t) (map Simple ts) in
    let b = sum_by-cons (tree_cost_by c) t ts in
    let rest = same_cost c ts in
    omega (arith, a, b, rest)

-- no pair is marked
pub no_marks : List Bool → List Bool
no_marks bits = map (λ b. false) bits

pub unmarked : (bits : List Bool) (place : ℕ) → is_kept (no_marks bits) place ≡ false
unfolding no_marks
unmarked [] place = refl
unmarked (b ∷ bits) zero = refl
unmarked (b ∷ bits) (suc place) = unmarked bits place

pub marks_long : (bits : List Bool) → length (no_marks bits) ≡ length bits
unfolding no_marks
marks_long [] = refl
marks_long (b ∷ bits) = ap suc (marks_long bits)

module _ (c : Costs) (none : c.splits ≡ false) (forest : ForestData) (w h : ℕ) where
  -- an ordinary plan is one without marks
  cells_of : (kept : List Bool) (places : List ℕ) (trees : List (Tree ℕ)) → AllZip (IsTreeOf forest kept) places trees
      → AllZip (IsCellOf forest kept (no_marks kept)) places (map Simple trees)
  cells_of kept [] [] z = tt
  cells_of kept [] (t ∷ ts) z = absurd z
  cells_of kept (p ∷ ps) [] z = absurd z
  cells_of kept (p ∷ ps) (t ∷ ts) z = ((unmarked kept p, z.0), cells_of kept ps ts z.1)

  within_of : (trees : List (Tree ℕ)) → All (IsWithin w h) trees → All (AreWithin w h) (map Simple trees)
  within_of [] z = All-nil (AreWithin w h)
  within_of (t ∷ ts) z = All-cons (AreWithin w h) (Simple t) (map Simple ts) (All-head (IsWithin w h) t ts z) (within_of ts (All-tail (IsWithin w h) t ts z))

  pub to_plan : (kept : List Bool) (trees : List (Tree ℕ)) → ordinary.IsPlan forest w h kept trees → IsPlan c forest w h kept (no_marks kept) (map Simple trees)
  to_plan kept trees is = record {
    one_each = is.one_each;
    mark_each = marks_long kept ∙ is.one_each;
    free = is.free;
    marked = λ place e. let no = sym e ∙ unmarked kept place in absurd (cc);
    cells_are = cells_of kept (roots kept) trees is.trees_are;
    within = within_of trees is.within;
  }

  -- and a plan without compound cells is ordinary
  record AreSimple (kept : List Bool) (places : List ℕ) (cells : List CellTrees) : Type 0 where
    trees : List (Tree ℕ)
    cells_are : cells ≡ map Simple trees
    trees_are : AllZip (IsTreeOf forest kept) places trees
    within : All (IsWithin w h) trees

  simple_cells : (kept split : List Bool) → ((place : ℕ) → is_kept split place ≡ true → ⊥) → (places : List ℕ) (cells : List CellTrees)
      → AllZip (IsCellOf forest kept split) places cells → All (AreWithin w h) cells → AreSimple kept places cells
  simple_cells kept split never [] [] z low = record { trees = []; cells_are = refl; trees_are = tt; within = All-nil (IsWithin w h) }
  simple_cells kept split never [] (d ∷ ds) z low = absurd z
  simple_cells kept split never (p ∷ ps) [] z low = absurd z
  simple_cells kept split never (p ∷ ps) (Simple t ∷ cs) z low =
      let more = simple_cells kept split never ps cs z.1 (All-tail (AreWithin w h) (Simple t) cs low) in
      record {
        trees = t ∷ more.trees;
        cells_are = ap (λ l. Simple t ∷ l) more.cells_are;
        trees_are = (z.0.1, more.trees_are);
        within = All-cons (IsWithin w h) t more.trees (All-head (AreWithin w h) (Simple t) cs low) more.within;
      }
  simple_cells kept split never (p ∷ ps) (Compound l r ∷ cs) z low = absurd (never p z.0.0)

  unmarked_in : (kept split : List Bool) (cells : List CellTrees) → IsPlan c forest w h kept split cells → (place : ℕ) → is_kept split place ≡ true → ⊥
  unmarked_in kept split cells plan place e = let yes = (plan.marked place e).1 in cc

  pub ordinary_plan : (kept split : List Bool) (cells : List CellTrees) → IsPlan c forest w h kept split cells
      → (trees : List (Tree ℕ)) × (cells ≡ map Simple trees) × ordinary.IsPlan forest w h kept trees
  ordinary_plan kept split cells plan =
      let s = simple_cells kept split (unmarked_in kept split cells plan) (roots kept) cells plan.cells_are plan.within in
      (s.trees, s.cells_are, record { one_each = plan.one_each; free = plan.free; trees_are = s.trees_are; within = s.within })

  -- the ties choose alike
  chosen_plan : (kept split : List Bool) (cells : List CellTrees) → IsChosenPlan c forest w h kept split cells
      → (trees : List (Tree ℕ)) × (cells ≡ map Simple trees) × IsChosenPlanBy c forest w h kept trees
  chosen_plan kept split cells is =
      let p = ordinary_plan kept split cells is.plan in (
        p.0,
        p.1,
        record {
          plan = p.2;
          shapes = is.shapes;
          one_each = is.one_each;
          decided = λ place pair shape e f.
              let d = is.decided place pair shape e f in
              let bare = not_true (is_kept split place) (unmarked_in kept split cells is.plan place) in
              record {
                l = d.l;
                r = d.r;
                left_part = d.left_part;
                right_part = d.right_part;
                root = λ z. (d.root z bare).0;
                left = d.left;
                right = d.right;
                takes_left = d.takes_left;
                takes_right = d.takes_right;
                first = d.first bare;
              };
        },
      )

  unmarked_plan : (kept : List Bool) (trees : List (Tree ℕ)) → IsChosenPlanBy c forest w h kept trees → IsChosenPlan c forest w h kept (map (λ b. false) kept) (map Simple trees)
  unfolding no_marks
  unmarked_plan kept trees is = record {
    plan = to_plan kept trees is.plan;
    shapes = is.shapes;
    one_each = is.one_each;
    decided = λ place pair shape e f.
        let d = is.decided place pair shape e f in
        record {
          l = d.l;
          r = d.r;
          left_part = d.left_part;
          right_part = d.right_part;
          left = d.left;
          right = d.right;
          takes_left = d.takes_left;
          takes_right = d.takes_right;
          first = λ z. d.first;
          root = λ z y. (d.root z, simple_root c none w h (operator_of pair) d.l d.r (d.root z).sum);
          compound = λ z. absurd (let no_mark = sym z ∙ unmarked kept place in cc);
        };
  }

  -- so the chosen ordinary plan costs least, is one, and is there
  pub ordinary_least : (kept : List Bool) (trees : List (Tree ℕ)) → AreInOrder forest.pairs → IsChosenPlanBy c forest w h kept trees → ordinary.IsLeastPlanBy c forest w h kept trees
  ordinary_least kept trees order is = record {
    plan = is.plan;
    least = λ other more plan.
        let le = (chosen_plan_least c forest w h kept _ _ order (unmarked_plan kept trees is)).least other (no_marks other) (map Simple more) (to_plan other more plan) in
        let own = same_cost c trees in
        let theirs = same_cost c more in
        omega (arith, le, own, theirs);
  }

  pub ordinary_one : (kept other : List Bool) (trees more : List (Tree ℕ)) → AreInOrder forest.pairs → IsChosenPlanBy c forest w h kept trees → IsChosenPlanBy c forest w h other more
      → (kept ≡ other) × (trees ≡ more)
  ordinary_one kept other trees more order a b =
      let one = chosen_plan_one c forest w h kept _ other _ _ _ order (unmarked_plan kept trees a) (unmarked_plan other more b) in
      (one.0, map-injective Simple (λ s t e. same_tree s t e) trees more one.2)
    where
      same_tree : (s t : Tree ℕ) → Simple s ≡ Simple t → s ≡ t
      same_tree s t e = cc

  pub ordinary_there : 2 ≤ w → 2 ≤ h → AreInOrder forest.pairs → (kept : List Bool) × (trees : List (Tree ℕ)) × IsChosenPlanBy c forest w h kept trees
  ordinary_there wide tall order =
      let p = chosen_plan_there c forest w h wide tall order in
      let s = chosen_plan p.0 p.1 p.2 p.3 in
      (p.0, s.0, s.2)

pub ordinary_plans_are_least : OrdinaryPlansAreLeast
ordinary_plans_are_least = λ c forest w h kept split cells none order is.
    let s = chosen_plan c none forest w h kept split cells is in
    (s.0, s.1, ordinary_least c none forest w h kept s.0 order s.2)

pub ordinary_plans_are_chosen : OrdinaryPlansAreChosen
ordinary_plans_are_chosen = record {
  ordinary = λ c forest w h kept split cells none is. chosen_plan c none forest w h kept split cells is;
  compound = λ c forest w h kept trees none is. unmarked_plan c none forest w h kept trees is;
}
