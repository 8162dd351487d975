-- Where neither of two costs has compound cells, the sums of a part rise together: with the trees that are cut off. So the ties choose alike.
use Rattle.std.proofs.Common.{◌≡◌, refl, sym, ap, subst, false, ◌∙◌, ℕ, ◌+◌, ◌*◌, ◌≤◌, Bool, List, arith}
use Rattle.std.proofs.Math.Nat.{le_of_mul-le-mul_left, mul-add, mul-le-mul_left, mul-one, mul-zero}
use Rattle.sp_network.specs.Tree.{Tree}
use Rattle.dual_rail.specs.ForestData.{ForestData}
use Rattle.cover_plan.specs.Covers.{AreFirst, Costs, Cover, Cut, GivesLeast, IsChoice, IsCover, IsLeast, IsLeastOfAll, IsRootShape, IsSum, Kept, Single, Split, joined_sum, sum_of}
use Rattle.cover_plan.specs.Parts.{Choice, CoverPart, CutOff, End, Join, Keep, Nothing, Operator, TreeShape}
use Rattle.cover_plan.proofs.SimpleRoots.{root_back, root_here}
use Rattle.cover_plan.proofs.Sums.{joined-is, none_split, series_of}
use Rattle.compound_plan.specs.OrdinaryPlans.{IsChosenPlanBy}
use Rattle.compound_plan.specs.PlanParts.{operator_of}

-- the covers are the same
cover_to : (c d : Costs) → c.splits ≡ false → (w h : ℕ) (part : CoverPart) (cover : Cover) → IsCover c w h part cover → IsCover d w h part cover
cover_to c d none w h End Single is = tt
cover_to c d none w h End (Kept a b) is = absurd is
cover_to c d none w h End (Cut a b) is = absurd is
cover_to c d none w h End (Split a b) is = absurd is
cover_to c d none w h (Join op l r) Single is = absurd is
cover_to c d none w h (Join op l r) (Kept a b) is = (cover_to c d none w h l a is.0, cover_to c d none w h r b is.1)
cover_to c d none w h (Join op l r) (Cut a b) is = (cover_to c d none w h l a is.0, cover_to c d none w h r b is.1, is.2)
cover_to c d none w h (Join op l r) (Split a b) is = absurd (none_split c op none is.2)

-- what a part adds whatever its cover: for each pair a leaf, and its node
own : Costs → CoverPart → ℕ
own c End = 0
own c (Join op l r) = 1 + series_of c op + (own c l + own c r)

-- how many trees a cover cuts off
cuts : CoverPart → Cover → ℕ
cuts (Join op l r) (Kept a b) = cuts l a + cuts r b
cuts (Join op l r) (Cut a b) = 1 + (cuts l a + cuts r b)
cuts _ _ = 0

-- sums with the one costs and with the other, of the same number of trees that are cut off
record AreAlike (c d : Costs) (part : CoverPart) (sum other : ℕ) : Type 0 where
  cut_off : ℕ
  sum_is : sum ≡ own c part + 1 + (c.simple + 1) * cut_off
  other_is : other ≡ own d part + 1 + (d.simple + 1) * cut_off

swapped : (c d : Costs) (part : CoverPart) (m n : ℕ) → AreAlike c d part m n → AreAlike d c part n m
swapped c d part m n a = record { cut_off = a.cut_off; sum_is = a.other_is; other_is = a.sum_is }

counted : (c : Costs) → c.splits ≡ false → (w h : ℕ) (part : CoverPart) (cover : Cover) → IsCover c w h part cover → sum_of c part cover ≡ own c part + 1 + (c.simple + 1) * cuts part cover
unfolding own cuts
counted c none w h End Single is = omega (arith, mul-zero (c.simple + 1))
counted c none w h End (Kept a b) is = absurd is
counted c none w h End (Cut a b) is = absurd is
counted c none w h End (Split a b) is = absurd is
counted c none w h (Join op l r) Single is = absurd is
counted c none w h (Join op l r) (Kept a b) is =
    let x = counted c none w h l a is.0 in
    let y = counted c none w h r b is.1 in
    omega (arith, x, y, mul-add (c.simple + 1) (cuts l a) (cuts r b), joined-is c op (sum_of c l a) (sum_of c r b))
counted c none w h (Join op l r) (Cut a b) is =
    let x = counted c none w h l a is.0 in
    let y = counted c none w h r b is.1 in
    omega (arith, x, y, mul-add (c.simple + 1) (cuts l a) (cuts r b), mul-add (c.simple + 1) 1 (cuts l a + cuts r b), mul-one (c.simple + 1), joined-is c op (sum_of c l a) (sum_of c r b))
counted c none w h (Join op l r) (Split a b) is = absurd (none_split c op none is.2)

-- of two sums the smaller is the smaller with the other costs
order : (c d : Costs) (part : CoverPart) (m n s t : ℕ) → AreAlike c d part m s → AreAlike c d part n t → m ≤ n → s ≤ t
order c d part m n s t a b le =
    let less : (c.simple + 1) * a.cut_off ≤ (c.simple + 1) * b.cut_off = omega (arith, le, a.sum_is, b.sum_is) in
    let fewer : a.cut_off ≤ b.cut_off = le_of_mul-le-mul_left less (omega arith) in
    let times = mul-le-mul_left (d.simple + 1) fewer in
    omega (arith, times, a.other_is, b.other_is)

same_other : (c d : Costs) (part : CoverPart) (m s t : ℕ) → AreAlike c d part m s → AreAlike c d part m t → s ≡ t
same_other c d part m s t a b =
    let up = order c d part m m s t a b (omega arith) in
    let down = order c d part m m t s b a (omega arith) in
    omega (arith, up, down)

-- a sum with the one costs, with that of the same cover with the other
record HasSum (c d : Costs) (w h : ℕ) (part : CoverPart) (shape : TreeShape) (sum : ℕ) : Type 0 where
  other : ℕ
  alike : AreAlike c d part sum other
  is : IsSum d w h part shape other

sum_to : (c d : Costs) → c.splits ≡ false → d.splits ≡ false → (w h : ℕ) (part : CoverPart) (shape : TreeShape) (sum : ℕ) → IsSum c w h part shape sum → HasSum c d w h part shape sum
sum_to c d none none' w h part shape sum s =
    let cover = cover_to c d none w h part (Kept s.left s.right) s.cover in
    record {
      other = sum_of d part (Kept s.left s.right);
      alike = record {
        cut_off = cuts part (Kept s.left s.right);
        sum_is = sym s.sum_is ∙ counted c none w h part (Kept s.left s.right) s.cover;
        other_is = counted d none' w h part (Kept s.left s.right) cover;
      };
      is = record { left = s.left; right = s.right; cover = cover; shape_is = s.shape_is; fits = s.fits; sum_is = refl };
    }

-- the least sums are alike
least_to : (c d : Costs) → c.splits ≡ false → d.splits ≡ false → (w h : ℕ) (part : CoverPart) (shape : TreeShape) (sum other : ℕ) → AreAlike c d part sum other
    → IsLeast c w h part shape sum → IsLeast d w h part shape other
least_to c d none none' w h part shape sum other a l =
    let here = sum_to c d none none' w h part shape sum l.reached in
    record {
      reached = subst (IsSum d w h part shape) (same_other c d part sum here.other other here.alike a) here.is;
      least = λ t s. (let there = sum_to d c none' none w h part shape t s in order c d part sum there.other other t a (swapped d c part t there.other there.alike) (l.least there.other there.is));
    }

of_all_to : (c d : Costs) → c.splits ≡ false → d.splits ≡ false → (w h : ℕ) (part : CoverPart) (sum other : ℕ) → AreAlike c d part sum other → IsLeastOfAll c w h part sum → IsLeastOfAll d w h part other
of_all_to c d none none' w h part sum other a l =
    let here = sum_to c d none none' w h part l.shape sum l.reached in
    record {
      shape = l.shape;
      reached = subst (IsSum d w h part l.shape) (same_other c d part sum here.other other here.alike a) here.is;
      least = λ any t s. (let there = sum_to d c none' none w h part any t s in order c d part sum there.other other t a (swapped d c part t there.other there.alike) (l.least any there.other there.is));
    }

root_to : (c d : Costs) → c.splits ≡ false → d.splits ≡ false → (w h : ℕ) (part : CoverPart) (shape : TreeShape) → IsRootShape c w h part shape → IsRootShape d w h part shape
root_to c d none none' w h part shape r =
    let here = sum_to c d none none' w h part shape r.sum r.least.reached in
    record {
      sum = here.other;
      least = least_to c d none none' w h part shape r.sum here.other here.alike r.least;
      least_of_all = of_all_to c d none none' w h part r.sum here.other here.alike r.least_of_all;
      first = λ any l. r.first any (least_to d c none' none w h part any here.other r.sum (swapped c d part r.sum here.other here.alike) l);
    }

-- a choice with the one costs, with the same with the other
record HasChoice (c d : Costs) (w h : ℕ) (part : CoverPart) (choice : Choice) (shape : TreeShape) (sum : ℕ) : Type 0 where
  other : ℕ
  alike : AreAlike c d part sum other
  is : IsChoice d w h part choice shape other

end_alike : (c d : Costs) → AreAlike c d End 1 1
unfolding own
end_alike c d = record { cut_off = 0; sum_is = omega (arith, mul-zero (c.simple + 1)); other_is = omega (arith, mul-zero (d.simple + 1)) }

-- a tree more that is cut off
cut_alike : (c d : Costs) (part : CoverPart) (below other : ℕ) → AreAlike c d part below other → AreAlike c d part (1 + (below + c.simple)) (1 + (other + d.simple))
cut_alike c d part below other a = record {
  cut_off = 1 + a.cut_off;
  sum_is = omega (arith, a.sum_is, mul-add (c.simple + 1) 1 a.cut_off, mul-one (c.simple + 1));
  other_is = omega (arith, a.other_is, mul-add (d.simple + 1) 1 a.cut_off, mul-one (d.simple + 1));
}

choice_to : (c d : Costs) → c.splits ≡ false → d.splits ≡ false → (w h : ℕ) (part : CoverPart) (choice : Choice) (shape : TreeShape) (sum : ℕ) → IsChoice c w h part choice shape sum
    → HasChoice c d w h part choice shape sum
choice_to c d none none' w h End (Keep kept) shape sum i = absurd i
choice_to c d none none' w h End CutOff shape sum i = absurd i
choice_to c d none none' w h End Nothing shape sum i = record { other = 1; alike = subst (λ n. AreAlike c d End n 1) (sym i.1) (end_alike c d); is = (i.0, refl) }
choice_to c d none none' w h (Join op l r) (Keep kept) shape sum i =
    let here = sum_to c d none none' w h (Join op l r) kept sum i.1.reached in
    record { other = here.other; alike = here.alike; is = (i.0, least_to c d none none' w h (Join op l r) kept sum here.other here.alike i.1) }
choice_to c d none none' w h (Join op l r) CutOff shape sum (leaf, (below, all, is)) =
    let first = root_back c none w h op l r below all in
    let here = sum_to c d none none' w h (Join op l r) first.1.shape first.0 first.1.reached in
    record {
      other = 1 + (here.other + d.simple);
      alike = subst (λ n. AreAlike c d (Join op l r) n (1 + (here.other + d.simple))) (sym (is ∙ ap (λ n. 1 + n) first.2)) (cut_alike c d (Join op l r) first.0 here.other here.alike);
      is = (leaf, (here.other + d.simple, root_here d none' w h op l r here.other (of_all_to c d none none' w h (Join op l r) first.0 here.other here.alike first.1), refl));
    }
choice_to c d none none' w h (Join op l r) Nothing shape sum i = absurd i

-- two parts that are joined
join_alike : (c d : Costs) (op : Operator) (l r : CoverPart) (m n s t : ℕ) → AreAlike c d l m s → AreAlike c d r n t → AreAlike c d (Join op l r) (joined_sum c op m n) (joined_sum d op s t)
unfolding own
join_alike c d op l r m n s t a b = record {
  cut_off = a.cut_off + b.cut_off;
  sum_is = omega (arith, a.sum_is, b.sum_is, mul-add (c.simple + 1) a.cut_off b.cut_off, joined-is c op m n);
  other_is = omega (arith, a.other_is, b.other_is, mul-add (d.simple + 1) a.cut_off b.cut_off, joined-is d op s t);
}

give_to : (c d : Costs) → c.splits ≡ false → d.splits ≡ false → (w h : ℕ) (op : Operator) (l r : CoverPart) (decided : TreeShape) (left right : Choice)
    → GivesLeast c w h op l r decided left right → GivesLeast d w h op l r decided left right
give_to c d none none' w h op l r decided left right g =
    let x = choice_to c d none none' w h l left g.left_shape g.left_sum g.is_left in
    let y = choice_to c d none none' w h r right g.right_shape g.right_sum g.is_right in
    record {
      left_shape = g.left_shape;
      right_shape = g.right_shape;
      left_sum = x.other;
      right_sum = y.other;
      is_left = x.is;
      is_right = y.is;
      shape_is = g.shape_is;
      least = least_to c d none none' w h (Join op l r) decided (joined_sum c op g.left_sum g.right_sum) (joined_sum d op x.other y.other) (join_alike c d op l r g.left_sum g.right_sum x.other y.other x.alike y.alike) g.least;
    }

first_to : (c d : Costs) → c.splits ≡ false → d.splits ≡ false → (w h : ℕ) (op : Operator) (l r : CoverPart) (decided : TreeShape) (left right : Choice)
    → AreFirst c w h op l r decided left right → AreFirst d w h op l r decided left right
first_to c d none none' w h op l r decided left right f = record {
  give = give_to c d none none' w h op l r decided left right f.give;
  first = λ other more g. f.first other more (give_to d c none' none w h op l r decided other more g);
}

-- so the chosen plan is the same
pub chosen_to : (c d : Costs) → c.splits ≡ false → d.splits ≡ false → (forest : ForestData) (w h : ℕ) (kept : List Bool) (trees : List (Tree ℕ))
    → IsChosenPlanBy c forest w h kept trees → IsChosenPlanBy d forest w h kept trees
chosen_to c d none none' forest w h kept trees chosen = record {
  plan = chosen.plan;
  shapes = chosen.shapes;
  one_each = chosen.one_each;
  decided = λ place pair shape at has. (let x = chosen.decided place pair shape at has in record {
    l = x.l;
    r = x.r;
    left_part = x.left_part;
    right_part = x.right_part;
    root = λ e. root_to c d none none' w h (Join (operator_of pair) x.l x.r) shape (x.root e);
    left = x.left;
    right = x.right;
    takes_left = x.takes_left;
    takes_right = x.takes_right;
    first = first_to c d none none' w h (operator_of pair) x.l x.r shape x.left x.right x.first;
  });
}
