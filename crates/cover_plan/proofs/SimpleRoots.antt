-- Where costs have no compound roots, each root is simple.
use Rattle.std.proofs.Common.{arith, false, refl, subst, sym, ℕ, ◌+◌, ◌≡◌}
use Rattle.cover_plan.specs.Covers.{Costs, Cover, Cut, IsCover, IsLeastOfAll, IsLeastRoot, IsRoot, IsRootCost, IsSimpleRoot, IsSum, Kept, Single, Split, joined_sum, shape_of, sum_of}
use Rattle.cover_plan.specs.Parts.{CoverPart, Fits, Join, Operator, TreeShape, joined_shape}
use Rattle.cover_plan.proofs.Sums.{none_split}

module _ (c : Costs) (none : c.splits ≡ false) (w h : ℕ) (op : Operator) (l r : CoverPart) where
  -- a root costs the cell beside its sum
  root_of_sum : (shape : TreeShape) (sum : ℕ) → IsSum c w h (Join op l r) shape sum → IsRootCost c w h (Join op l r) (sum + c.simple)
  root_of_sum shape sum is = record {
    cover = Cut is.left is.right;
    root = tt;
    covers = (is.cover.0, is.cover.1, subst (Fits w h) (sym is.shape_is) is.fits);
    cost_is = omega (arith, is.sum_is);
  }

  record HasSum (cost : ℕ) : Type 0 where
    shape : TreeShape
    sum : ℕ
    is : IsSum c w h (Join op l r) shape sum
    cost_is : cost ≡ sum + c.simple

  sum_of_root : (cost : ℕ) → IsRootCost c w h (Join op l r) cost → HasSum cost
  sum_of_root cost is = by is.cover is.root is.covers is.cost_is
    where
      by : (k : Cover) → IsRoot k → IsCover c w h (Join op l r) k → sum_of c (Join op l r) k ≡ 1 + cost → HasSum cost
      by Single root covers e = absurd root
      by (Kept a b) root covers e = absurd root
      by (Split a b) root covers e = absurd (none_split c op none covers.2)
      by (Cut a b) root covers e = record {
        shape = joined_shape op (shape_of l a) (shape_of r b);
        sum = joined_sum c op (sum_of c l a) (sum_of c r b);
        is = record { left = a; right = b; cover = (covers.0, covers.1); shape_is = refl; fits = covers.2; sum_is = refl };
        cost_is = omega (arith, e);
      }

  -- the least of all sums makes the least root
  pub root_here : (below : ℕ) → IsLeastOfAll c w h (Join op l r) below → IsLeastRoot c w h (Join op l r) (below + c.simple)
  root_here below is = record {
    reached = root_of_sum is.shape below is.reached;
    least = λ other x. let s = sum_of_root other x in omega (arith, s.cost_is, is.least s.shape s.sum s.is);
  }

  -- and the least root has it
  pub root_back : (cost : ℕ) → IsLeastRoot c w h (Join op l r) cost → (below : ℕ) × IsLeastOfAll c w h (Join op l r) below × (cost ≡ below + c.simple)
  root_back cost is =
      let s = sum_of_root cost is.reached in (
        s.sum,
        record {
          shape = s.shape;
          reached = s.is;
          least = λ any other x. let le = is.least (other + c.simple) (root_of_sum any other x) in omega (arith, le, s.cost_is);
        },
        s.cost_is,
      )

  -- no compound root costs less
  pub simple_root : (sum : ℕ) → IsSimpleRoot c w h (Join op l r) sum
  simple_root sum = λ other x. absurd (none_split c op none x.cover.2)
