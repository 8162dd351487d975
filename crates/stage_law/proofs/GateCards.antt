-- The gates of the cards of a stage.
use Rattle.std.specs.List.{AllByRecursion}
use Rattle.std.proofs.Common.{List, ℕ, ◌+◌}
use Rattle.dom_base.specs.declared.kind.Kind.{Kind}
use Rattle.dom_base.proofs.Lists.{AllByRecursion-append, AllByRecursion-contains, Contains-slice_get}
use Rattle.sp_network.specs.Tree.{EachLeaf, Leaf, Parallel, Series, Tree, inner_count}
use Rattle.domino_cell.specs.Stage.{Branch, Inside, Spot, Top, stage}
use Rattle.domino_cell.specs.Spelling.{spell}
use Rattle.domino_cell.proofs.Stages.{each_branch}

-- the gates of the cards of a tree are its leaves
pub spell-gates : (F : ℕ → Type 0) (kind : Kind) (inner : ℕ → ℕ) (t : Tree ℕ) (top bottom k : ℕ) → EachLeaf F t
    → AllByRecursion (λ c. F c.gate) (spell kind inner t top bottom k)
spell-gates F kind inner (Leaf gate) top bottom k h = (h, tt)
spell-gates F kind inner (Series l r) top bottom k h =
    AllByRecursion-append _ _ _ (spell-gates F kind inner l top (inner k) (k + 1) h.0) (spell-gates F kind inner r (inner k) bottom (k + 1 + inner_count l) h.1)
spell-gates F kind inner (Parallel l r) top bottom k h =
    AllByRecursion-append _ _ _ (spell-gates F kind inner l top bottom k h.0) (spell-gates F kind inner r top bottom (k + inner_count l) h.1)

-- and those of the cards of a stage the leaves of its branches
pub stage-card_gates : (F : ℕ → Type 0) (at : Spot → ℕ) (bs : List Branch) → AllByRecursion (λ b. EachLeaf F b.tree) bs → AllByRecursion (λ c. F c.gate) (stage at 0 bs)
stage-card_gates F at bs h =
    each_branch (λ c. F c.gate) at 0 bs (λ i b e. spell-gates F b.kind (λ k. at (Inside (0 + i) k)) b.tree (at Top) b.supply 0
    (AllByRecursion-contains (λ b. EachLeaf F b.tree) bs b h (Contains-slice_get bs i b e)))
