-- Plans of which the first so many read only cells before them.
use Rattle.std.proofs.Common.{◌≡◌, ℕ, ◌+◌, ◌*◌, ◌<◌, List, length, get_or, Some, slice_get, below_more, arith, subst}
use Rattle.std.proofs.lemmas.Option.{slice_get_within}
use Rattle.std.proofs.lemmas.List.{length-map}
use Rattle.sp_network.specs.Tree.{Tree, EachLeaf}
use Rattle.sp_network.specs.TypedTree.{tree_of}
use Rattle.sp_network.specs.declared.plan.GatePlan.{GatePlan}
use Rattle.sp_network.specs.declared.sp.Sp.{Sp}
use Rattle.clock_phase.specs.Plans.{ReadEarlierCells, trees_of}
use Rattle.clock_phase.proofs.PlanTrees.{tree_at}

abbrev pub AllBelow : {S : Type 0} → ℕ → Sp S → Type 0
AllBelow count tree = EachLeaf (λ gate. gate < count) (tree_of tree)

abbrev pub FirstReadEarlier : ℕ → List GatePlan → ℕ → Type 0
FirstReadEarlier leaf_count plans k =
    (i : ℕ) → i < k → (tree : Tree ℕ) → slice_get (trees_of plans) i ≡ Some tree → EachLeaf (λ gate. gate < 2 * leaf_count + i) tree

pub one_more_reads : (leaf_count : ℕ) (plans : List GatePlan) (k : ℕ) (d : GatePlan) → k < length plans → FirstReadEarlier leaf_count plans k
    → EachLeaf (λ gate. gate < 2 * leaf_count + k) (tree_of (get_or plans k d).tree) → FirstReadEarlier leaf_count plans (k + 1)
one_more_reads leaf_count plans k d lt before own =
    below_more (λ i. (tree : Tree ℕ) → slice_get (trees_of plans) i ≡ Some tree → EachLeaf (λ gate. gate < 2 * leaf_count + i) tree) k before
    (λ tree e. let at = tree_at plans k d lt in
    let same : tree_of (get_or plans k d).tree ≡ tree = cc in
    subst (EachLeaf (λ gate. gate < 2 * leaf_count + k)) same own)

pub all_read : (leaf_count : ℕ) (plans : List GatePlan) → FirstReadEarlier leaf_count plans (length plans) → ReadEarlierCells leaf_count (trees_of plans)
all_read leaf_count plans all k tree e =
    let len : length (trees_of plans) ≡ length plans = length-map plans (λ (p : GatePlan). tree_of p.tree) in
    all k (let lt = slice_get_within (trees_of plans) k tree e in omega arith) tree e
