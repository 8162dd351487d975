-- Cells and roots, pair by pair.
use Rattle.std.proofs.Common.{◌≡◌, sym, ap, subst, ◌∙◌, ℕ, ◌+◌, ◌<◌, Bool, true, false, not, cond, List, [], ◌∷◌, ◌++◌, length, map, filter, append-nil, arith}
use Rattle.std.specs.List.{AllZip, range_with_len}
use Rattle.std.proofs.lemmas.List.{map-append, map-id}
use Rattle.std.proofs.lemmas.List.Elements.{All-push, filter-append}
use Rattle.std.proofs.lemmas.List.FromFn.{map-range_with_len_more}
use Rattle.std.proofs.lemmas.List.Sums.{count_by_more_no, count_by_more_yes}
use Rattle.sp_network.specs.declared.plan.GatePlan.{GatePlan}
use Rattle.tree_map.specs.MappedCover.{HaveFirstClock}
use Rattle.tree_map.specs.Plans.{cell_of, is_kept}

-- the number of the next cell is the same behind a kept pair, and one more behind a root
pub cell_kept : (kept : List Bool) (k : ℕ) → k < length kept → is_kept kept k ≡ true → cell_of kept (k + 1) ≡ cell_of kept k
cell_kept kept k lt e = count_by_more_no not kept k false lt (ap not e)

pub cell_root : (kept : List Bool) (k : ℕ) → k < length kept → is_kept kept k ≡ false → cell_of kept (k + 1) ≡ cell_of kept k + 1
cell_root kept k lt e = count_by_more_yes not kept k false lt (ap not e)

pub cells_more : (kept : List Bool) (cells : List ℕ) (k next : ℕ) → cells ≡ map (cell_of kept) (range_with_len 0 k) → next ≡ cell_of kept k
    → cells ++ next ∷ [] ≡ map (cell_of kept) (range_with_len 0 (k + 1))
cells_more kept cells k next same is =
    ap (λ (numbers : List ℕ). numbers ++ next ∷ []) same
    ∙ ap (λ (n : ℕ). map (cell_of kept) (range_with_len 0 k) ++ n ∷ []) is
    ∙ sym (map-range_with_len_more (cell_of kept) 0 k k (omega arith))

pub places_more : (k : ℕ) → range_with_len 0 (k + 1) ≡ range_with_len 0 k ++ k ∷ []
places_more k =
    sym (map-id (range_with_len 0 (k + 1))) ∙ map-range_with_len_more (λ (n : ℕ). n) 0 k k (omega arith)
    ∙ ap (λ (places : List ℕ). places ++ k ∷ []) (map-id (range_with_len 0 k))

all_zip-push : {A B : Type 0} (R : A → B → Type 0) (xs : List A) (ys : List B) (x : A) (y : B) → AllZip R xs ys → R x y → AllZip R (xs ++ x ∷ []) (ys ++ y ∷ [])
all_zip-push R [] [] x y h r = (r, tt)
all_zip-push R [] (z ∷ ys) x y h r = absurd h
all_zip-push R (z ∷ xs) [] x y h r = absurd h
all_zip-push R (z ∷ xs) (u ∷ ys) x y h r = (h.0, all_zip-push R xs ys x y h.1 r)

-- the roots before a place, and the same with the pair there
abbrev pub roots_before : List Bool → ℕ → List ℕ
roots_before kept k = filter (λ place. not (is_kept kept place)) (range_with_len 0 k)

pub roots_kept : (kept : List Bool) (k : ℕ) → is_kept kept k ≡ true → roots_before kept (k + 1) ≡ roots_before kept k
roots_kept kept k e =
    ap (filter (λ place. not (is_kept kept place))) (places_more k)
    ∙ filter-append (λ place. not (is_kept kept place)) (range_with_len 0 k) (k ∷ [])
    ∙ ap (λ b. roots_before kept k ++ cond (not b) (k ∷ []) []) e ∙ append-nil (roots_before kept k)

pub roots_more : (kept : List Bool) (k : ℕ) → is_kept kept k ≡ false → roots_before kept (k + 1) ≡ roots_before kept k ++ k ∷ []
roots_more kept k e =
    ap (filter (λ place. not (is_kept kept place))) (places_more k)
    ∙ filter-append (λ place. not (is_kept kept place)) (range_with_len 0 k) (k ∷ [])
    ∙ ap (λ b. roots_before kept k ++ cond (not b) (k ∷ []) []) e

-- what stands beside the roots, one each, where a pair is kept, and where it is the next root
pub items_kept : {P X : Type 0} (R : ℕ → X → Type 0) (f : P → X) (kept : List Bool) (k : ℕ) (plans : List P) → is_kept kept k ≡ true → AllZip R (roots_before kept k) (map f plans)
    → AllZip R (roots_before kept (k + 1)) (map f plans)
items_kept R f kept k plans e are = subst (λ places. AllZip R places (map f plans)) (sym (roots_kept kept k e)) are

pub items_more : {P X : Type 0} (R : ℕ → X → Type 0) (f : P → X) (kept : List Bool) (k : ℕ) (plans : List P) (plan : P) → is_kept kept k ≡ false → R k (f plan)
    → AllZip R (roots_before kept k) (map f plans) → AllZip R (roots_before kept (k + 1)) (map f (plans ++ plan ∷ []))
items_more R f kept k plans plan e is are =
    rw (roots_more kept k e, map-append f plans (plan ∷ [])) (all_zip-push R (roots_before kept k) (map f plans) k (f plan) are is)

pub first_clocks : (plans : List GatePlan) (plan : GatePlan) → HaveFirstClock plans → plan.clock ≡ 1 → HaveFirstClock (plans ++ plan ∷ [])
first_clocks plans plan have e = All-push (λ (p : GatePlan). p.clock ≡ 1) plans plan have e
