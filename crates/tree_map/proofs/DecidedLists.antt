-- Marks and shapes as lists, pair by pair.
use Rattle.std.proofs.Common.{◌≡◌, ◌⊎◌, inl, inr, refl, sym, ap, subst, ◌∙◌, ℕ, zero, suc, ◌≤◌, ◌<◌, Bool, true, false, cond, ◌==◌, List, length, Option, Some, None, slice_get, get_or, unwrap_or, set, replicate, eq-eqb, ne_eqb, arith}
use Rattle.std.specs.Prelude.{MatchOption, slice_set}
use Rattle.std.proofs.lemmas.Bool.{cases_eq}
use Rattle.std.proofs.lemmas.List.{get_or-set_other, get_or-set_same, length-set}
use Rattle.std.proofs.lemmas.Option.{get_or_from_slice_get, same_Some, slice_get-get_or, slice_get_cases, slice_get_within, unwrap_or-slice_get}
use Rattle.dom_base.proofs.Bools.{never}
use Rattle.dual_rail.specs.declared.forest.Arm.{Arm}
use Rattle.dual_rail.specs.declared.forest.Arm.TheVariants.{Literal, Pair as pair_arm}
use Rattle.dual_rail.specs.declared.forest.Pair.{Pair}
use Rattle.compound_plan.specs.Plans.{IsDecided}
use Rattle.dual_rail.specs.ForestData.{ForestData}
use Rattle.dual_rail.specs.ForestOrder.{AreInOrder, ReadsBefore}
use Rattle.dual_rail.specs.Forests.{left_arm, right_arm}
use Rattle.tree_map.specs.declared.offers.Choice.{Choice as offered_choice}
use Rattle.tree_map.specs.declared.offers.Choice.TheVariants.{Keep as offered_keep, CutOff as offered_cut, Nothing as offered_nothing}
use Rattle.cover_plan.specs.Covers.{AreFirst, Costs, IsRootShape, IsSimpleRoot}
use Rattle.cover_plan.specs.Parts.{Choice, CutOff, Join, Keep, Nothing, TreeShape, leaf_shape}
use Rattle.tree_map.specs.CoverSums.{AreSumsOf, SumsData, sum_at}
use Rattle.tree_map.specs.LeastPlans.{IsTaken, operator_of}
use Rattle.tree_map.specs.Offers.{choice_of}
use Rattle.tree_map.specs.Plans.{is_kept}
use Rattle.tree_map.specs.Ties.{IsDecision, kept_with, shapes_with}
use Rattle.dual_rail.proofs.ForestOrders.{reads_later}
use Rattle.tree_map.proofs.FirstOffers.{parts_of}
use Rattle.compound_plan.proofs.Marks.{mark, put}
use Rattle.compound_plan.proofs.PlanStates.{State, TakenBy}
use Rattle.compound_plan.proofs.PlanThere.{start, turn}

-- the shape of a pair
abbrev pub shape_in : List TreeShape → ℕ → TreeShape
shape_in shapes q = get_or shapes q leaf_shape

set_at : {X : Type 0} (xs : List X) (a : ℕ) (x d : X) (q : ℕ) → a < length xs → get_or (set xs a x) q d ≡ cond (q == a) x (get_or xs q d)
set_at xs a x d q lt =
    elim (cases_eq q a) [
      | inl same ↦ rw (eq-eqb q a same) (ap (λ n. get_or (set xs a x) n d) same ∙ get_or-set_same xs a x d lt)
      | inr other ↦ rw (ne_eqb q a other) (get_or-set_other xs a q x d other)
    ]

pub kept_length : (arm : Arm) (x : offered_choice) (kept : List Bool) → length (kept_with arm x kept) ≡ length kept
kept_length (Literal rail) x kept = refl
kept_length (pair_arm a) (offered_keep s) kept = length-set kept a true
kept_length (pair_arm a) offered_cut kept = refl
kept_length (pair_arm a) offered_nothing kept = refl

pub shapes_length : (arm : Arm) (x : offered_choice) (shapes : List TreeShape) → length (shapes_with arm x shapes) ≡ length shapes
shapes_length (Literal rail) x shapes = refl
shapes_length (pair_arm a) (offered_keep s) shapes = length-set shapes a s
shapes_length (pair_arm a) offered_cut shapes = refl
shapes_length (pair_arm a) offered_nothing shapes = refl

kept_marks : (arm : Arm) (x : offered_choice) (kept : List Bool) (q : ℕ) → ReadsBefore (length kept) arm → is_kept (kept_with arm x kept) q ≡ mark arm (choice_of x) (is_kept kept) q
unfolding mark
kept_marks (Literal rail) x kept q within = refl
kept_marks (pair_arm a) (offered_keep s) kept q within = set_at kept a true false q within
kept_marks (pair_arm a) offered_cut kept q within = refl
kept_marks (pair_arm a) offered_nothing kept q within = refl

shapes_put : (arm : Arm) (x : offered_choice) (shapes : List TreeShape) (q : ℕ) → ReadsBefore (length shapes) arm → shape_in (shapes_with arm x shapes) q ≡ put arm (choice_of x) (shape_in shapes) q
unfolding put
shapes_put (Literal rail) x shapes q within = refl
shapes_put (pair_arm a) (offered_keep s) shapes q within = set_at shapes a s leaf_shape q within
shapes_put (pair_arm a) offered_cut shapes q within = refl
shapes_put (pair_arm a) offered_nothing shapes q within = refl

-- what is read of a pair: nothing where it isn't kept, else its shape
abbrev pub IsKeptShape : List Bool → List TreeShape → ℕ → Option TreeShape → Type 0
IsKeptShape kept shapes place o =
    MatchOption o (slice_get kept place ≡ Some false) (λ shape. (slice_get kept place ≡ Some true) × (slice_get shapes place ≡ Some shape))

module _ (forest : ForestData) (t : SumsData) (wide : 2 ≤ t.w) (tall : 2 ≤ t.h) (order : AreInOrder forest.pairs) (kept split : List Bool) (shapes : List TreeShape)
    (kept_count : length kept ≡ length forest.pairs) (split_count : length split ≡ length forest.pairs) (shapes_count : length shapes ≡ length forest.pairs) where
  module _ (b : ℕ) (state : State t.costs forest t.w t.h (suc b) (is_kept kept) (is_kept split) (shape_in shapes)) (pair : Pair) (at : slice_get forest.pairs b ≡ Some pair) where
    -- a kept pair has a shape with a sum
    pub kept_sum : AreSumsOf forest t → (o : Option TreeShape) → IsKeptShape kept shapes b o → (s : TreeShape) → o ≡ Some s → (sum : ℕ) × (sum_at t b s ≡ Some sum)
    kept_sum sums None is s e = absurd (cc)
    kept_sum sums (Some before) is s e =
        let p = parts_of forest order b pair at in
        let least = state.least b pair p.l p.r (get_or_from_slice_get kept b true false is.0) at p.left_part p.right_part in
        let same : shape_in shapes b ≡ s = get_or_from_slice_get shapes b before leaf_shape is.1 ∙ same_Some before s e in
        (least.0, subst (λ z. sum_at t b z ≡ Some least.0) same ((sums b pair p.l p.r at p.left_part p.right_part (shape_in shapes b) least.0).1 least.1))

    -- the pair takes its mark and its shape, and its arms their choices
    pub pair_decided : (o : Option TreeShape) → IsKeptShape kept shapes b o → (mark0 : Bool) (shape : TreeShape) (left right : offered_choice)
        → IsDecision t.costs forest t.w t.h pair o mark0 shape left right
        → State t.costs forest t.w t.h b (is_kept (kept_with (right_arm pair) right (kept_with (left_arm pair) left kept))) (is_kept (slice_set split b mark0))
        (shape_in (shapes_with (right_arm pair) right (shapes_with (left_arm pair) left (slice_set shapes b shape))))
    pair_decided o is mark0 shape left right d =
        subst (λ K. State t.costs forest t.w t.h b K (is_kept (slice_set split b mark0)) (shape_in (shapes_with (right_arm pair) right (shapes_with (left_arm pair) left (slice_set shapes b shape))))) (λ i q. marks_are q i)
        (subst (λ D. State t.costs forest t.w t.h b (mark (right_arm pair) (choice_of right) (mark (left_arm pair) (choice_of left) (is_kept kept))) D
        (shape_in (shapes_with (right_arm pair) right (shapes_with (left_arm pair) left (slice_set shapes b shape))))) (λ i q. splits_are q i)
        (subst (State t.costs forest t.w t.h b (mark (right_arm pair) (choice_of right) (mark (left_arm pair) (choice_of left) (is_kept kept))) (λ q. cond (q == b) mark0 (is_kept split q))) (λ i q. shapes_are q i)
        (taken mark0 refl)))
      where
        lt : b < length forest.pairs
        lt = slice_get_within forest.pairs b pair at

        left_kept : ReadsBefore (length kept) (left_arm pair)
        left_kept = reads_later b (length kept) (left_arm pair) (order b pair at).0 (omega (arith, lt, kept_count))

        right_kept : ReadsBefore (length (kept_with (left_arm pair) left kept)) (right_arm pair)
        right_kept = reads_later b (length (kept_with (left_arm pair) left kept)) (right_arm pair) (order b pair at).1 (omega (arith, lt, kept_count, kept_length (left_arm pair) left kept))

        set_count : length (set shapes b shape) ≡ length forest.pairs
        set_count = length-set shapes b shape ∙ shapes_count

        left_shapes : ReadsBefore (length (set shapes b shape)) (left_arm pair)
        left_shapes = reads_later b (length (set shapes b shape)) (left_arm pair) (order b pair at).0 (omega (arith, lt, set_count))

        right_shapes : ReadsBefore (length (shapes_with (left_arm pair) left (set shapes b shape))) (right_arm pair)
        right_shapes =
            reads_later b (length (shapes_with (left_arm pair) left (set shapes b shape))) (right_arm pair) (order b pair at).1
            (omega (arith, lt, set_count, shapes_length (left_arm pair) left (set shapes b shape)))

        marks_are : (q : ℕ) → mark (right_arm pair) (choice_of right) (mark (left_arm pair) (choice_of left) (is_kept kept)) q ≡ is_kept (kept_with (right_arm pair) right (kept_with (left_arm pair) left kept)) q
        marks_are q =
            sym (kept_marks (right_arm pair) right (kept_with (left_arm pair) left kept) q right_kept
            ∙ ap (λ K. mark (right_arm pair) (choice_of right) K q) (λ i n. kept_marks (left_arm pair) left kept n left_kept i))

        splits_are : (q : ℕ) → cond (q == b) mark0 (is_kept split q) ≡ is_kept (set split b mark0) q
        splits_are q = sym (set_at split b mark0 false q (omega (arith, lt, split_count)))

        shapes_are : (q : ℕ) → put (right_arm pair) (choice_of right) (put (left_arm pair) (choice_of left) (λ n. cond (n == b) shape (shape_in shapes n))) q
            ≡ shape_in (shapes_with (right_arm pair) right (shapes_with (left_arm pair) left (set shapes b shape))) q
        shapes_are q =
            sym (shapes_put (right_arm pair) right (shapes_with (left_arm pair) left (set shapes b shape)) q right_shapes
            ∙ ap (λ S. put (right_arm pair) (choice_of right) S q) (λ i n. shapes_put (left_arm pair) left (set shapes b shape) n left_shapes i)
            ∙ ap (λ S. put (right_arm pair) (choice_of right) (put (left_arm pair) (choice_of left) S) q) (λ i n. set_at shapes b shape leaf_shape n (omega (arith, lt, shapes_count)) i))

        stays : (o : Option TreeShape) → IsKeptShape kept shapes b o → ((before : TreeShape) → o ≡ Some before → (shape ≡ before) × (mark0 ≡ false)) → is_kept kept b ≡ true → shape_in shapes b ≡ shape
        stays None is same e = absurd (let f = get_or_from_slice_get kept b false false is in cc)
        stays (Some before) is same e = get_or_from_slice_get shapes b before leaf_shape is.1 ∙ sym (same before refl).0

        none_kept : (o : Option TreeShape) → IsKeptShape kept shapes b o → is_kept kept b ≡ false → o ≡ None
        none_kept None is e = refl
        none_kept (Some before) is e = absurd (let f = get_or_from_slice_get kept b true false is.0 in cc)

        root_only : (o : Option TreeShape) → IsKeptShape kept shapes b o → ((before : TreeShape) → o ≡ Some before → (shape ≡ before) × (mark0 ≡ false)) → mark0 ≡ true → is_kept kept b ≡ false
        root_only None is same e = get_or_from_slice_get kept b false false is
        root_only (Some before) is same e = absurd (never e (same before refl).1)

        taken : (m : Bool) → mark0 ≡ m
            → State t.costs forest t.w t.h b (mark (right_arm pair) (choice_of right) (mark (left_arm pair) (choice_of left) (is_kept kept))) (λ q. cond (q == b) mark0 (is_kept split q))
            (put (right_arm pair) (choice_of right) (put (left_arm pair) (choice_of left) (λ n. cond (n == b) shape (shape_in shapes n))))
        taken false m =
            let g = (d.first m).give in
            turn t.costs forest t.w t.h wide tall order b pair at (is_kept kept) (is_kept split) (shape_in shapes) state d.l d.r d.left_part d.right_part mark0 shape (stays o is d.stays) (root_only o is d.stays)
            (λ e n. d.root (none_kept o is e) n) (choice_of left) (choice_of right) g.left_shape g.right_shape g.left_sum g.right_sum g.is_left g.is_right d.first d.compound
        taken true m =
            let k = d.compound m in
            turn t.costs forest t.w t.h wide tall order b pair at (is_kept kept) (is_kept split) (shape_in shapes) state d.l d.r d.left_part d.right_part mark0 shape (stays o is d.stays) (root_only o is d.stays)
            (λ e n. d.root (none_kept o is e) n) (choice_of left) (choice_of right) k.left_first.shape k.right_first.shape k.left_first.sum k.right_first.sum k.left_first.is k.right_first.is d.first d.compound

  -- the same where only the place of the pair is known
  pub kept_sum_at : (b : ℕ) → State t.costs forest t.w t.h (suc b) (is_kept kept) (is_kept split) (shape_in shapes) → b < length forest.pairs → AreSumsOf forest t → (o : Option TreeShape)
      → IsKeptShape kept shapes b o → (s : TreeShape) → o ≡ Some s → (sum : ℕ) × (sum_at t b s ≡ Some sum)
  kept_sum_at b state lt sums o is s e =
      elim (slice_get_cases forest.pairs b).1 [
        | inl found ↦ kept_sum b state found.0 found.2 sums o is s e
        | inr past ↦ absurd (omega (arith, past.0))
      ]

  -- where all pairs have taken their choices
  module _ (state : State t.costs forest t.w t.h 0 (is_kept kept) (is_kept split) (shape_in shapes)) where
    takes : (p : ℕ) (arm : Arm) (c : Choice) → p ≤ length forest.pairs → ReadsBefore p arm → TakenBy forest (is_kept kept) (shape_in shapes) arm c → IsTaken forest kept shapes arm c
    takes p (Literal rail) c le low is = is
    takes p (pair_arm q) Nothing le low is = is
    takes p (pair_arm q) (Keep s) le low is = (is.0, slice_get-get_or shapes q leaf_shape (omega arith) ∙ ap Some is.1)
    takes p (pair_arm q) CutOff le low is = is

    pub all_decided : (p : ℕ) (x : Pair) (shape : TreeShape) → slice_get forest.pairs p ≡ Some x → slice_get shapes p ≡ Some shape → IsDecided t.costs forest t.w t.h kept split shapes p x shape
    all_decided p x shape e f =
        let lt = slice_get_within forest.pairs p x e in
        let d = state.decided p x (omega arith) e in
        let o = order p x e in
        let same : shape_in shapes p ≡ shape = get_or_from_slice_get shapes p shape leaf_shape f in
        record {
          l = d.l;
          r = d.r;
          left_part = d.left_part;
          right_part = d.right_part;
          left = d.left;
          right = d.right;
          takes_left = takes p (left_arm x) d.left (omega arith) o.0 d.takes_left;
          takes_right = takes p (right_arm x) d.right (omega arith) o.1 d.takes_right;
          first = λ m. subst (λ s. AreFirst t.costs t.w t.h (operator_of x) d.l d.r s d.left d.right) same (d.first m);
          root = λ k m. subst (λ s. (is : IsRootShape t.costs t.w t.h (Join (operator_of x) d.l d.r) s) × IsSimpleRoot t.costs t.w t.h (Join (operator_of x) d.l d.r) is.sum) same (d.root k m);
          compound = λ m. d.compound m;
        }

    -- a marked pair is a root
    pub all_marked : (q : ℕ) → is_kept split q ≡ true → (is_kept kept q ≡ false) × (q < length forest.pairs)
    all_marked q m = ((state.marked q m).0, by (slice_get_cases split q).1)
      where
        by : ((x : Bool) × (q < length split) × (slice_get split q ≡ Some x) × (get_or split q x ≡ x)) ⊎ ((length split ≤ q) × (slice_get split q ≡ None)) → q < length forest.pairs
        by (inl found) = omega (arith, found.1, split_count)
        by (inr past) =
            absurd (let none = unwrap_or-slice_get split q false in
            let f : false ≡ true = ap (λ (o : Option Bool). unwrap_or o false) (sym past.1) ∙ none ∙ m in cc)

get_all : {X : Type 0} (n : ℕ) (d : X) (q : ℕ) → get_or (replicate n d) q d ≡ d
get_all zero d q = refl
get_all (suc n) d zero = refl
get_all (suc n) d (suc q) = get_all n d q

-- where no pair has taken its choices yet
pub none_decided : (c : Costs) (forest : ForestData) (w h : ℕ) → 2 ≤ w → 2 ≤ h → AreInOrder forest.pairs → (k n : ℕ) (kept split : List Bool) (shapes : List TreeShape) → k ≡ length forest.pairs
    → kept ≡ replicate n false → split ≡ replicate n false → shapes ≡ replicate n leaf_shape → State c forest w h k (is_kept kept) (is_kept split) (shape_in shapes)
none_decided c forest w h wide tall order k n kept split shapes count kept_is split_is shapes_is =
    rw (count, kept_is, split_is, shapes_is)
    (subst (λ K. State c forest w h (length forest.pairs) K (is_kept (replicate n false)) (shape_in (replicate n leaf_shape))) (λ i q. sym (get_all n false q) i)
    (subst (λ D. State c forest w h (length forest.pairs) (λ q. false) D (shape_in (replicate n leaf_shape))) (λ i q. sym (get_all n false q) i)
    (subst (State c forest w h (length forest.pairs) (λ q. false) (λ q. false)) (λ i q. sym (get_all n leaf_shape q) i) (start c forest w h wide tall order))))
