-- A forest has a chosen plan.
use Rattle.std.proofs.Common.{◌≡◌, ◌⊎◌, inl, inr, refl, sym, ap, subst, ◌∙◌, ℕ, zero, suc, ◌+◌, ◌≤◌, ◌<◌, Bool, true, false, cond, ◌==◌, List, length, map, Option, Some, None, slice_get, get_or, unwrap_or, eq-eqb, ne_eqb, arith}
use Rattle.std.specs.List.{range_with_len}
use Rattle.std.proofs.lemmas.Bool.{cases_eq}
use Rattle.std.proofs.lemmas.List.FromFn.{get_or-map-range_with_len, length-map-range_with_len}
use Rattle.std.proofs.lemmas.Option.{slice_get-get_or, slice_get_cases, slice_get_within, unwrap_or-slice_get, same_Some}
use Rattle.dual_rail.specs.declared.forest.Arm.{Arm}
use Rattle.dual_rail.specs.declared.forest.Arm.TheVariants.{Literal, Pair as pair_arm}
use Rattle.dual_rail.specs.declared.forest.Pair.{Pair}
use Rattle.cover_plan.specs.Parts.{Choice, CoverPart, CutOff, Join, Keep, Nothing, TreeShape, leaf_shape}
use Rattle.cover_plan.specs.Covers.{AreFirst, Costs, IsChoice, IsCompoundRoot, IsLeast, IsRootShape, IsSimpleRoot}
use Rattle.compound_plan.specs.Plans.{CellTrees, IsChosenPlan, IsDecided}
use Rattle.dual_rail.specs.ForestData.{ForestData}
use Rattle.dual_rail.specs.ForestOrder.{AreInOrder, ReadsBefore}
use Rattle.dual_rail.specs.Forests.{left_arm, right_arm}
use Rattle.compound_plan.specs.PlanParts.{IsPartOf, IsTaken, free, literal, operator_of, shared}
use Rattle.compound_plan.specs.PlanTrees.{IsFree, is_kept}
use Rattle.cover_plan.proofs.Firsts.{first_there}
use Rattle.compound_plan.proofs.PlanShapes.{decided_plan}
use Rattle.compound_plan.proofs.Marks.{IsNew, mark, mark_adds, mark_cases, marked_at, put, put_at, put_other}
use Rattle.compound_plan.proofs.OneUser.{Names, one_arm, one_user}
use Rattle.compound_plan.proofs.PlanParts.{arm_part}
use Rattle.compound_plan.proofs.RootDecisions.{RootDecision, root_decided}
use Rattle.compound_plan.proofs.KeptChoices.{keep_free, keep_least}
use Rattle.compound_plan.proofs.PlanStates.{DecidedBy, State, TakenBy}

module _ (c : Costs) (forest : ForestData) (w h : ℕ) (wide : 2 ≤ w) (tall : 2 ≤ h) (order : AreInOrder forest.pairs) where
  module _ (b : ℕ) (x : Pair) (at : slice_get forest.pairs b ≡ Some x) (K D : ℕ → Bool) (S : ℕ → TreeShape) (state : State c forest w h (suc b) K D S) (l r : CoverPart) (dl : IsPartOf forest (left_arm x) l) (dr : IsPartOf forest (right_arm x) r)
      (d0 : Bool) (s0 : TreeShape) (stays : K b ≡ true → S b ≡ s0) (root_only : d0 ≡ true → K b ≡ false)
      (root0 : K b ≡ false → d0 ≡ false → (is : IsRootShape c w h (Join (operator_of x) l r) s0) × IsSimpleRoot c w h (Join (operator_of x) l r) is.sum)
      (left right : Choice) (left_at right_at : TreeShape) (left_sum right_sum : ℕ) (is_left : IsChoice c w h l left left_at left_sum) (is_right : IsChoice c w h r right right_at right_sum)
      (first : d0 ≡ false → AreFirst c w h (operator_of x) l r s0 left right) (compound : d0 ≡ true → IsCompoundRoot c w h (operator_of x) l r left right) where
    Marked : ℕ → Bool
    Marked q = cond (q == b) d0 (D q)

    S1 : ℕ → TreeShape
    S1 q = cond (q == b) s0 (S q)

    K2 : ℕ → Bool
    K2 = mark (right_arm x) right (mark (left_arm x) left K)

    S2 : ℕ → TreeShape
    S2 = put (right_arm x) right (put (left_arm x) left S1)

    -- the pair is newly kept by one of its user's two choices
    abbrev IsNewAt : ℕ → TreeShape → Type 0
    IsNewAt q s = IsNew (left_arm x) left q s ⊎ IsNew (right_arm x) right q s

    new_names : (q : ℕ) (s : TreeShape) → IsNewAt q s → Names q x
    new_names q s (inl n) = inl n.0
    new_names q s (inr n) = inr n.0

    left_choice : (s : TreeShape) → left ≡ Keep s → IsChoice c w h l (Keep s) left_at left_sum
    left_choice s e = subst (λ k. IsChoice c w h l k left_at left_sum) e is_left

    right_choice : (s : TreeShape) → right ≡ Keep s → IsChoice c w h r (Keep s) right_at right_sum
    right_choice s e = subst (λ k. IsChoice c w h r k right_at right_sum) e is_right

    new_free : (q : ℕ) (s : TreeShape) → IsNewAt q s → IsFree forest q
    new_free q s (inl n) = keep_free c forest w h (left_arm x) l q s left_at left_sum dl n.0 (left_choice s n.1)
    new_free q s (inr n) = keep_free c forest w h (right_arm x) r q s right_at right_sum dr n.0 (right_choice s n.1)

    new_least : (q : ℕ) (s : TreeShape) → IsNewAt q s → (y : Pair) (l' r' : CoverPart) → slice_get forest.pairs q ≡ Some y → IsPartOf forest (left_arm y) l' → IsPartOf forest (right_arm y) r'
        → (m : ℕ) × IsLeast c w h (Join (operator_of y) l' r') s m
    new_least q s (inl n) = keep_least c forest w h (left_arm x) l q s left_at left_sum dl n.0 (left_choice s n.1)
    new_least q s (inr n) = keep_least c forest w h (right_arm x) r q s right_at right_sum dr n.0 (right_choice s n.1)

    kept_cases : (q : ℕ) → K2 q ≡ true → (K q ≡ true) ⊎ ((s : TreeShape) × IsNewAt q s)
    unfolding K2
    kept_cases q e =
        elim (mark_cases (right_arm x) right (mark (left_arm x) left K) q e) [
          | inr n ↦ inr (n.0, inr n.1)
          | inl g ↦ elim (mark_cases (left_arm x) left K q g) [ inl f ↦ inl f | inr n ↦ inr (n.0, inl n.1) ]
        ]

    kept_adds : (q : ℕ) → K q ≡ true → K2 q ≡ true
    unfolding K2
    kept_adds q e = mark_adds (right_arm x) right (mark (left_arm x) left K) q (mark_adds (left_arm x) left K q e)

    -- a place that the user before named isn't new, and an arm isn't the pair itself
    not_new : (q : ℕ) → K q ≡ true → (s : TreeShape) → IsNewAt q s → ⊥
    not_new q e s n = let later = state.users q b x e at (new_names q s n) in omega arith

    arm_below : (q : ℕ) → Names q x → q < b
    arm_below q (inl e) = subst (ReadsBefore b) e (order b x at).0
    arm_below q (inr e) = subst (ReadsBefore b) e (order b x at).1

    kept_stays : (q : ℕ) → ((s : TreeShape) → IsNewAt q s → ⊥) → K2 q ≡ K q
    kept_stays q none = by (K2 q) (K q) refl refl
      where
        by : (c d : Bool) → K2 q ≡ c → K q ≡ d → c ≡ d
        by true true e f = refl
        by false false e f = refl
        by false true e f = sym e ∙ kept_adds q f
        by true false e f = elim (kept_cases q e) [ inl g ↦ sym g ∙ f | inr n ↦ absurd (none n.0 n.1) ]

    shape_stays : (q : ℕ) → ((s : TreeShape) → IsNewAt q s → ⊥) → S2 q ≡ S1 q
    unfolding S2
    shape_stays q none =
        put_other (right_arm x) right (put (left_arm x) left S1) q (λ s n. none s (inr n)) ∙ put_other (left_arm x) left S1 q (λ s n. none s (inl n))

    old_shape : (q : ℕ) → (q ≡ b → ⊥) → S1 q ≡ S q
    unfolding S1
    old_shape q other = rw (ne_eqb q b other) refl

    own_shape : S1 b ≡ s0
    unfolding S1
    own_shape = rw (eq-eqb b b refl) refl

    -- a kept pair keeps its shape
    kept_shape : (q : ℕ) → K q ≡ true → S2 q ≡ S q
    kept_shape q e =
        elim (cases_eq q b) [
          | inl same ↦ shape_stays q (not_new q e) ∙ subst (λ n. S1 n ≡ S n) (sym same) (own_shape ∙ sym (stays (subst (λ n. K n ≡ true) same e)))
          | inr other ↦ shape_stays q (not_new q e) ∙ old_shape q other
        ]

    -- and a new one has the shape of its choice
    new_shape : (q : ℕ) (s : TreeShape) → IsNewAt q s → (K2 q ≡ true) × (S2 q ≡ s)
    unfolding K2 S2
    new_shape q s (inr n) = (marked_at (right_arm x) right q s (mark (left_arm x) left K) n, put_at (right_arm x) right q s (put (left_arm x) left S1) n)
    new_shape q s (inl n) = (
      mark_adds (right_arm x) right (mark (left_arm x) left K) q (marked_at (left_arm x) left q s K n),
      put_other (right_arm x) right (put (left_arm x) left S1) q (λ t m. one_arm forest.pairs q b x (new_free q s (inl n)).0 at n.0 m.0) ∙ put_at (left_arm x) left q s S1 n,
    )

    not_own : (s : TreeShape) → IsNewAt b s → ⊥
    not_own s n = let lt = arm_below b (new_names b s n) in omega arith

    -- what the pair itself takes
    takes : (arm : Arm) (t : CoverPart) (ch : Choice) (s : TreeShape) (m : ℕ) → ((q : ℕ) → arm ≡ pair_arm q → Names q x) → ((q : ℕ) (k : TreeShape) → IsNew arm ch q k → IsNewAt q k)
        → ((q : ℕ) → arm ≡ pair_arm q → IsFree forest q → (k : TreeShape) → IsNewAt q k → IsNew arm ch q k) → IsPartOf forest arm t → IsChoice c w h t ch s m → TakenBy forest K2 S2 arm ch
    takes _ _ Nothing s m names new back literal c = refl
    takes _ _ (Keep k) s m names new back literal c = absurd c
    takes _ _ CutOff s m names new back literal c = absurd c
    takes _ _ Nothing s m names new back (shared never) c = never
    takes _ _ (Keep k) s m names new back (shared never) c = absurd c
    takes _ _ CutOff s m names new back (shared never) c = absurd c
    takes _ _ Nothing s m names new back (free is f d d') c = absurd c
    takes _ _ (Keep k) s m names new back (free {place = q} is f d d') c = new_shape q k (new q k (refl, refl))
    takes _ _ CutOff s m names new back (free {place = q} is f d d') c = (not_kept (K2 q) refl, is)
      where
        not_kept : (e : Bool) → K2 q ≡ e → e ≡ false
        not_kept false e = refl
        not_kept true e =
            elim (kept_cases q e) [
              | inl g ↦ absurd (let later = state.users q b x g at (names q refl) in omega arith)
              | inr n ↦ absurd (let g = (back q refl is n.0 n.1).1 in cc)
            ]

    -- the mark of a pair
    own_mark : Marked b ≡ d0
    unfolding Marked
    own_mark = rw (eq-eqb b b refl) refl

    old_mark : (q : ℕ) → (q ≡ b → ⊥) → Marked q ≡ D q
    unfolding Marked
    old_mark q other = rw (ne_eqb q b other) refl

    own : DecidedBy c forest w h K2 Marked S2 b x
    own = record {
      l = l;
      r = r;
      left_part = dl;
      right_part = dr;
      left = left;
      right = right;
      takes_left = takes (left_arm x) l left left_at left_sum (λ q e. inl e) (λ q k n. inl n)
          (λ q e is k n. elim n [ inl m ↦ m | inr m ↦ absurd (one_arm forest.pairs q b x is.0 at e m.0) ]) dl is_left;
      takes_right = takes (right_arm x) r right right_at right_sum (λ q e. inr e) (λ q k n. inr n)
          (λ q e is k n. elim n [ inl m ↦ absurd (one_arm forest.pairs q b x is.0 at m.0 e) | inr m ↦ m ]) dr is_right;
      first = λ m. subst (λ s. AreFirst c w h (operator_of x) l r s left right) (sym same) (first (sym own_mark ∙ m));
      root = λ e m. subst (λ s. (is : IsRootShape c w h (Join (operator_of x) l r) s) × IsSimpleRoot c w h (Join (operator_of x) l r) is.sum) (sym same) (root0 (sym (kept_stays b not_own) ∙ e) (sym own_mark ∙ m));
      compound = λ m. compound (sym own_mark ∙ m);
    }
      where
        same : S2 b ≡ s0
        same = shape_stays b not_own ∙ own_shape

    -- what a pair behind has taken
    still : (p : ℕ) (y : Pair) (arm : Arm) (ch : Choice) → suc b ≤ p → slice_get forest.pairs p ≡ Some y → ((q : ℕ) → arm ≡ pair_arm q → Names q y) → TakenBy forest K S arm ch → TakenBy forest K2 S2 arm ch
    still p y (Literal rail) ch le e names t = t
    still p y (pair_arm q) (Keep s) le e names t = (kept_adds q t.0, kept_shape q t.0 ∙ t.1)
    still p y (pair_arm q) Nothing le e names t = t
    still p y (pair_arm q) CutOff le e names t =
        (kept_stays q (λ s n. (let one = one_user forest.pairs q b p x y t.1.0 at (new_names q s n) e (names q refl) in omega arith)) ∙ t.0, t.1)

    behind : (p : ℕ) (y : Pair) → suc b ≤ p → slice_get forest.pairs p ≡ Some y → DecidedBy c forest w h K2 Marked S2 p y
    behind p y le e =
        let d = state.decided p y le e in
        record {
          l = d.l;
          r = d.r;
          left_part = d.left_part;
          right_part = d.right_part;
          left = d.left;
          right = d.right;
          takes_left = still p y (left_arm y) d.left le e (λ q g. inl g) d.takes_left;
          takes_right = still p y (right_arm y) d.right le e (λ q g. inr g) d.takes_right;
          first = λ m. subst (λ s. AreFirst c w h (operator_of y) d.l d.r s d.left d.right) (sym same) (d.first (sym mark_same ∙ m));
          root = λ f m. subst (λ s. (is : IsRootShape c w h (Join (operator_of y) d.l d.r) s) × IsSimpleRoot c w h (Join (operator_of y) d.l d.r) is.sum) (sym same) (d.root (sym (kept_stays p not_arm) ∙ f) (sym mark_same ∙ m));
          compound = λ m. d.compound (sym mark_same ∙ m);
        }
      where
        not_arm : (s : TreeShape) → IsNewAt p s → ⊥
        not_arm s n = let lt = arm_below p (new_names p s n) in omega arith

        same : S2 p ≡ S p
        same = shape_stays p not_arm ∙ old_shape p (λ g. omega arith)

        mark_same : Marked p ≡ D p
        mark_same = old_mark p (λ g. omega arith)

    marks_stay : (q : ℕ) → Marked q ≡ true → (K2 q ≡ false) × (b ≤ q)
    marks_stay q m =
        elim (cases_eq q b) [
          | inl same ↦ (
            (let kb : K b ≡ false = root_only (sym own_mark ∙ subst (λ n. Marked n ≡ true) same m) in subst (λ n. K2 n ≡ false) (sym same) (kept_stays b not_own ∙ kb)),
            omega arith,
          )
          | inr other ↦
              let old = state.marked q (sym (old_mark q other) ∙ m) in
              let le = old.1 in
              (kept_stays q (λ s n. (let lt = arm_below q (new_names q s n) in omega arith)) ∙ old.0, omega arith)
        ]

    next : State c forest w h b K2 Marked S2
    next = record {
      kept_free = λ q e. elim (kept_cases q e) [ inl f ↦ state.kept_free q f | inr n ↦ new_free q n.0 n.1 ];
      users = λ q u y e f n. elim (kept_cases q e) [
        | inl g ↦ (let later = state.users q u y g f n in omega arith)
        | inr m ↦ (let one = one_user forest.pairs q b u x y (new_free q m.0 m.1).0 at (new_names q m.0 m.1) f n in omega arith)
      ];
      marked = marks_stay;
      least = λ q y l' r' e f d d'. elim (kept_cases q e) [
        | inl g ↦ (let o = state.least q y l' r' g f d d' in (o.0, subst (λ s. IsLeast c w h (Join (operator_of y) l' r') s o.0) (sym (kept_shape q g)) o.1))
        | inr n ↦ (let o = new_least q n.0 n.1 y l' r' f d d' in (o.0, subst (λ s. IsLeast c w h (Join (operator_of y) l' r') s o.0) (sym (new_shape q n.0 n.1).1) o.1))
      ];
      decided = λ p y le f. elim (cases_eq p b) [
        | inl same ↦ (let here : x ≡ y = same_Some x y (sym at ∙ ap (slice_get forest.pairs) (sym same) ∙ f) in subst (λ n. DecidedBy c forest w h K2 Marked S2 n y) (sym same) (subst (DecidedBy c forest w h K2 Marked S2 b) here own))
        | inr other ↦ behind p y (omega arith) f
      ];
    }

    -- the same with the marks and the shapes spelled out
    pub turn : State c forest w h b (mark (right_arm x) right (mark (left_arm x) left K)) (λ q. cond (q == b) d0 (D q)) (put (right_arm x) right (put (left_arm x) left (λ q. cond (q == b) s0 (S q))))
    unfolding K2 Marked S2 S1
    turn = next

  -- one more pair takes its choices
  step : (b : ℕ) → b < length forest.pairs → (K D : ℕ → Bool) (S : ℕ → TreeShape) → State c forest w h (suc b) K D S
      → (K' : ℕ → Bool) × (D' : ℕ → Bool) × (S' : ℕ → TreeShape) × State c forest w h b K' D' S'
  step b lt K D S state =
      elim (slice_get_cases forest.pairs b).1 [
        | inl found ↦ at_pair found.0 found.2
        | inr past ↦ absurd (omega (arith, past.0))
      ]
    where
      at_pair : (x : Pair) → slice_get forest.pairs b ≡ Some x → (K' : ℕ → Bool) × (D' : ℕ → Bool) × (S' : ℕ → TreeShape) × State c forest w h b K' D' S'
      at_pair x at =
          let o = order b x at in
          let l = arm_part forest order b (left_arm x) o.0 (omega arith) in
          let r = arm_part forest order b (right_arm x) o.1 (omega arith) in
          by (K b) refl l.0 r.0 l.1 r.1
        where
          by : (k : Bool) → K b ≡ k → (l r : CoverPart) → IsPartOf forest (left_arm x) l → IsPartOf forest (right_arm x) r → (K' : ℕ → Bool) × (D' : ℕ → Bool) × (S' : ℕ → TreeShape) × State c forest w h b K' D' S'
          by true e l r dl dr =
              let least = state.least b x l r e at dl dr in
              let f = first_there c w h (omega arith) (omega arith) (operator_of x) l r (S b) least.0 least.1 in
              let g = f.2.give in (
                _,
                _,
                _,
                next b x at K D S state l r dl dr false (S b) (λ f. refl) (λ f. absurd (cc)) (λ f. absurd (let z : true ≡ false = sym e ∙ f in cc)) f.0 f.1 g.left_shape g.right_shape g.left_sum g.right_sum g.is_left g.is_right
                    (λ m. f.2) (λ m. absurd (cc)),
              )
          by false e l r dl dr =
              let root = root_decided c w h wide tall (operator_of x) l r in
              decide root root.mark refl
            where
              decide : (root : RootDecision c w h (operator_of x) l r) (d : Bool) → root.mark ≡ d → (K' : ℕ → Bool) × (D' : ℕ → Bool) × (S' : ℕ → TreeShape) × State c forest w h b K' D' S'
              decide root false m =
                  let first = root.first m in
                  let g = first.give in (
                    _,
                    _,
                    _,
                    next b x at K D S state l r dl dr false root.shape (λ f. absurd (let z : true ≡ false = sym f ∙ e in cc)) (λ f. e) (λ f n. root.root m) root.left root.right g.left_shape g.right_shape g.left_sum g.right_sum g.is_left g.is_right
                        (λ n. first) (λ n. absurd (cc)),
                  )
              decide root true m =
                  let k = root.compound m in (
                    _,
                    _,
                    _,
                    next b x at K D S state l r dl dr true root.shape (λ f. absurd (let z : true ≡ false = sym f ∙ e in cc)) (λ f. e) (λ f n. absurd (cc)) root.left root.right k.left_first.shape k.right_first.shape k.left_first.sum k.right_first.sum k.left_first.is k.right_first.is
                        (λ n. absurd (cc)) (λ n. k),
                  )

  pub start : State c forest w h (length forest.pairs) (λ q. false) (λ q. false) (λ q. leaf_shape)
  start = record {
    kept_free = λ q e. absurd (cc);
    users = λ q u x e f n. absurd (cc);
    least = λ q x l r e f d d'. absurd (cc);
    marked = λ q m. absurd (cc);
    decided = λ p x le f. absurd (let lt = slice_get_within forest.pairs p x f in omega arith);
  }

  all_steps : (b room : ℕ) → b + room ≡ length forest.pairs → (K : ℕ → Bool) × (D : ℕ → Bool) × (S : ℕ → TreeShape) × State c forest w h b K D S
  all_steps b zero e =
      ((λ q. false), (λ q. false), (λ q. leaf_shape), (let here : length forest.pairs ≡ b = omega arith in subst (λ n. State c forest w h n (λ q. false) (λ q. false) (λ q. leaf_shape)) here start))
  all_steps b (suc room) e = let later = all_steps (suc b) room (omega arith) in step b (omega arith) later.0 later.1 later.2 later.3

  -- marks and shapes as lists
  module _ (K D : ℕ → Bool) (S : ℕ → TreeShape) (state : State c forest w h 0 K D S) where
    listed : (ℕ → Bool) → List Bool
    listed F = map F (range_with_len 0 (length forest.pairs))

    all_shapes : List TreeShape
    all_shapes = map S (range_with_len 0 (length forest.pairs))

    listed_at : (F : ℕ → Bool) (q : ℕ) → q < length forest.pairs → is_kept (listed F) q ≡ F q
    unfolding listed
    listed_at F q lt = get_or-map-range_with_len F 0 (length forest.pairs) q q false lt (omega arith)

    -- what is marked is a pair
    listed_in : (F : ℕ → Bool) (q : ℕ) → is_kept (listed F) q ≡ true → q < length forest.pairs
    unfolding listed
    listed_in F q e = by (slice_get_cases (map F (range_with_len 0 (length forest.pairs))) q).1
      where
        by : ((x : Bool) × (q < length (map F (range_with_len 0 (length forest.pairs)))) × (slice_get (map F (range_with_len 0 (length forest.pairs))) q ≡ Some x) × (get_or (map F (range_with_len 0 (length forest.pairs))) q x ≡ x))
            ⊎ ((length (map F (range_with_len 0 (length forest.pairs))) ≤ q) × (slice_get (map F (range_with_len 0 (length forest.pairs))) q ≡ None)) → q < length forest.pairs
        by (inl (x, lt, f, g)) = omega (arith, lt, length-map-range_with_len F 0 (length forest.pairs))
        by (inr (le, none)) =
            absurd (let past = unwrap_or-slice_get (map F (range_with_len 0 (length forest.pairs))) q false in
            let f : false ≡ true = ap (λ (o : Option Bool). unwrap_or o false) (sym none) ∙ past ∙ e in cc)

    shapes_at : (q : ℕ) → q < length forest.pairs → slice_get all_shapes q ≡ Some (S q)
    unfolding all_shapes
    shapes_at q lt =
        slice_get-get_or (map S (range_with_len 0 (length forest.pairs))) q leaf_shape (omega (arith, length-map-range_with_len S 0 (length forest.pairs)))
        ∙ ap Some (get_or-map-range_with_len S 0 (length forest.pairs) q q leaf_shape lt (omega arith))

    marked_free : (q : ℕ) → is_kept (listed K) q ≡ true → IsFree forest q
    marked_free q e = state.kept_free q (sym (listed_at K q (listed_in K q e)) ∙ e)

    marked_roots : (q : ℕ) → is_kept (listed D) q ≡ true → (is_kept (listed K) q ≡ false) × (q < length forest.pairs)
    marked_roots q e =
        let lt = listed_in D q e in
        (listed_at K q lt ∙ (state.marked q (sym (listed_at D q lt) ∙ e)).0, lt)

    taken : (p : ℕ) (arm : Arm) (ch : Choice) → p ≤ length forest.pairs → ReadsBefore p arm → TakenBy forest K S arm ch → IsTaken forest (listed K) all_shapes arm ch
    taken p (Literal rail) ch le low t = t
    taken p (pair_arm q) Nothing le low t = t
    taken p (pair_arm q) (Keep s) le low t = (listed_at K q (omega arith) ∙ t.0, shapes_at q (omega arith) ∙ ap Some t.1)
    taken p (pair_arm q) CutOff le low t = (listed_at K q (omega arith) ∙ t.0, t.1)

    all_decided : (p : ℕ) (x : Pair) (shape : TreeShape) → slice_get forest.pairs p ≡ Some x → slice_get all_shapes p ≡ Some shape → IsDecided c forest w h (listed K) (listed D) all_shapes p x shape
    all_decided p x shape e f =
        let lt = slice_get_within forest.pairs p x e in
        let d = state.decided p x (omega arith) e in
        let o = order p x e in
        let same : S p ≡ shape = same_Some (S p) shape (sym (shapes_at p lt) ∙ f) in
        record {
          l = d.l;
          r = d.r;
          left_part = d.left_part;
          right_part = d.right_part;
          left = d.left;
          right = d.right;
          takes_left = taken p (left_arm x) d.left (omega arith) o.0 d.takes_left;
          takes_right = taken p (right_arm x) d.right (omega arith) o.1 d.takes_right;
          first = λ m. subst (λ s. AreFirst c w h (operator_of x) d.l d.r s d.left d.right) same (d.first (sym (listed_at D p lt) ∙ m));
          root = λ k m. subst (λ s. (is : IsRootShape c w h (Join (operator_of x) d.l d.r) s) × IsSimpleRoot c w h (Join (operator_of x) d.l d.r) is.sum) same (d.root (sym (listed_at K p lt) ∙ k) (sym (listed_at D p lt) ∙ m));
          compound = λ m. d.compound (sym (listed_at D p lt) ∙ m);
        }

    plan_of_state : (kept : List Bool) × (split : List Bool) × (cells : List CellTrees) × IsChosenPlan c forest w h kept split cells
    unfolding listed all_shapes
    plan_of_state =
        let p = decided_plan c forest w h (omega arith) (omega arith) (listed K) (listed D) all_shapes order (length-map-range_with_len K 0 (length forest.pairs)) (length-map-range_with_len D 0 (length forest.pairs)) (length-map-range_with_len S 0 (length forest.pairs)) marked_free marked_roots all_decided in
        (listed K, listed D, p.0, p.1)

  -- a forest has a chosen plan
  pub chosen_plan_there : (kept : List Bool) × (split : List Bool) × (cells : List CellTrees) × IsChosenPlan c forest w h kept split cells
  chosen_plan_there =
      let final = all_steps 0 (length forest.pairs) (omega arith) in
      plan_of_state final.0 final.1 final.2 final.3
