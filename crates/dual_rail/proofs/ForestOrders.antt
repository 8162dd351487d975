-- Pairs read only pairs that stand before them, and each literal and each end is there.
use Rattle.std.proofs.Common.{◌≡◌, ◌⊎◌, inl, inr, sym, ap, subst, ◌∙◌, ℕ, ◌<◌, ◌≤◌, Bool, true, false, List, length, Some, slice_get, arith}
use Rattle.std.specs.Prelude.{All, slice_index_or}
use Rattle.std.proofs.lemmas.Bool.{cases_lt}
use Rattle.std.proofs.lemmas.Option.{get_or_from_slice_get, slice_get_within}
use Rattle.std.proofs.lemmas.Slice.Zip.{AllZip-long}
use Rattle.dom_base.proofs.Lists.{slice_get-there}
use Rattle.gate_decompose.specs.declared.gates.Node.TheVariants.{And as and_node, Not as not_node, Or as or_node}
use Rattle.gate_decompose.specs.declared.gates.Ref.{Ref}
use Rattle.gate_decompose.specs.declared.gates.Ref.TheVariants.{Const as constant_ref, Leaf as leaf_ref, Node as node_ref}
use Rattle.gate_decompose.specs.GatesData.{GatesData}
use Rattle.gate_decompose.specs.GatesOrder.{AreInPlace, IsTermPart, IsThere}
use Rattle.gate_decompose.specs.Needed.{AsksFor, Literal, Pair as asked_pair, Precedes, gate, leaf, under}
use Rattle.dual_rail.specs.declared.forest.Arm.{Arm}
use Rattle.dual_rail.specs.declared.forest.Arm.TheVariants.{Literal as literal_arm, Pair as pair_arm}
use Rattle.dual_rail.specs.declared.forest.End.{End}
use Rattle.dual_rail.specs.declared.forest.End.TheVariants.{Const as const_end, FromDynamic, FromOutput, Literal as literal_end}
use Rattle.dual_rail.specs.declared.forest.Pair.{Pair}
use Rattle.dual_rail.specs.declared.forest.Pair.TheVariants.{And as and_pair, Or as or_pair}
use Rattle.dual_rail.specs.ForestData.{ForestData}
use Rattle.dual_rail.specs.ForestOrder.{AreInOrder, ForestsAreInPlace, HasLeaves, IsEndOfForest, ReadsBefore as ArmBefore, ReadsLeaves}
use Rattle.dual_rail.specs.Forests.{IsArm, IsEndOf, IsForestOf, IsPairOf, left_arm, right_arm}
use Rattle.dual_rail.proofs.Zips.{all_from, all_zip_back}

-- an arm that reads before a place reads before each later one
pub reads_later : (q p : ℕ) (arm : Arm) → ArmBefore q arm → q ≤ p → ArmBefore p arm
reads_later q p (literal_arm rail) before le = tt
reads_later q p (pair_arm place) before le = omega arith

-- a reference to a leaf names one of so many
abbrev IsLow : ℕ → Ref → Type 0
IsLow leaves (constant_ref b) = Unit {0}
IsLow leaves (leaf_ref k) = k < leaves
IsLow leaves (node_ref n) = Unit {0}

part_low : (leaves n : ℕ) (r : Ref) → IsTermPart leaves n r → IsLow leaves r
part_low leaves n (constant_ref b) h = tt
part_low leaves n (leaf_ref k) h = h
part_low leaves n (node_ref m) h = tt

there_low : (leaves n : ℕ) (r : Ref) → IsThere leaves n r → IsLow leaves r
there_low leaves n (constant_ref b) h = tt
there_low leaves n (leaf_ref k) h = h
there_low leaves n (node_ref m) h = tt

-- what a reference before a node asks for is before it, and a literal is a leaf
module _ (gates : GatesData) (is : AreInPlace gates) where
  part-weaker : (m n : ℕ) (r : Ref) → m < n → IsTermPart gates.leaves m r → IsTermPart gates.leaves n r
  part-weaker m n (constant_ref b) lt h = h
  part-weaker m n (leaf_ref k) lt h = h
  part-weaker m n (node_ref k) lt h = omega (arith, lt, h)

  asks_pair : (n : ℕ) {r : Ref} {s : Bool} {m : ℕ} {t : Bool} → IsTermPart gates.leaves n r → AsksFor gates.nodes r s (asked_pair m t) → m < n
  asks_pair n h (gate g) = h
  asks_pair n h (under {n = k} {a = a} at more) = asks_pair n (part-weaker k n a h (is.nodes k (not_node a) at)) more

  asks_literal : {r : Ref} {s : Bool} {k : ℕ} {t : Bool} → IsLow gates.leaves r → AsksFor gates.nodes r s (Literal k t) → k < gates.leaves
  asks_literal h leaf = h
  asks_literal h (under {n = k} {a = a} at more) = asks_literal (part_low gates.leaves k a (is.nodes k (not_node a) at)) more

module _ (gates : GatesData) (is : AreInPlace gates) (signs : List Bool) (forest : ForestData) (of : IsForestOf gates signs forest) where
  -- of two pairs the one of the earlier node comes first
  first_node : (i j : ℕ) (p q : ℕ × Bool) → slice_get forest.origin i ≡ Some p → slice_get forest.origin j ≡ Some q → p.0 < q.0 → i < j
  first_node i j p q e f lt =
      elim (cases_lt i j) [
        | inl less ↦ less
        | inr le ↦ absurd (elim (cases_lt j i) [ inl less ↦ later less | inr ge ↦ same (omega (arith, le, ge)) ])
      ]
    where
      same : i ≡ j → ⊥
      same z = let one : Some p ≡ Some q = sym e ∙ ap (slice_get forest.origin) z ∙ f in let pq : p ≡ q = cc in let n : p.0 ≡ q.0 = ap (λ (x : ℕ × Bool). x.0) pq in omega (arith, n, lt)

      clash : Precedes q p → ⊥
      clash (inl less) = omega (arith, less, lt)
      clash (inr more) = let n = more.0 in omega (arith, n, lt)

      later : j < i → ⊥
      later less =
          let h = of.origin_is.in_order j i p less (slice_get_within forest.origin i p e) in
          clash (subst (λ x. Precedes x p) (get_or_from_slice_get forest.origin j q p f) (subst (Precedes (slice_index_or forest.origin j p)) (get_or_from_slice_get forest.origin i p p e) h))

  arm_before : (place n : ℕ) (s sign : Bool) (r : Ref) (arm : Arm) → slice_get forest.origin place ≡ Some (n, s) → IsTermPart gates.leaves n r → IsArm gates.nodes forest.origin sign r arm → ArmBefore place arm
  arm_before place n s sign r (literal_arm rail) e h x = tt
  arm_before place n s sign r (pair_arm other) e h (p, at, asks) = first_node other place p (n, s) at e (asks_pair gates is n h asks)

  arm_low : (sign : Bool) (r : Ref) (arm : Arm) → IsLow gates.leaves r → IsArm gates.nodes forest.origin sign r arm → ReadsLeaves forest.leaves arm
  arm_low sign r (literal_arm rail) h asks = subst (λ n. rail.leaf < n) (sym of.leaves_are) (asks_literal gates is h asks)
  arm_low sign r (pair_arm other) h x = tt

  -- the two parts of a pair's node
  record Parts (place : ℕ) (a b : Arm) : Type 0 where
    n : ℕ
    s : Bool
    at : slice_get forest.origin place ≡ Some (n, s)
    l : Ref
    r : Ref
    left_before : IsTermPart gates.leaves n l
    right_before : IsTermPart gates.leaves n r
    left_arm_is : IsArm gates.nodes forest.origin s l a
    right_arm_is : IsArm gates.nodes forest.origin s r b

  abbrev Node_of : ℕ → Ref → Ref → Type 0
  Node_of n l r = (slice_get gates.nodes n ≡ Some (and_node l r)) ⊎ (slice_get gates.nodes n ≡ Some (or_node l r))

  parts_from : (place n : ℕ) (s : Bool) (a b : Arm) (l r : Ref) → slice_get forest.origin place ≡ Some (n, s) → Node_of n l r → IsArm gates.nodes forest.origin s l a → IsArm gates.nodes forest.origin s r b → Parts place a b
  parts_from place n s a b l r at (inl e) x y =
      let h = is.nodes n (and_node l r) e in
      record { n = n; s = s; at = at; l = l; r = r; left_before = h.0; right_before = h.1; left_arm_is = x; right_arm_is = y }
  parts_from place n s a b l r at (inr e) x y =
      let h = is.nodes n (or_node l r) e in
      record { n = n; s = s; at = at; l = l; r = r; left_before = h.0; right_before = h.1; left_arm_is = x; right_arm_is = y }

  parts : (place : ℕ) (x : Pair) → slice_get forest.pairs place ≡ Some x → Parts place (left_arm x) (right_arm x)
  parts place x e =
      let z = all_zip_back (IsPairOf gates.nodes forest.origin) forest.origin forest.pairs place x of.pairs_are e in
      by (z.0).0 (z.0).1 x z.1 z.2
    where
      by : (n : ℕ) (s : Bool) (x : Pair) → slice_get forest.origin place ≡ Some (n, s) → IsPairOf gates.nodes forest.origin (n, s) x → Parts place (left_arm x) (right_arm x)
      by n true (and_pair a b) at (l, r, f, p, q) = parts_from place n true a b l r at (inl f) p q
      by n true (or_pair a b) at (l, r, f, p, q) = parts_from place n true a b l r at (inr f) p q
      by n false (and_pair a b) at (l, r, f, p, q) = parts_from place n false a b l r at (inr f) p q
      by n false (or_pair a b) at (l, r, f, p, q) = parts_from place n false a b l r at (inl f) p q

  pub pairs_in_order : AreInOrder forest.pairs
  pairs_in_order place x e =
      let p = parts place x e in
      (arm_before place p.n p.s p.s p.l (left_arm x) p.at p.left_before p.left_arm_is, arm_before place p.n p.s p.s p.r (right_arm x) p.at p.right_before p.right_arm_is)

  pub leaves_there : HasLeaves forest
  leaves_there place x e = let p = parts place x e in (arm_low p.s p.l (left_arm x) (part_low gates.leaves p.n p.l p.left_before) p.left_arm_is, arm_low p.s p.r (right_arm x) (part_low gates.leaves p.n p.r p.right_before) p.right_arm_is)

  pairs_count : length forest.origin ≡ length forest.pairs
  pairs_count = sym (AllZip-long (IsPairOf gates.nodes forest.origin) forest.origin forest.pairs of.pairs_are)

  pub ends_there : All (IsEndOfForest forest) forest.ends
  ends_there = all_from (IsEndOfForest forest) forest.ends (λ k e at. end_at k e at)
    where
      end_at : (k : ℕ) (e : End) → slice_get forest.ends k ≡ Some e → IsEndOfForest forest e
      end_at k e at =
          let lt = slice_get_within forest.ends k e at in
          let r = slice_get-there gates.sinks k (omega (arith, lt, of.ends_count)) in
          let sign = slice_get-there signs k (omega (arith, lt, of.ends_count, of.signs_are)) in
          by r.0 sign.0 e (there_low gates.leaves (length gates.nodes) r.0 (is.sinks k r.0 r.1)) (of.ends_are k r.0 sign.0 e r.1 sign.1 at)
        where
          by : (r : Ref) (sign : Bool) (x : End) → IsLow gates.leaves r → IsEndOf gates.nodes forest.origin r sign x → IsEndOfForest forest x
          by r sign (const_end b) low h = tt
          by r sign (literal_end rail) low h = subst (λ n. rail.leaf < n) (sym of.leaves_are) (asks_literal gates is low h)
          by r sign (FromDynamic place) low (s, p, found_at, asks) = omega (arith, slice_get_within forest.origin place p found_at, pairs_count)
          by r sign (FromOutput place) low (s, p, found_at, asks) = omega (arith, slice_get_within forest.origin place p found_at, pairs_count)

pub forests_are_in_place : ForestsAreInPlace
forests_are_in_place = λ gates signs forest is of. record {
  in_order = pairs_in_order gates is signs forest of;
  has_leaves = leaves_there gates is signs forest of;
  has_ends = ends_there gates is signs forest of;
  origin_each = pairs_count gates is signs forest of;
  uses_are = of.uses_are;
}
