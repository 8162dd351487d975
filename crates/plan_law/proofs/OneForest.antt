-- Gates under signs have one forest.
use Rattle.std.proofs.Common.{◌≡◌, inl, inr, refl, sym, ap, ap₂, subst, ◌∙◌, ℕ, ◌+◌, ◌<◌, Bool, true, false, List, length, map, Some, slice_get, get_or, arith}
use Rattle.std.specs.Prelude.{AllPairs}
use Rattle.std.specs.List.{AllZip, range_with_len}
use Rattle.std.proofs.lemmas.Bool.{cases_lt}
use Rattle.std.proofs.lemmas.Option.{get_or_from_slice_get, same_Some, slice_get_within}
use Rattle.dom_base.proofs.Lists.{AllZip-one, slice_get-there}
use Rattle.gate_decompose.specs.declared.gates.Node.{Node}
use Rattle.gate_decompose.specs.declared.gates.Node.TheVariants.{And as and_node, Or as or_node}
use Rattle.gate_decompose.specs.declared.gates.Ref.{Ref}
use Rattle.gate_decompose.specs.GatesData.{GatesData}
use Rattle.gate_decompose.specs.Needed.{Precedes}
use Rattle.gate_decompose.proofs.NeededLists.{needed_one}
use Rattle.dual_rail.specs.declared.forest.Arm.{Arm}
use Rattle.dual_rail.specs.declared.forest.Arm.TheVariants.{Literal as literal_arm, Pair as pair_arm}
use Rattle.dual_rail.specs.declared.forest.End.{End}
use Rattle.dual_rail.specs.declared.forest.End.TheVariants.{Const as constant_end, FromDynamic, FromOutput, Literal as literal_end}
use Rattle.dual_rail.specs.declared.forest.Pair.{Pair}
use Rattle.dual_rail.specs.declared.forest.Pair.TheVariants.{And, Or}
use Rattle.dual_rail.specs.ForestData.{ForestData}
use Rattle.dual_rail.specs.Forests.{IsArm, IsEndOf, IsForestOf, IsPairOf, arm_uses, end_uses}
use Rattle.dual_rail.proofs.TargetsOf.{asks_one, asks_opposite}
use Rattle.plan_law.proofs.BuiltLists.{lists_same}

precedes_itself : (p : ℕ × Bool) → Precedes p p → ⊥
precedes_itself p (inl a) = omega arith
precedes_itself p (inr a) = let x = a.1 in let y = a.2 in cc

-- a pair stands at one place
module _ (origin : List (ℕ × Bool)) (order : AllPairs Precedes origin) where
  not_later : (i j : ℕ) (p : ℕ × Bool) → slice_get origin i ≡ Some p → slice_get origin j ≡ Some p → i < j → ⊥
  not_later i j p e f lt =
      let first = get_or_from_slice_get origin i p p e in
      let second = get_or_from_slice_get origin j p p f in
      precedes_itself p (subst (λ x. Precedes x p) first (subst (Precedes (get_or origin i p)) second (order i j p lt (slice_get_within origin j p f))))

  place_one : (i j : ℕ) (p q : ℕ × Bool) → slice_get origin i ≡ Some p → slice_get origin j ≡ Some q → p ≡ q → i ≡ j
  place_one i j p q e f same =
      let g : slice_get origin j ≡ Some p = f ∙ ap Some (sym same) in
      elim (cases_lt i j) [
        | inl lt ↦ absurd (not_later i j p e g lt)
        | inr le ↦ elim (cases_lt j i) [ inl lt ↦ absurd (not_later j i p g e lt) | inr ge ↦ omega arith ]
      ]

  module _ (nodes : List Node) where
    arm_one : (sign : Bool) (r : Ref) (a b : Arm) → IsArm nodes origin sign r a → IsArm nodes origin sign r b → a ≡ b
    arm_one sign r (literal_arm x) (literal_arm y) is are =
        let same = asks_one nodes is are refl refl in
        let number : x.leaf ≡ y.leaf = cc in
        let plus : x.plus ≡ y.plus = cc in
        λ i. literal_arm (record { leaf = number i; plus = plus i })
    arm_one sign r (literal_arm x) (pair_arm j) is (q, f, are) = let same = asks_one nodes is are refl refl in absurd (cc)
    arm_one sign r (pair_arm i) (literal_arm y) (p, e, is) are = let same = asks_one nodes is are refl refl in absurd (cc)
    arm_one sign r (pair_arm i) (pair_arm j) (p, e, is) (q, f, are) =
        let same = asks_one nodes is are refl refl in
        let number : p.0 ≡ q.0 = cc in
        let plus : p.1 ≡ q.1 = cc in
        ap pair_arm (place_one i j p q e f (λ k. (number k, plus k)))

    -- parts of an operator
    and_parts : (n : ℕ) (l r m s : Ref) → slice_get nodes n ≡ Some (and_node l r) → slice_get nodes n ≡ Some (and_node m s) → (l ≡ m) × (r ≡ s)
    and_parts n l r m s e f = let node : and_node l r ≡ and_node m s = same_Some _ _ (sym e ∙ f) in (cc, cc)

    or_parts : (n : ℕ) (l r m s : Ref) → slice_get nodes n ≡ Some (or_node l r) → slice_get nodes n ≡ Some (or_node m s) → (l ≡ m) × (r ≡ s)
    or_parts n l r m s e f = let node : or_node l r ≡ or_node m s = same_Some _ _ (sym e ∙ f) in (cc, cc)

    and_or : (n : ℕ) (l r m s : Ref) → slice_get nodes n ≡ Some (and_node l r) → slice_get nodes n ≡ Some (or_node m s) → ⊥
    and_or n l r m s e f = let node : and_node l r ≡ or_node m s = same_Some _ _ (sym e ∙ f) in cc

    arms_one : (sign : Bool) (l r m s : Ref) (a b c d : Arm) → (l ≡ m) × (r ≡ s) → IsArm nodes origin sign l a → IsArm nodes origin sign r b
        → IsArm nodes origin sign m c → IsArm nodes origin sign s d → (a ≡ c) × (b ≡ d)
    arms_one sign l r m s a b c d same x y z w = (
      arm_one sign m a c (subst (λ q. IsArm nodes origin sign q a) same.0 x) z,
      arm_one sign s b d (subst (λ q. IsArm nodes origin sign q b) same.1 y) w,
    )

    pair_one : (p : ℕ × Bool) (x y : Pair) → IsPairOf nodes origin p x → IsPairOf nodes origin p y → x ≡ y
    pair_one (n, true) (And a b) (And c d) (l, r, e, x, y) (m, s, f, z, w) =
        let same = arms_one true l r m s a b c d (and_parts n l r m s e f) x y z w in ap₂ And same.0 same.1
    pair_one (n, true) (Or a b) (Or c d) (l, r, e, x, y) (m, s, f, z, w) =
        let same = arms_one true l r m s a b c d (or_parts n l r m s e f) x y z w in ap₂ Or same.0 same.1
    pair_one (n, true) (And a b) (Or c d) (l, r, e, x, y) (m, s, f, z, w) = absurd (and_or n l r m s e f)
    pair_one (n, true) (Or a b) (And c d) (l, r, e, x, y) (m, s, f, z, w) = absurd (and_or n m s l r f e)
    pair_one (n, false) (And a b) (And c d) (l, r, e, x, y) (m, s, f, z, w) =
        let same = arms_one false l r m s a b c d (or_parts n l r m s e f) x y z w in ap₂ And same.0 same.1
    pair_one (n, false) (Or a b) (Or c d) (l, r, e, x, y) (m, s, f, z, w) =
        let same = arms_one false l r m s a b c d (and_parts n l r m s e f) x y z w in ap₂ Or same.0 same.1
    pair_one (n, false) (And a b) (Or c d) (l, r, e, x, y) (m, s, f, z, w) = absurd (and_or n m s l r f e)
    pair_one (n, false) (Or a b) (And c d) (l, r, e, x, y) (m, s, f, z, w) = absurd (and_or n l r m s e f)

    -- what an end is taken from, as what its sink asks for with the sign plus
    end_one : (r : Ref) (sign : Bool) (a b : End) → IsEndOf nodes origin r sign a → IsEndOf nodes origin r sign b → a ≡ b
    end_one r sign (constant_end b) (constant_end c) is are = let same = asks_one nodes is are refl refl in let bit : b ≡ c = cc in ap constant_end bit
    end_one r sign (constant_end b) (literal_end y) is are = let same = asks_one nodes is are refl refl in absurd (cc)
    end_one r sign (constant_end b) (FromDynamic j) is (t, q, f, are) = let same = asks_one nodes is are refl refl in absurd (cc)
    end_one r sign (constant_end b) (FromOutput j) is (t, q, f, are) = let same = asks_one nodes (asks_opposite nodes is) are refl refl in absurd (cc)
    end_one r sign (literal_end x) (constant_end c) is are = let same = asks_one nodes is are refl refl in absurd (cc)
    end_one r sign (literal_end x) (literal_end y) is are =
        let same = asks_one nodes is are refl refl in
        let number : x.leaf ≡ y.leaf = cc in
        let plus : x.plus ≡ y.plus = cc in
        λ i. literal_end (record { leaf = number i; plus = plus i })
    end_one r sign (literal_end x) (FromDynamic j) is (t, q, f, are) = let same = asks_one nodes is are refl refl in absurd (cc)
    end_one r sign (literal_end x) (FromOutput j) is (t, q, f, are) = let same = asks_one nodes (asks_opposite nodes is) are refl refl in absurd (cc)
    end_one r sign (FromDynamic i) (constant_end c) (s, p, e, is) are = let same = asks_one nodes is are refl refl in absurd (cc)
    end_one r sign (FromDynamic i) (literal_end y) (s, p, e, is) are = let same = asks_one nodes is are refl refl in absurd (cc)
    end_one r sign (FromDynamic i) (FromDynamic j) (s, p, e, is) (t, q, f, are) =
        let same = asks_one nodes is are refl refl in
        let number : p.0 ≡ q.0 = cc in
        let plus : p.1 ≡ q.1 = cc in
        ap FromDynamic (place_one i j p q e f (λ k. (number k, plus k)))
    end_one r sign (FromDynamic i) (FromOutput j) (s, p, e, is) (t, q, f, are) = absurd (cc)
    end_one r sign (FromOutput i) (constant_end c) (s, p, e, is) are = let same = asks_one nodes is (asks_opposite nodes are) refl refl in absurd (cc)
    end_one r sign (FromOutput i) (literal_end y) (s, p, e, is) are = let same = asks_one nodes is (asks_opposite nodes are) refl refl in absurd (cc)
    end_one r sign (FromOutput i) (FromDynamic j) (s, p, e, is) (t, q, f, are) = absurd (cc)
    end_one r sign (FromOutput i) (FromOutput j) (s, p, e, is) (t, q, f, are) =
        let same = asks_one nodes is are refl refl in
        let number : p.0 ≡ q.0 = cc in
        let plus : p.1 ≡ q.1 = cc in
        ap FromOutput (place_one i j p q e f (λ k. (number k, plus k)))

pub forest_one : (gates : GatesData) (signs : List Bool) (a b : ForestData) → IsForestOf gates signs a → IsForestOf gates signs b → a ≡ b
forest_one gates signs a b is are =
    let leaves = is.leaves_are ∙ sym are.leaves_are in
    let origin : a.origin ≡ b.origin = needed_one gates signs a.origin b.origin is.origin_is are.origin_is in
    let pairs : a.pairs ≡ b.pairs =
    AllZip-one (IsPairOf gates.nodes b.origin) (pair_one b.origin are.origin_is.in_order gates.nodes) b.origin a.pairs b.pairs
    (subst (λ o. AllZip (IsPairOf gates.nodes o) o a.pairs) origin is.pairs_are) are.pairs_are in
    let ends : a.ends ≡ b.ends = lists_same a.ends b.ends (is.ends_count ∙ sym are.ends_count) (λ k x y e f.
    let lt : k < length gates.sinks = subst (λ n. k < n) is.ends_count (slice_get_within a.ends k x e) in
    let sink = slice_get-there gates.sinks k lt in
    let sign = slice_get-there signs k (subst (λ n. k < n) (sym is.signs_are) lt) in
    end_one b.origin are.origin_is.in_order gates.nodes sink.0 sign.0 x y
    (subst (λ o. IsEndOf gates.nodes o sink.0 sign.0 x) origin (is.ends_are k sink.0 sign.0 x sink.1 sign.1 e))
    (are.ends_are k sink.0 sign.0 y sink.1 sign.1 f)) in
    let uses : a.uses ≡ b.uses = is.uses_are
    ∙ (λ i. map (λ place. arm_uses (record { leaves = leaves i; pairs = pairs i; origin = origin i; uses = a.uses; ends = ends i }) place
    + end_uses (record { leaves = leaves i; pairs = pairs i; origin = origin i; uses = a.uses; ends = ends i }) place)
    (range_with_len 0 (length (pairs i))))
    ∙ sym are.uses_are in
    λ i. record { leaves = leaves i; pairs = pairs i; origin = origin i; uses = uses i; ends = ends i }
