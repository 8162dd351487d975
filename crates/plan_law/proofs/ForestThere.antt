-- Gates have a forest under any signs: what each reference asks for is found along the nodes before it, and each needed pair has its
-- place.
use Rattle.std.proofs.Common.{◌≡◌, inl, inr, ℕ, zero, suc, ◌+◌, ◌<◌, Bool, true, false, not, List, [], length, map, Some, slice_get, refl, sym, subst, ◌∙◌, arith}
use Rattle.std.specs.List.{AllZip, range_with_len}
use Rattle.std.proofs.lemmas.Option.{same_Some, slice_get_within}
use Rattle.dom_base.proofs.Lists.{Contains-slice_get, slice_get-contained, slice_get-there}
use Rattle.gate_decompose.specs.declared.gates.Node.{Node}
use Rattle.gate_decompose.specs.declared.gates.Node.TheVariants.{And as and_node, Not as not_node, Or as or_node}
use Rattle.gate_decompose.specs.declared.gates.Ref.{Ref}
use Rattle.gate_decompose.specs.declared.gates.Ref.TheVariants.{Const as constant_ref, Leaf as leaf_ref, Node as node_ref}
use Rattle.gate_decompose.specs.GatesData.{GatesData}
use Rattle.gate_decompose.specs.GatesOrder.{AreInPlace, HasParts, IsTermPart, IsThere}
use Rattle.gate_decompose.specs.Needed.{AreNeeded, Asked, AsksFor, IsGateNode, IsNeeded, Literal, Pair as asked_pair, Value, constant, gate, leaf, signed, under}
use Rattle.gate_decompose.proofs.GatesOrder.{gates_are_ordered}
use Rattle.gate_decompose.proofs.NeededLists.{gate_parts, needed_gate, needed_there}
use Rattle.dual_rail.specs.declared.forest.Arm.{Arm}
use Rattle.dual_rail.specs.declared.forest.Arm.TheVariants.{Literal as literal_arm, Pair as pair_arm}
use Rattle.dual_rail.specs.declared.forest.End.{End}
use Rattle.dual_rail.specs.declared.forest.End.TheVariants.{Const as constant_end, FromDynamic, FromOutput, Literal as literal_end}
use Rattle.dual_rail.specs.declared.forest.Pair.{Pair}
use Rattle.dual_rail.specs.declared.forest.Pair.TheVariants.{And, Or}
use Rattle.dual_rail.specs.ForestData.{ForestData}
use Rattle.dual_rail.specs.Forests.{IsArm, IsEndOf, IsForestOf, IsPairOf, arm_uses, end_uses}
use Rattle.dual_rail.specs.WantedNodes.{IsPlainPart}
use Rattle.dual_rail.proofs.ArmsOf.{plain_place}
use Rattle.dual_rail.proofs.RailsOf.{nodes_ordered}
use Rattle.dual_rail.proofs.TargetsOf.{asks_opposite}
use Rattle.plan_law.specs.Laws.{ForestsAreThere}
use Rattle.plan_law.proofs.BuiltLists.{list_there, zip_there}

module _ (gates : GatesData) (is : AreInPlace gates) where
  abbrev Asks : Ref → Bool → Type 0
  Asks r sign = (x : Asked) × AsksFor gates.nodes r sign x

  -- what a node of the first so many asks for
  node_asks : (room n : ℕ) → n < room → n < length gates.nodes → (sign : Bool) → Asks (node_ref n) sign
  node_asks zero n low there sign = absurd (omega (arith, low))
  node_asks (suc room) n low there sign =
      let x = slice_get-there gates.nodes n there in
      by x.0 x.1 (is.nodes n x.0 x.1) (λ m less h s. node_asks room m less h s)
    where
      by : (x : Node) → slice_get gates.nodes n ≡ Some x → HasParts gates.leaves n x
          → ((m : ℕ) → m < room → m < length gates.nodes → (s : Bool) → Asks (node_ref m) s) → Asks (node_ref n) sign
      by (and_node a b) at h earlier = (asked_pair n sign, gate (inl at))
      by (or_node a b) at h earlier = (asked_pair n sign, gate (inr at))
      by (not_node (constant_ref b)) at h earlier = absurd h
      by (not_node (leaf_ref k)) at h earlier = (Literal k (not sign), under at leaf)
      by (not_node (node_ref m)) at h earlier =
          let more = earlier m (omega (arith, h, low)) (omega (arith, h, there)) (not sign) in
          (more.0, under at more.1)

  ref_asks : (r : Ref) → IsThere gates.leaves (length gates.nodes) r → (sign : Bool) → Asks r sign
  ref_asks (constant_ref b) there sign = (Value (signed sign b), constant)
  ref_asks (leaf_ref k) there sign = (Literal k sign, leaf)
  ref_asks (node_ref n) there sign = node_asks (length gates.nodes) n there there sign

  -- a part of a node is there
  part_there : (n : ℕ) (r : Ref) → n < length gates.nodes → IsTermPart gates.leaves n r → IsThere gates.leaves (length gates.nodes) r
  part_there n (constant_ref b) lt part = absurd part
  part_there n (leaf_ref k) lt part = part
  part_there n (node_ref m) lt part = omega (arith, lt, part)

  module _ (signs : List Bool) (origin : List (ℕ × Bool)) (needed : AreNeeded gates signs origin) where
    place_there : (n : ℕ) (sign : Bool) → IsNeeded gates signs n sign → (place : ℕ) × (slice_get origin place ≡ Some (n, sign))
    place_there n sign h = slice_get-contained origin (n, sign) ((needed.needed n sign).1 h)

    abbrev ArmOf : Bool → Ref → Type 0
    ArmOf sign r = (arm : Arm) × IsArm gates.nodes origin sign r arm

    -- a part of a node has an arm where the pair that it asks for is needed
    arm_there : (n : ℕ) (sign : Bool) (r : Ref) → n < length gates.nodes → IsTermPart gates.leaves n r → IsPlainPart n r
        → ((m : ℕ) (t : Bool) → AsksFor gates.nodes r sign (asked_pair m t) → IsNeeded gates signs m t) → ArmOf sign r
    arm_there n sign r lt part plain closed =
        let asks = ref_asks r (part_there n r lt part) sign in
        by asks.0 asks.1
      where
        by : (x : Asked) → AsksFor gates.nodes r sign x → ArmOf sign r
        by (Value b) asks = absurd (plain_place gates.nodes (nodes_ordered gates is) n (omega (arith, lt)) plain asks)
        by (Literal k t) asks = (literal_arm (record { leaf = k; plus = t }), asks)
        by (asked_pair m t) asks = let at = place_there m t (closed m t asks) in (pair_arm at.0, ((m, t), at.1, asks))

    -- each needed pair has its operator and its arms
    pair_there : (n : ℕ) (sign : Bool) → IsNeeded gates signs n sign → (x : Pair) × IsPairOf gates.nodes origin (n, sign) x
    pair_there n sign h =
        let parts = gate_parts gates.nodes n (needed_gate gates signs n sign h) in
        by sign h parts.0 parts.1 parts.2
      where
        left : (s : Bool) → IsNeeded gates signs n s → (x : Node) (a b : Ref) → slice_get gates.nodes n ≡ Some x → IsGateNode gates.nodes n a b
            → IsTermPart gates.leaves n a → IsPlainPart n a → ArmOf s a
        left s wanted x a b at node part plain = arm_there n s a (slice_get_within gates.nodes n x at) part plain
            (λ m t asks. λ holds closed. closed.left n s a b m t (wanted holds closed) node asks)

        right : (s : Bool) → IsNeeded gates signs n s → (x : Node) (a b : Ref) → slice_get gates.nodes n ≡ Some x → IsGateNode gates.nodes n a b
            → IsTermPart gates.leaves n b → IsPlainPart n b → ArmOf s b
        right s wanted x a b at node part plain = arm_there n s b (slice_get_within gates.nodes n x at) part plain
            (λ m t asks. λ holds closed. closed.right n s a b m t (wanted holds closed) node asks)

        by : (s : Bool) → IsNeeded gates signs n s → (a b : Ref) → IsGateNode gates.nodes n a b
            → (x : Pair) × IsPairOf gates.nodes origin (n, s) x
        by s wanted a b (inl at) = and_pair s
            (left s wanted (and_node a b) a b at (inl at) part.0 plain.0) (right s wanted (and_node a b) a b at (inl at) part.1 plain.1)
          where
            part : IsTermPart gates.leaves n a × IsTermPart gates.leaves n b
            part = is.nodes n (and_node a b) at

            plain : IsPlainPart n a × IsPlainPart n b
            plain = nodes_ordered gates is n (and_node a b) at

            and_pair : (s : Bool) → ArmOf s a → ArmOf s b → (x : Pair) × IsPairOf gates.nodes origin (n, s) x
            and_pair true l r = (And l.0 r.0, (a, b, at, l.1, r.1))
            and_pair false l r = (Or l.0 r.0, (a, b, at, l.1, r.1))
        by s wanted a b (inr at) = or_pair s
            (left s wanted (or_node a b) a b at (inr at) part.0 plain.0) (right s wanted (or_node a b) a b at (inr at) part.1 plain.1)
          where
            part : IsTermPart gates.leaves n a × IsTermPart gates.leaves n b
            part = is.nodes n (or_node a b) at

            plain : IsPlainPart n a × IsPlainPart n b
            plain = nodes_ordered gates is n (or_node a b) at

            or_pair : (s : Bool) → ArmOf s a → ArmOf s b → (x : Pair) × IsPairOf gates.nodes origin (n, s) x
            or_pair true l r = (Or l.0 r.0, (a, b, at, l.1, r.1))
            or_pair false l r = (And l.0 r.0, (a, b, at, l.1, r.1))

    -- each sink has its end with its sign
    end_there : (r : Ref) (sign : Bool) → IsThere gates.leaves (length gates.nodes) r
        → ((m : ℕ) (t : Bool) → AsksFor gates.nodes r sign (asked_pair m t) → IsNeeded gates signs m t)
        → (end : End) × IsEndOf gates.nodes origin r sign end
    end_there r sign there closed =
        let asks = ref_asks r there true in
        by asks.0 asks.1 sign closed
      where
        by : (x : Asked) → AsksFor gates.nodes r true x → (s : Bool)
            → ((m : ℕ) (t : Bool) → AsksFor gates.nodes r s (asked_pair m t) → IsNeeded gates signs m t)
            → (end : End) × IsEndOf gates.nodes origin r s end
        by (Value b) asks s wanted = (constant_end b, asks)
        by (Literal k t) asks s wanted = (literal_end (record { leaf = k; plus = t }), asks)
        by (asked_pair m t) asks true wanted =
            let at = place_there m t (wanted m t asks) in
            (FromDynamic at.0, (refl, (m, t), at.1, asks))
        by (asked_pair m t) asks false wanted =
            let other = asks_opposite gates.nodes asks in
            let at = place_there m (not t) (wanted m (not t) other) in
            (FromOutput at.0, (refl, (m, not t), at.1, other))

    pairs_there : (pairs : List Pair) × AllZip (IsPairOf gates.nodes origin) origin pairs
    pairs_there = zip_there (IsPairOf gates.nodes origin) origin (λ k p at. pair_there p.0 p.1 ((needed.needed p.0 p.1).0 (Contains-slice_get origin k p at)))

    abbrev IsEndAt : ℕ → End → Type 0
    IsEndAt k end = (r : Ref) (sign : Bool) → slice_get gates.sinks k ≡ Some r → slice_get signs k ≡ Some sign
        → IsEndOf gates.nodes origin r sign end

    ends_there : length signs ≡ length gates.sinks
        → (ends : List End) × (length ends ≡ length gates.sinks) × ((k : ℕ) (end : End) → slice_get ends k ≡ Some end → IsEndAt k end)
    ends_there count = list_there IsEndAt (length gates.sinks) each
      where
        each : (k : ℕ) → k < length gates.sinks → (end : End) × IsEndAt k end
        each k lt =
            let r = slice_get-there gates.sinks k lt in
            let sign = slice_get-there signs k (omega (arith, lt, count)) in
            let end = end_there r.0 sign.0 (is.sinks k r.0 r.1)
            (λ m t asks. λ holds closed. closed.sinks k r.0 sign.0 m t r.1 sign.1 asks) in (
              end.0,
              λ other s at at_sign.
                  subst (λ x. IsEndOf gates.nodes origin x s end.0) (same_Some r.0 other (sym r.1 ∙ at))
                  (subst (λ x. IsEndOf gates.nodes origin r.0 x end.0) (same_Some sign.0 s (sym sign.1 ∙ at_sign)) end.1),
            )

    pub forest_of : length signs ≡ length gates.sinks → (forest : ForestData) × IsForestOf gates signs forest
    forest_of count =
        let ends = ends_there count in
        let bare : ForestData = record { leaves = gates.leaves; pairs = pairs_there.0; origin = origin; uses = []; ends = ends.0 } in (
          record {
            leaves = gates.leaves;
            pairs = pairs_there.0;
            origin = origin;
            uses = map (λ place. arm_uses bare place + end_uses bare place) (range_with_len 0 (length pairs_there.0));
            ends = ends.0;
          },
          record {
            leaves_are = refl;
            origin_is = needed;
            pairs_are = pairs_there.1;
            uses_are = refl;
            signs_are = count;
            ends_count = ends.1;
            ends_are = λ k r sign end at at_sign at_end. ends.2 k end at_end r sign at at_sign;
          },
        )

pub forests_there : ForestsAreThere
forests_there = λ gates signs is count.
    let found = needed_there gates signs (gates_are_ordered gates is) in
    forest_of gates is signs found.0 found.1 count
