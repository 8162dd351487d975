-- Needed pairs stand at their places, and the parts of a forest make one.
use Rattle.std.proofs.Common.{◌≡◌, ◌⊎◌, inl, inr, refl, sym, subst, ◌∙◌, ℕ, ◌<◌, Bool, true, false, List, length, Some, slice_get, arith, All}
use Rattle.std.specs.List.{AllZip}
use Rattle.std.proofs.lemmas.Option.{slice_get_within}
use Rattle.std.proofs.lemmas.Slice.Zip.{AllZip-long}
use Rattle.dom_base.proofs.Lists.{Contains-slice_get, slice_get-there}
use Rattle.gate_decompose.specs.declared.gates.Node.{Node}
use Rattle.gate_decompose.specs.declared.gates.Node.TheVariants.{And as and_node, Not as not_node, Or as or_node}
use Rattle.gate_decompose.specs.declared.gates.Ref.{Ref}
use Rattle.gate_decompose.specs.declared.gates.Ref.TheVariants.{Const as constant_ref, Leaf as leaf_ref, Node as node_ref}
use Rattle.gate_decompose.specs.GatesData.{GatesData}
use Rattle.gate_decompose.specs.GatesOrder.{AreInPlace, AreOrderedGates, HasParts, IsTermPart}
use Rattle.gate_decompose.specs.Needed.{AreNeeded, AsksFor, IsGateNode, IsNeeded, Pair as asked_pair}
use Rattle.gate_decompose.specs.NeededPass.{is_gate, wanted_by_pass}
use Rattle.gate_decompose.proofs.NeededLists.{gate_parts, needed_gate}
use Rattle.gate_decompose.proofs.NeededSets.{pass_is_needed}
use Rattle.dual_rail.specs.ArmPlaces.{HasGates, HasPlacesOf}
use Rattle.dual_rail.specs.EndPlaces.{AreEndsSoFar, SinksHavePlaces}
use Rattle.dual_rail.specs.Forests.{IsArm, IsEndOf, IsPairOf}
use Rattle.dual_rail.specs.Places.{ArePlaces, place_at}
use Rattle.dual_rail.specs.ForestOrder.{ReadsBefore}
use Rattle.dual_rail.specs.Uses.{HasArmsThere, IsEndThere}
use Rattle.dual_rail.specs.WantedNodes.{AreOrderedNodes, HasPlainParts, IsPlainPart}
use Rattle.dual_rail.proofs.Zips.{all_from, all_zip_back}
use Rattle.dual_rail.specs.declared.forest.Arm.{Arm}
use Rattle.dual_rail.specs.declared.forest.Arm.TheVariants.{Literal as literal_arm, Pair as pair_arm}
use Rattle.dual_rail.specs.declared.forest.End.{End}
use Rattle.dual_rail.specs.declared.forest.End.TheVariants.{Const as const_end, FromDynamic, FromOutput, Literal as literal_end}
use Rattle.dual_rail.specs.declared.forest.Pair.{Pair}
use Rattle.dual_rail.specs.declared.forest.Pair.TheVariants.{And, Or}
use Rattle.dual_rail.specs.declared.signed.Signed.{Signed}

-- nodes in place are in order
pub nodes_ordered : (gates : GatesData) → AreInPlace gates → AreOrderedNodes gates.nodes
nodes_ordered gates is = λ n x e. by n x (is.nodes n x e)
  where
    part : (n : ℕ) (r : Ref) → IsTermPart gates.leaves n r → IsPlainPart n r
    part n (constant_ref b) h = h
    part n (leaf_ref k) h = tt
    part n (node_ref m) h = h

    by : (n : ℕ) (x : Node) → HasParts gates.leaves n x → HasPlainParts n x
    by n (not_node a) h = part n a h
    by n (and_node a b) h = (part n a h.0, part n b h.1)
    by n (or_node a b) h = (part n a h.0, part n b h.1)

module _ (gates : GatesData) (signs : List Bool) (origin : List (ℕ × Bool)) (are : AreNeeded gates signs origin) where
  needed_at : (k : ℕ) (p : ℕ × Bool) → slice_get origin k ≡ Some p → IsNeeded gates signs p.0 p.1
  needed_at k p e = (are.needed p.0 p.1).0 (Contains-slice_get origin k p e)

  -- each needed pair is that of an And or an Or
  pub origin_gates : All (λ (p : ℕ × Bool). HasGates gates.nodes p.0) origin
  origin_gates = all_from (λ (p : ℕ × Bool). HasGates gates.nodes p.0) origin (λ k p e. by p (needed_gate gates signs p.0 p.1 (needed_at k p e)))
    where
      from : (n : ℕ) (a b : Ref) → IsGateNode gates.nodes n a b → HasGates gates.nodes n
      from n a b (inl e) = (and_node a b, e, refl)
      from n a b (inr e) = (or_node a b, e, refl)

      by : (p : ℕ × Bool) → is_gate (slice_get gates.nodes p.0) ≡ true → HasGates gates.nodes p.0
      by p g = let parts = gate_parts gates.nodes p.0 g in from p.0 parts.0 parts.1 parts.2

  module _ (order : AreOrderedGates gates) (marks : ℕ → Bool → Bool) (same : (n : ℕ) (s : Bool) → marks n s ≡ wanted_by_pass gates signs n s) (places : List (Signed ℕ))
      (stand : ArePlaces gates.nodes marks origin places) where
    needed_stands : (m : ℕ) (t : Bool) → IsNeeded gates signs m t → slice_get origin (place_at places m t) ≡ Some (m, t)
    needed_stands m t needed =
        let g = needed_gate gates signs m t needed in
        let parts = gate_parts gates.nodes m g in
        let marked = same m t ∙ (pass_is_needed gates signs order m t parts.0 parts.1 parts.2).1 needed in
        stand m t (rw (g, marked) refl)

    -- what the parts of a needed pair and sinks ask for stands at its place
    pub parts_stand : All (λ (p : ℕ × Bool). HasPlacesOf gates.nodes origin places p.0 p.1) origin
    parts_stand = all_from (λ (p : ℕ × Bool). HasPlacesOf gates.nodes origin places p.0 p.1) origin (λ k p e a b m t is asks. needed_stands m t (by p (needed_at k p e) a b m t is asks))
      where
        by : (p : ℕ × Bool) → IsNeeded gates signs p.0 p.1 → (a b : Ref) (m : ℕ) (t : Bool) → IsGateNode gates.nodes p.0 a b
            → (AsksFor gates.nodes a p.1 (asked_pair m t) ⊎ AsksFor gates.nodes b p.1 (asked_pair m t)) → IsNeeded gates signs m t
        by p needed a b m t is (inl asks) = λ holds closed. closed.left p.0 p.1 a b m t (needed holds closed) is asks
        by p needed a b m t is (inr asks) = λ holds closed. closed.right p.0 p.1 a b m t (needed holds closed) is asks

    pub sinks_stand : SinksHavePlaces gates signs origin places
    sinks_stand = λ k r sign m t e f asks. needed_stands m t (λ holds closed. closed.sinks k r sign m t e f asks)

-- the arms of pairs are there
pub arms_there : (nodes : List Node) (origin : List (ℕ × Bool)) (pairs : List Pair) → AllZip (IsPairOf nodes origin) origin pairs → All (HasArmsThere (length pairs)) pairs
arms_there nodes origin pairs are = all_from (HasArmsThere (length pairs)) pairs (λ k x e. let z = all_zip_back (IsPairOf nodes origin) origin pairs k x are e in by (z.0).0 (z.0).1 x z.2)
  where
    count : length pairs ≡ length origin
    count = AllZip-long (IsPairOf nodes origin) origin pairs are

    arm : (s : Bool) (r : Ref) (a : Arm) → IsArm nodes origin s r a → ReadsBefore (length pairs) a
    arm s r (literal_arm rail) h = tt
    arm s r (pair_arm place) (p, at, asks) = subst (λ n. place < n) (sym count) (slice_get_within origin place p at)

    by : (n : ℕ) (s : Bool) (x : Pair) → IsPairOf nodes origin (n, s) x → HasArmsThere (length pairs) x
    by n true (And a b) (l, r, f, p, q) = (arm true l a p, arm true r b q)
    by n true (Or a b) (l, r, f, p, q) = (arm true l a p, arm true r b q)
    by n false (And a b) (l, r, f, p, q) = (arm false l a p, arm false r b q)
    by n false (Or a b) (l, r, f, p, q) = (arm false l a p, arm false r b q)

-- and what ends name
pub ends_there : (gates : GatesData) (signs : List Bool) (origin : List (ℕ × Bool)) (n : ℕ) (ends : List End) → n ≡ length origin → length signs ≡ length gates.sinks → length ends ≡ length gates.sinks
    → AreEndsSoFar gates signs origin ends → All (IsEndThere n) ends
ends_there gates signs origin n ends same signs_are count are = all_from (IsEndThere n) ends (λ k e at. there k e at)
  where
    by : (r : Ref) (sign : Bool) (x : End) → IsEndOf gates.nodes origin r sign x → IsEndThere n x
    by r sign (const_end b) h = tt
    by r sign (literal_end rail) h = tt
    by r sign (FromDynamic place) (s, p, at, asks) = subst (λ m. place < m) (sym same) (slice_get_within origin place p at)
    by r sign (FromOutput place) (s, p, at, asks) = subst (λ m. place < m) (sym same) (slice_get_within origin place p at)

    there : (k : ℕ) (e : End) → slice_get ends k ≡ Some e → IsEndThere n e
    there k e at =
        let lt = slice_get_within ends k e at in
        let r = slice_get-there gates.sinks k (omega (arith, lt, count)) in
        let sign = slice_get-there signs k (omega (arith, lt, count, signs_are)) in
        by r.0 sign.0 e (are k r.0 sign.0 e r.1 sign.1 at)
