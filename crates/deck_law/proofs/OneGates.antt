-- One gate of two leaves, an And or an Or, that one sink of sign plus reads: its needed pair, and its forest.
use Rattle.std.specs.Prelude.{Contains, ◌&&◌, ◌==◌}
use Rattle.std.proofs.Common.{◌≡◌, Bool, Some, [], arith, eqb-true, false, inl, inr, refl, slice_get, subst, suc, sym, true, zero, ℕ, ◌∷◌}
use Rattle.std.specs.List.{AllPairs}
use Rattle.std.proofs.lemmas.Bool.{and_parts}
use Rattle.std.proofs.lemmas.Option.{same_Some}
use Rattle.dom_base.proofs.Lists.{Contains-slice_get}
use Rattle.gate_decompose.specs.GatesData.{GatesData}
use Rattle.gate_decompose.specs.Needed.{AreNeeded, IsGateNode, IsNeeded, Precedes, gate, leaf}
use Rattle.gate_decompose.specs.declared.gates.Node.{Node}
use Rattle.gate_decompose.specs.declared.gates.Node.TheVariants.{And as and_node, Not as not_node, Or as or_node}
use Rattle.gate_decompose.specs.declared.gates.Ref.{Ref}
use Rattle.gate_decompose.specs.declared.gates.Ref.TheVariants.{Leaf as leaf_ref, Node as node_ref}
use Rattle.gate_decompose.proofs.NeededSets.{HoldsAsked, HoldsRef, held_where_needed}
use Rattle.dual_rail.specs.ForestData.{ForestData}
use Rattle.dual_rail.specs.Forests.{IsEndOf, IsForestOf}
use Rattle.dual_rail.specs.declared.forest.Arm.TheVariants.{Literal}
use Rattle.dual_rail.specs.declared.forest.End.{End}
use Rattle.dual_rail.specs.declared.forest.End.TheVariants.{FromDynamic}
use Rattle.dual_rail.specs.declared.forest.Pair.{Pair}
use Rattle.dual_rail.specs.declared.forest.Pair.TheVariants.{And, Or}

abbrev pub one_node : Bool → Node
one_node false = and_node (leaf_ref 0) (leaf_ref 1)
one_node true = or_node (leaf_ref 0) (leaf_ref 1)

abbrev pub one_pair : Bool → Pair
one_pair false = And (Literal (record { leaf = 0; plus = true })) (Literal (record { leaf = 1; plus = true }))
one_pair true = Or (Literal (record { leaf = 0; plus = true })) (Literal (record { leaf = 1; plus = true }))

unfoldable pub gates : Bool → GatesData
gates is_or = record { leaves = 2; nodes = one_node is_or ∷ []; sinks = node_ref 0 ∷ [] }

unfoldable pub forest : Bool → ForestData
forest is_or = record {
  leaves = 2;
  pairs = one_pair is_or ∷ [];
  origin = (0, true) ∷ [];
  uses = 1 ∷ [];
  ends = FromDynamic 0 ∷ [];
}

-- the one pair that is needed
wanted : ℕ → Bool → Bool
wanted m t = (m == 0) && t

is_gate : (is_or : Bool) → IsGateNode (one_node is_or ∷ []) 0 (leaf_ref 0) (leaf_ref 1)
is_gate false = inl refl
is_gate true = inr refl

-- no other node is there
arms_are : (is_or : Bool) (n : ℕ) (a b : Ref) → IsGateNode (one_node is_or ∷ []) n a b → (leaf_ref 0 ≡ a) × (leaf_ref 1 ≡ b)
arms_are false zero a b (inl e) = (let left : leaf_ref 0 ≡ a = cc in left, let right : leaf_ref 1 ≡ b = cc in right)
arms_are false zero a b (inr e) = absurd (cc)
arms_are true zero a b (inl e) = absurd (cc)
arms_are true zero a b (inr e) = (let left : leaf_ref 0 ≡ a = cc in left, let right : leaf_ref 1 ≡ b = cc in right)
arms_are is_or (suc n) a b (inl e) = absurd (cc)
arms_are is_or (suc n) a b (inr e) = absurd (cc)

no_not : (is_or : Bool) (n : ℕ) (a : Ref) → slice_get (one_node is_or ∷ []) n ≡ Some (not_node a) → ⊥
no_not false zero a e = absurd (cc)
no_not true zero a e = absurd (cc)
no_not is_or (suc n) a e = absurd (cc)

holds_asked : (is_or : Bool) → HoldsAsked (gates is_or) (true ∷ []) wanted
unfolding gates wanted
holds_asked is_or = record {
  sinks = sinks;
  nots = λ n s a held e. absurd (no_not is_or n a e);
  gates_left = λ n s a b held at. subst (λ x. HoldsRef wanted x s) (arms_are is_or n a b at).0 tt;
  gates_right = λ n s a b held at. subst (λ x. HoldsRef wanted x s) (arms_are is_or n a b at).1 tt;
}
  where
    sinks : (k : ℕ) (r : Ref) (sign : Bool) → slice_get (node_ref 0 ∷ []) k ≡ Some r → slice_get (true ∷ []) k ≡ Some sign → HoldsRef wanted r sign
    sinks zero r sign e f = subst (λ x. HoldsRef wanted x sign) (same_Some _ r e) (subst (λ b. wanted 0 b ≡ true) (same_Some _ sign f) refl)
    sinks (suc k) r sign e f = absurd (cc)

are_needed : (is_or : Bool) → AreNeeded (gates is_or) (true ∷ []) ((0, true) ∷ [])
unfolding gates wanted
are_needed is_or = record { in_order = in_order; needed = λ n s. (there n s, back n s) }
  where
    in_order : AllPairs Precedes ((0, true) ∷ [])
    in_order i j d lt high = absurd (omega arith)

    there : (n : ℕ) (s : Bool) → Contains {X = ℕ × Bool} ((0, true) ∷ []) (n, s) → IsNeeded (gates is_or) (true ∷ []) n s
    there n s (zero, lt, e) = λ holds closed. subst (λ (p : ℕ × Bool). holds p.0 p.1 ≡ true) e (closed.sinks 0 (node_ref 0) true 0 true refl refl (gate (is_gate is_or)))
    there n s (suc k, lt, e) = absurd (omega arith)

    back : (n : ℕ) (s : Bool) → IsNeeded (gates is_or) (true ∷ []) n s → Contains {X = ℕ × Bool} ((0, true) ∷ []) (n, s)
    back n s needed =
        let held = and_parts (n == 0) s (held_where_needed (gates is_or) (true ∷ []) wanted (holds_asked is_or) n s needed) in
        let first : n ≡ 0 = eqb-true n 0 held.0 in
        Contains-slice_get {X = ℕ × Bool} ((0, true) ∷ []) 0 (n, s) (λ i. Some (sym first i, sym held.1 i))

-- it ends at its dynamic net
ends : (is_or : Bool) (k : ℕ) (r : Ref) (sign : Bool) (end : End) → slice_get (node_ref 0 ∷ []) k ≡ Some r → slice_get (true ∷ []) k ≡ Some sign
    → slice_get (FromDynamic 0 ∷ []) k ≡ Some end → IsEndOf (one_node is_or ∷ []) ((0, true) ∷ []) r sign end
ends is_or zero r sign end e f g =
    subst (IsEndOf (one_node is_or ∷ []) ((0, true) ∷ []) r sign) (same_Some _ end g)
    (subst (λ x. IsEndOf (one_node is_or ∷ []) ((0, true) ∷ []) x sign (FromDynamic 0)) (same_Some _ r e)
    (sym (same_Some _ sign f), (0, true), refl, gate (is_gate is_or)))
ends is_or (suc k) r sign end e f g = absurd (cc)

pub is_forest : (is_or : Bool) → IsForestOf (gates is_or) (true ∷ []) (forest is_or)
unfolding gates forest
is_forest false = record {
  leaves_are = refl;
  origin_is = are_needed false;
  pairs_are = ((leaf_ref 0, leaf_ref 1, refl, leaf, leaf), tt);
  uses_are = refl;
  signs_are = refl;
  ends_count = refl;
  ends_are = ends false;
}
is_forest true = record {
  leaves_are = refl;
  origin_is = are_needed true;
  pairs_are = ((leaf_ref 0, leaf_ref 1, refl, leaf, leaf), tt);
  uses_are = refl;
  signs_are = refl;
  ends_count = refl;
  ends_are = ends true;
}
