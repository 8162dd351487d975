-- What is asked for with the other sign, and the target of one node more.
use Rattle.std.proofs.Common.{◌≡◌, ◌⊎◌, inl, inr, sym, ap, ap₂, subst, ◌∙◌, ℕ, ◌<◌, Bool, true, false, not, List, [], ◌∷◌, ◌++◌, length, Some, slice_get, get_or, arith}
use Rattle.std.proofs.lemmas.Option.{same_Some, slice_get-get_or}
use Rattle.dom_base.proofs.Lists.{slice_get-push_cases}
use Rattle.gate_decompose.specs.declared.gates.Node.{Node}
use Rattle.gate_decompose.specs.declared.gates.Node.TheVariants.{And, Or, Not}
use Rattle.gate_decompose.specs.declared.gates.Ref.{Ref}
use Rattle.gate_decompose.specs.declared.gates.Ref.TheVariants.{Const, Leaf, Node as node_ref}
use Rattle.gate_decompose.specs.Needed.{Asked, AsksFor, IsGateNode, Literal, Pair, Value, constant, gate, leaf, signed, under}
use Rattle.dual_rail.specs.Targets.{AreTargets, asked_target, other_sign_of}
use Rattle.gate_decompose.specs.GatesOrder.{NodeReadsEarlier, ReadsEarlier}
use Rattle.dual_rail.specs.WantedNodes.{AreOrderedNodes, HasPlainParts, IsPlainPart}
use Rattle.dual_rail.specs.declared.targets.Target.{Target}

-- an operator isn't a Not
not_gate : (nodes : List Node) (n m : ℕ) (a b c : Ref) → IsGateNode nodes n a b → n ≡ m → slice_get nodes m ≡ Some (Not c) → ⊥
not_gate nodes n m a b c (inl e) same f = let x : And a b ≡ Not c = same_Some _ _ (sym e ∙ ap (slice_get nodes) same ∙ f) in absurd (cc)
not_gate nodes n m a b c (inr e) same f = let x : Or a b ≡ Not c = same_Some _ _ (sym e ∙ ap (slice_get nodes) same ∙ f) in absurd (cc)

-- a reference with a sign asks for one thing
pub asks_one : (nodes : List Node) {r q : Ref} {s t : Bool} {x y : Asked} → AsksFor nodes r s x → AsksFor nodes q t y → r ≡ q → s ≡ t → x ≡ y
asks_one nodes (constant {b = b} {sign = s}) (constant {b = c} {sign = t}) same sign = let bit : b ≡ c = cc in ap₂ (λ u v. Value (signed u v)) sign bit
asks_one nodes constant leaf same sign = absurd (cc)
asks_one nodes constant (gate is) same sign = absurd (cc)
asks_one nodes constant (under at more) same sign = absurd (cc)
asks_one nodes leaf constant same sign = absurd (cc)
asks_one nodes (leaf {k = k}) (leaf {k = m}) same sign = let number : k ≡ m = cc in ap₂ Literal number sign
asks_one nodes leaf (gate is) same sign = absurd (cc)
asks_one nodes leaf (under at more) same sign = absurd (cc)
asks_one nodes (gate is) constant same sign = absurd (cc)
asks_one nodes (gate is) leaf same sign = absurd (cc)
asks_one nodes (gate {n = n} is) (gate {n = m} are) same sign = let number : n ≡ m = cc in ap₂ Pair number sign
asks_one nodes (gate {n = n} {a = a} {b = b} is) (under {n = m} {a = c} at more) same sign = let number : n ≡ m = cc in absurd (not_gate nodes n m a b c is number at)
asks_one nodes (under at more) constant same sign = absurd (cc)
asks_one nodes (under at more) leaf same sign = absurd (cc)
asks_one nodes (under {n = n} {a = c} at more) (gate {n = m} {a = a} {b = b} is) same sign = let number : m ≡ n = cc in absurd (not_gate nodes m n a b c is number at)
asks_one nodes (under {n = n} {a = a} at more) (under {n = m} {a = b} at' more') same sign =
    let number : n ≡ m = cc in
    let node : Not a ≡ Not b = same_Some _ _ (sym at ∙ ap (slice_get nodes) number ∙ at') in
    let part : a ≡ b = cc in
    asks_one nodes more more' part (ap not sign)

-- with the other sign the opposite is asked for
pub asks_opposite : (nodes : List Node) {r : Ref} {s : Bool} {x : Asked} → AsksFor nodes r s x → AsksFor nodes r (not s) (other_sign_of x)
asks_opposite nodes (constant {b = b} {sign = true}) = constant
asks_opposite nodes (constant {b = true} {sign = false}) = constant
asks_opposite nodes (constant {b = false} {sign = false}) = constant
asks_opposite nodes leaf = leaf
asks_opposite nodes (gate is) = gate is
asks_opposite nodes (under at more) = under at (asks_opposite nodes more)

pub target_next : (nodes : List Node) (targets : List Target) (t : Target) → AreTargets nodes targets → AsksFor nodes (node_ref (length targets)) true (asked_target t) → AreTargets nodes (targets ++ (t ∷ []))
target_next nodes targets t are own n u e = by (slice_get-push_cases targets t n u e)
  where
    by : (slice_get targets n ≡ Some u) ⊎ ((n ≡ length targets) × (t ≡ u)) → AsksFor nodes (node_ref n) true (asked_target u)
    by (inl f) = are n u f
    by (inr f) = subst (λ k. AsksFor nodes (node_ref k) true (asked_target u)) (sym f.0) (subst (λ v. AsksFor nodes (node_ref (length targets)) true (asked_target v)) f.1 own)

pub operator_target : (nodes : List Node) (n : ℕ) (node : Node) → slice_get nodes n ≡ Some node → (((a : Ref) × (b : Ref) × (node ≡ And a b)) ⊎ ((a : Ref) × (b : Ref) × (node ≡ Or a b)))
    → AsksFor nodes (node_ref n) true (Pair n true)
operator_target nodes n node at (inl (a, b, e)) = gate (inl (at ∙ ap Some e))
operator_target nodes n node at (inr (a, b, e)) = gate (inr (at ∙ ap Some e))

pub not_target : (nodes : List Node) (n : ℕ) (node : Node) (part : Ref) (x : Asked) → slice_get nodes n ≡ Some node → node ≡ Not part → AsksFor nodes part false x → AsksFor nodes (node_ref n) true x
not_target nodes n node part x at e asks = under (at ∙ ap Some e) asks

-- what leaves, constants and nodes ask for with the sign plus
pub constant_asks : (nodes : List Node) (part : Ref) (b : Bool) → part ≡ Const b → AsksFor nodes part true (Value b)
constant_asks nodes part b e = subst (λ r. AsksFor nodes r true (Value b)) (sym e) constant

pub leaf_asks : (nodes : List Node) (part : Ref) (k : ℕ) → part ≡ Leaf k → AsksFor nodes part true (Literal k true)
leaf_asks nodes part k e = subst (λ r. AsksFor nodes r true (Literal k true)) (sym e) leaf

pub node_asks : (nodes : List Node) (targets : List Target) (part : Ref) (n : ℕ) (d : Target) → part ≡ node_ref n → n < length targets → AreTargets nodes targets → AsksFor nodes part true (asked_target (get_or targets n d))
node_asks nodes targets part n d e lt are = subst (λ r. AsksFor nodes r true (asked_target (get_or targets n d))) (sym e) (are n (get_or targets n d) (slice_get-get_or targets n d lt))

-- with a sign
pub signed_asks : (nodes : List Node) (part : Ref) (t u : Target) (plus : Bool) → plus ≡ false → asked_target u ≡ other_sign_of (asked_target t) → AsksFor nodes part true (asked_target t) → AsksFor nodes part plus (asked_target u)
signed_asks nodes part t u plus e same asks = subst (λ s. AsksFor nodes part s (asked_target u)) (sym e) (subst (AsksFor nodes part false) (sym same) (asks_opposite nodes asks))

pub node_there : (nodes : ℕ) (part : Ref) (n : ℕ) → part ≡ node_ref n → ReadsEarlier nodes part → n < nodes
node_there nodes part n e h = subst (ReadsEarlier nodes) e h

-- parts that are leaves or nodes before are there
pub part_there : (n : ℕ) (r : Ref) → IsPlainPart n r → ReadsEarlier n r
part_there n (Const b) h = tt
part_there n (Leaf k) h = tt
part_there n (node_ref m) h = h

pub plain_there : (n : ℕ) (x : Node) → HasPlainParts n x → NodeReadsEarlier n x
plain_there n (Not a) h = part_there n a h
plain_there n (And a b) h = (part_there n a h.0, part_there n b h.1)
plain_there n (Or a b) h = (part_there n a h.0, part_there n b h.1)

pub parts_at : (nodes : List Node) (n i : ℕ) (d : Node) → AreOrderedNodes nodes → n ≡ i → i < length nodes → NodeReadsEarlier n (get_or nodes i d)
parts_at nodes n i d order e lt =
    subst (λ k. NodeReadsEarlier k (get_or nodes i d)) (sym e) (plain_there i (get_or nodes i d) (order i (get_or nodes i d) (slice_get-get_or nodes i d lt)))

-- a node's target after those of the nodes before it
pub next_targets : (nodes : List Node) (targets seen new : List Target) (t : Target) (i : ℕ) (d : Node) → AreTargets nodes targets → seen ≡ targets → length targets ≡ i → i < length nodes
    → new ≡ targets ++ (t ∷ []) → (AreTargets nodes seen → slice_get nodes (length seen) ≡ Some (get_or nodes i d) → AsksFor nodes (node_ref (length seen)) true (asked_target t)) → AreTargets nodes new
next_targets nodes targets seen new t i d are same count lt next own =
    subst (AreTargets nodes) (sym next)
    (target_next nodes targets t are (subst (λ xs. AsksFor nodes (node_ref (length xs)) true (asked_target t)) same
    (own (subst (AreTargets nodes) (sym same) are) (ap (λ xs. slice_get nodes (length xs)) same ∙ ap (slice_get nodes) count ∙ slice_get-get_or nodes i d lt))))

pub there_more : (m n : ℕ) (r : Ref) → m < n → ReadsEarlier m r → ReadsEarlier n r
there_more m n (Const b) lt h = tt
there_more m n (Leaf k) lt h = tt
there_more m n (node_ref k) lt h = omega (arith, lt, h)
