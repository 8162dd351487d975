-- The pairs that references ask for with each sign.
use Rattle.std.proofs.Common.{◌≡◌, ◌⊎◌, inl, inr, refl, sym, ap, ap₂, subst, ◌∙◌, ℕ, ◌<◌, Bool, true, false, List, [], ◌∷◌, ◌++◌, length, Option, Some, None, slice_get, get_or, arith}
use Rattle.std.proofs.lemmas.Option.{same_Some, slice_get_within, slice_get-get_or}
use Rattle.dom_base.proofs.Lists.{slice_get-push_cases}
use Rattle.gate_decompose.specs.declared.gates.Node.{Node}
use Rattle.gate_decompose.specs.declared.gates.Node.TheVariants.{And, Or, Not}
use Rattle.gate_decompose.specs.declared.gates.Ref.{Ref}
use Rattle.gate_decompose.specs.declared.gates.Ref.TheVariants.{Const}
use Rattle.gate_decompose.specs.GatesData.{GatesData}
use Rattle.gate_decompose.specs.GatesOrder.{AreGates, AreOrderedGates, NodeReadsEarlier, ReadsEarlier}
use Rattle.gate_decompose.specs.Needed.{Asked, AsksFor, Literal, Pair as asked_pair, Value, constant, gate, leaf, under}
use Rattle.dual_rail.specs.declared.targets.Target.{Target}
use Rattle.dual_rail.specs.declared.targets.Target.TheVariants.{Const as const_target, Literal as literal_target, Pair as pair_target}
use Rattle.dual_rail.proofs.TargetsOf.{asks_one, asks_opposite}
use Rattle.dual_rail.specs.SignedValues.{with_sign}
use Rattle.phase_assign.specs.Uses.{AreBelow, asked, asked_by_arms, asked_by_pair, is_pair, one_if, times}
use Rattle.dual_rail.specs.Targets.{asked_target, other_sign_of, pair_of}
use Rattle.phase_assign.specs.Wiring.{AreArmsOf, AreWired, IsAskedBy, IsWiring}
use Rattle.phase_assign.specs.ArmsData.{ArmsData as Arms}
use Rattle.dual_rail.specs.declared.signed.SignedNode.{SignedNode}
use Rattle.phase_assign.proofs.Totals.{below_append, pair_is, pair_self}

-- a pair stands in a list of one pair
one_pair : (n : ℕ) (t : Bool) (p : SignedNode) → p.node ≡ n → p.plus ≡ t → 0 < times n t (p ∷ [])
one_pair n t p e f =
    let own : one_if (is_pair p.node p.plus p) ≡ 1 = ap one_if (pair_self p) in
    subst (λ k. 0 < times k t (p ∷ [])) e (subst (λ u. 0 < times p.node u (p ∷ [])) f (omega arith))

pair_one : (n : ℕ) (t : Bool) (p : SignedNode) → 0 < times n t (p ∷ []) → (p.node ≡ n) × (p.plus ≡ t)
pair_one n t p lt = by (is_pair n t p) refl
  where
    by : (b : Bool) → is_pair n t p ≡ b → (p.node ≡ n) × (p.plus ≡ t)
    by true e = pair_is n t p e
    by false e = absurd (let none : one_if (is_pair n t p) ≡ 0 = ap one_if e in omega arith)

-- what is asked for with a sign, where this is asked for with the sign plus
abbrev asked_with : Asked → Bool → Asked
asked_with x true = x
asked_with x false = other_sign_of x

asks_with : (nodes : List Node) {r : Ref} {x : Asked} (s : Bool) → AsksFor nodes r true x → AsksFor nodes r s (asked_with x s)
asks_with nodes true asks = asks
asks_with nodes false asks = asks_opposite nodes asks

no_pair : (nodes : List Node) (r : Ref) (x : Asked) → AsksFor nodes r true x → ((s : Bool) (n : ℕ) (t : Bool) → asked_with x s ≡ asked_pair n t → ⊥) → IsAskedBy nodes r None
no_pair nodes r x asks other = record {
  all = λ s n t f. absurd (other s n t (asks_one nodes (asks_with nodes s asks) f refl refl));
  only = λ s n t lt. absurd (omega arith);
}

no_value : (b : Bool) (s : Bool) (n : ℕ) (t : Bool) → asked_with (Value b) s ≡ asked_pair n t → ⊥
no_value b true n t e = cc
no_value b false n t e = cc

no_literal : (k : ℕ) (p : Bool) (s : Bool) (n : ℕ) (t : Bool) → asked_with (Literal k p) s ≡ asked_pair n t → ⊥
no_literal k p true n t e = cc
no_literal k p false n t e = cc

pair_with : (p : SignedNode) (s : Bool) → asked_with (asked_pair p.node p.plus) s ≡ asked_pair (with_sign p s).node (with_sign p s).plus
pair_with p true = refl
pair_with p false = refl

pair_parts : (n m : ℕ) (s t : Bool) → asked_pair n s ≡ asked_pair m t → (n ≡ m) × (s ≡ t)
pair_parts n m s t e = (cc, cc)

-- a reference asks for the pair of its target, if that is one
pub target_asked : (nodes : List Node) (r : Ref) (t : Target) → AsksFor nodes r true (asked_target t) → IsAskedBy nodes r (pair_of t)
target_asked nodes r (const_target b) asks = no_pair nodes r (Value b) asks (no_value b)
target_asked nodes r (literal_target rail) asks = no_pair nodes r (Literal rail.leaf rail.plus) asks (no_literal rail.leaf rail.plus)
target_asked nodes r (pair_target p) asks = record {
  all = λ s n t f.
      let same = pair_parts (with_sign p s).node n (with_sign p s).plus t (sym (pair_with p s) ∙ asks_one nodes (asks_with nodes s asks) f refl refl) in
      one_pair n t (with_sign p s) same.0 same.1;
  only = λ s n t lt.
      let own = pair_one n t (with_sign p s) lt in
      subst (AsksFor nodes r s) (pair_with p s ∙ ap₂ asked_pair own.0 own.1) (asks_with nodes s asks);
}

-- what follows of each item of two lists, for one item more
pub zip_next : {X Y : Type 0} (P : X → Y → Type 0) (xs : List X) (ys new : List Y) (i : ℕ) (d : X) (y : Y) → length ys ≡ i → i < length xs → new ≡ ys ++ (y ∷ [])
    → ((n : ℕ) (a : X) (b : Y) → slice_get xs n ≡ Some a → slice_get ys n ≡ Some b → P a b) → P (get_or xs i d) y
    → (n : ℕ) (a : X) (b : Y) → slice_get xs n ≡ Some a → slice_get new n ≡ Some b → P a b
zip_next P xs ys new i d y count lt next are own n a b e f = by (slice_get-push_cases ys y n b (ap (λ zs. slice_get zs n) (sym next) ∙ f))
  where
    by : (slice_get ys n ≡ Some b) ⊎ ((n ≡ length ys) × (y ≡ b)) → P a b
    by (inl g) = are n a b e g
    by (inr g) =
        let here : n ≡ i = g.0 ∙ count in
        let is : get_or xs i d ≡ a = same_Some (get_or xs i d) a (sym (slice_get-get_or xs i d lt) ∙ ap (slice_get xs) (sym here) ∙ e) in
        subst (λ q. P q b) is (subst (P (get_or xs i d)) g.1 own)

-- what is asked for stands before
asks_lower : (nodes : List Node) → ((n : ℕ) (x : Node) → slice_get nodes n ≡ Some x → NodeReadsEarlier n x) → {r : Ref} {s : Bool} {x : Asked} → AsksFor nodes r s x
    → (m n : ℕ) (t : Bool) → x ≡ asked_pair n t → ReadsEarlier m r → n < m
asks_lower nodes order constant m n t e reads = absurd (cc)
asks_lower nodes order leaf m n t e reads = absurd (cc)
asks_lower nodes order (gate {n = k} {sign = u} own) m n t e reads = let same : k ≡ n = cc in omega arith
asks_lower nodes order (under {n = k} {a = a} at more) m n t e reads = let low = asks_lower nodes order more k n t e (order k (Not a) at) in omega arith

target_below : (nodes : List Node) → ((n : ℕ) (x : Node) → slice_get nodes n ≡ Some x → NodeReadsEarlier n x) → (m : ℕ) (r : Ref) → ReadsEarlier m r → (o : Option SignedNode) → IsAskedBy nodes r o → (s : Bool)
    → AreBelow m (asked o s)
target_below nodes order m r reads None is s = tt
target_below nodes order m r reads (Some p) is s =
    (asks_lower nodes order (is.only s (with_sign p s).node (with_sign p s).plus (one_pair (with_sign p s).node (with_sign p s).plus (with_sign p s) refl refl)) m (with_sign p s).node (with_sign p s).plus refl reads, tt)

-- the pairs that gates ask for are there
pub wiring_there : (gates : GatesData) (arms : List Arms) (ends : List (Option SignedNode)) → AreGates gates → AreOrderedGates gates → AreWired gates arms ends → IsWiring arms ends
wiring_there gates arms ends is order wired = record {
  arms_below = λ n s lt. arms_low n s lt;
  ends_below = λ k e s at. ends_low k e s at;
  few = omega (arith, is.few_nodes, is.few_sinks, wired.arms_count, wired.ends_count);
}
  where
    none : Arms
    none = record { left = None; right = None }

    of_node : (n : ℕ) (s : Bool) (x : Node) (own : Arms) → NodeReadsEarlier n x → AreArmsOf gates.nodes x own → AreBelow n (asked_by_arms own s)
    of_node n s (Not a) own reads are = rw (are.0, are.1) tt
    of_node n s (And a b) own reads are =
        below_append n (asked own.left s) (asked own.right s) (target_below gates.nodes order.nodes n a reads.0 own.left are.0 s) (target_below gates.nodes order.nodes n b reads.1 own.right are.1 s)
    of_node n s (Or a b) own reads are =
        below_append n (asked own.left s) (asked own.right s) (target_below gates.nodes order.nodes n a reads.0 own.left are.0 s) (target_below gates.nodes order.nodes n b reads.1 own.right are.1 s)

    arms_low : (n : ℕ) (s : Bool) → n < length arms → AreBelow n (asked_by_pair arms n s)
    arms_low n s lt =
        let d : Node = Not (Const true) in
        let at = slice_get-get_or gates.nodes n d (omega (arith, lt, wired.arms_count)) in
        of_node n s (get_or gates.nodes n d) (get_or arms n (record { left = None; right = None })) (order.nodes n (get_or gates.nodes n d) at)
        (wired.arms_are n (get_or gates.nodes n d) (get_or arms n (record { left = None; right = None })) at (slice_get-get_or arms n (record { left = None; right = None }) lt))

    ends_low : (k : ℕ) (e : Option SignedNode) (s : Bool) → slice_get ends k ≡ Some e → AreBelow (length arms) (asked e s)
    ends_low k e s at =
        let low = slice_get_within ends k e at in
        let sink = slice_get-get_or gates.sinks k (Const true) (omega (arith, low, wired.ends_count)) in
        subst (λ n. AreBelow n (asked e s)) (sym wired.arms_count)
        (target_below gates.nodes order.nodes (length gates.nodes) (get_or gates.sinks k (Const true)) (order.sinks k (get_or gates.sinks k (Const true)) sink) e
        (wired.ends_are k (get_or gates.sinks k (Const true)) e sink at) s)
