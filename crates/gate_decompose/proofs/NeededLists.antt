-- There is one list of the needed pairs in order.
use Rattle.std.proofs.Common.{◌≡◌, inl, inr, refl, sym, ap, subst, ◌∙◌, ℕ, zero, suc, ◌+◌, ◌≤◌, ◌<◌, Bool, true, false, cond, List, [], ◌∷◌, length, flat_map, Option, Some, None, slice_get, Contains, arith}
use Rattle.std.specs.List.{range_with_len}
use Rattle.std.proofs.lemmas.Option.{slice_get_within}
use Rattle.gate_decompose.specs.declared.gates.Node.{Node}
use Rattle.gate_decompose.specs.declared.gates.Node.TheVariants.{And, Or, Not}
use Rattle.gate_decompose.specs.declared.gates.Ref.{Ref}
use Rattle.gate_decompose.specs.GatesData.{GatesData}
use Rattle.gate_decompose.specs.Needed.{Asked, Pair, AsksFor, constant, leaf, gate, under, IsGateNode, IsNeeded, Precedes, AreNeeded, HasSize}
use Rattle.gate_decompose.specs.GatesOrder.{AreOrderedGates}
use Rattle.gate_decompose.specs.NeededPass.{is_gate, is_marked_gate, marked_pairs, pairs_from, signs_at, wanted_by_pass}
use Rattle.gate_decompose.specs.Items.{Among, Rises}
use Rattle.gate_decompose.proofs.Among.{among_right, among_either, among_flat, among_flattened, among_range, among_ranged, contains-among, among-contains}
use Rattle.gate_decompose.proofs.NeededSets.{pass_is_needed}
use Rattle.gate_decompose.proofs.Rising.{rises_append, rises_at, rises_of, rising_one}
use Rattle.dom_base.proofs.Bools.{and_both}

precedes_once : (p q : ℕ × Bool) → Precedes p q → Precedes q p → ⊥
precedes_once p q (inl a) (inl b) = omega arith
precedes_once p q (inl a) (inr b) = omega (arith, b.0)
precedes_once p q (inr a) (inl b) = omega (arith, a.0)
precedes_once p q (inr a) (inr b) = let x = a.1 in let y = b.2 in cc

-- two lists of the needed pairs are one
pub needed_one : (gates : GatesData) (signs : List Bool) (xs ys : List (ℕ × Bool)) → AreNeeded gates signs xs → AreNeeded gates signs ys → xs ≡ ys
needed_one gates signs xs ys a b =
    rising_one Precedes precedes_once xs ys (rises_of Precedes xs a.in_order) (rises_of Precedes ys b.in_order)
    (λ p at. contains-among ys p ((b.needed p.0 p.1).1 ((a.needed p.0 p.1).0 (among-contains xs p at))))
    (λ p at. contains-among xs p ((a.needed p.0 p.1).1 ((b.needed p.0 p.1).0 (among-contains ys p at))))

pub size_one : (gates : GatesData) (signs : List Bool) (m n : ℕ) → HasSize gates signs m → HasSize gates signs n → m ≡ n
size_one gates signs m n (xs, a, e) (ys, b, f) = sym e ∙ ap length (needed_one gates signs xs ys a b) ∙ f

pub gate_is : (nodes : List Node) (n : ℕ) (a b : Ref) → IsGateNode nodes n a b → is_gate (slice_get nodes n) ≡ true
gate_is nodes n a b (inl e) = rw e refl
gate_is nodes n a b (inr e) = rw e refl

pub gate_parts : (nodes : List Node) (n : ℕ) → is_gate (slice_get nodes n) ≡ true → (a : Ref) × (b : Ref) × IsGateNode nodes n a b
gate_parts nodes n e = by (slice_get nodes n) refl e
  where
    by : (o : Option Node) → slice_get nodes n ≡ o → is_gate o ≡ true → (a : Ref) × (b : Ref) × IsGateNode nodes n a b
    by None at f = absurd (cc)
    by (Some (Not a)) at f = absurd (cc)
    by (Some (And a b)) at f = (a, b, inl at)
    by (Some (Or a b)) at f = (a, b, inr at)

asked_gate : (nodes : List Node) {r : Ref} {s : Bool} {x : Asked} → AsksFor nodes r s x → (n : ℕ) (t : Bool) → x ≡ Pair n t → is_gate (slice_get nodes n) ≡ true
asked_gate nodes constant n t e = absurd (cc)
asked_gate nodes leaf n t e = absurd (cc)
asked_gate nodes (gate {n = m} {sign = s} {a = a} {b = b} is) n t e = let here : m ≡ n = cc in subst (λ k. is_gate (slice_get nodes k) ≡ true) here (gate_is nodes m a b is)
asked_gate nodes (under at more) n t e = asked_gate nodes more n t e

-- only gates are needed
pub needed_gate : (gates : GatesData) (signs : List Bool) (n : ℕ) (s : Bool) → IsNeeded gates signs n s → is_gate (slice_get gates.nodes n) ≡ true
needed_gate gates signs n s needed = needed (λ m t. is_gate (slice_get gates.nodes m)) (record {
  sinks = λ k r sign m t e f asks. asked_gate gates.nodes asks m t refl;
  left = λ k t a b m u h is asks. asked_gate gates.nodes asks m u refl;
  right = λ k t a b m u h is asks. asked_gate gates.nodes asks m u refl;
})

one_if : {X : Type 0} (b : Bool) (x y : X) → Among y (cond b (x ∷ []) []) → (b ≡ true) × (x ≡ y)
one_if true x y (inl e) = (refl, e)
one_if true x y (inr at) = absurd at
one_if false x y at = absurd at

among_signs : (test : ℕ → Bool → Bool) (n : ℕ) (p : ℕ × Bool) → Among p (signs_at test n) → (p.0 ≡ n) × (test n p.1 ≡ true)
among_signs test n p at =
    elim (among_either p (cond (test n true) ((n, true) ∷ []) []) (cond (test n false) ((n, false) ∷ []) []) at) [
      | inl x ↦ let f = one_if (test n true) (n, true) p x in (ap (λ (q : ℕ × Bool). q.0) (sym f.1), subst (λ (q : ℕ × Bool). test n q.1 ≡ true) f.1 f.0)
      | inr x ↦ let f = one_if (test n false) (n, false) p x in (ap (λ (q : ℕ × Bool). q.0) (sym f.1), subst (λ (q : ℕ × Bool). test n q.1 ≡ true) f.1 f.0)
    ]

signs_among : (test : ℕ → Bool → Bool) (n : ℕ) (s : Bool) → test n s ≡ true → Among (n, s) (signs_at test n)
signs_among test n true e = rw e (inl refl)
signs_among test n false e = among_right (n, false) (cond (test n true) ((n, true) ∷ []) []) (cond (test n false) ((n, false) ∷ []) []) (rw e (inl refl))

rises_signs : (test : ℕ → Bool → Bool) (n : ℕ) → Rises Precedes (signs_at test n)
rises_signs test n = rises_append Precedes (cond (test n true) ((n, true) ∷ []) []) (cond (test n false) ((n, false) ∷ []) []) (few (test n true) (n, true)) (few (test n false) (n, false)) between
  where
    few : (b : Bool) (p : ℕ × Bool) → Rises Precedes (cond b (p ∷ []) [])
    few true p = ((λ y at. absurd at), tt)
    few false p = tt

    between : (x y : ℕ × Bool) → Among x (cond (test n true) ((n, true) ∷ []) []) → Among y (cond (test n false) ((n, false) ∷ []) []) → Precedes x y
    between x y p q =
        let a = one_if (test n true) (n, true) x p in
        let b = one_if (test n false) (n, false) y q in
        inr (ap (λ (u : ℕ × Bool). u.0) (sym a.1 ∙ refl) ∙ ap (λ (u : ℕ × Bool). u.0) b.1, ap (λ (u : ℕ × Bool). u.1) (sym a.1), ap (λ (u : ℕ × Bool). u.1) (sym b.1))

among_pairs : (test : ℕ → Bool → Bool) (a n : ℕ) (p : ℕ × Bool) → Among p (pairs_from test a n) → (a ≤ p.0) × (p.0 < a + n) × (test p.0 p.1 ≡ true)
among_pairs test a n p at =
    let r = among_flattened (signs_at test) p (range_with_len a n) at in
    let f = among_signs test r.0 p r.2 in
    let low = among_ranged r.0 a n r.1 in
    (omega (arith, f.0, low.0), omega (arith, f.0, low.1), subst (λ m. test m p.1 ≡ true) (sym f.0) f.1)

rises_pairs : (test : ℕ → Bool → Bool) (a n : ℕ) → Rises Precedes (pairs_from test a n)
rises_pairs test a zero = tt
rises_pairs test a (suc n) =
    rises_append Precedes (signs_at test a) (flat_map (signs_at test) (range_with_len (a + 1) n)) (rises_signs test a) (rises_pairs test (a + 1) n)
    (λ x y p q. inl (let f = among_signs test a x p in let g = among_pairs test (a + 1) n y q in omega (arith, f.0, g.0)))

-- the pairs of the nodes that the pass marks
pub marked_pairs_are_needed : (gates : GatesData) (signs : List Bool) (marks : ℕ → Bool → Bool) → AreOrderedGates gates → ((n : ℕ) (s : Bool) → marks n s ≡ wanted_by_pass gates signs n s)
    → AreNeeded gates signs (marked_pairs gates.nodes marks)
marked_pairs_are_needed gates signs marks order same = record {
  in_order = λ i j d lt high. rises_at Precedes (pairs_from test 0 (length gates.nodes)) (rises_pairs test 0 (length gates.nodes)) i j d lt high;
  needed = λ n s. (to n s, from n s);
}
  where
    test : ℕ → Bool → Bool
    test = is_marked_gate gates.nodes marks

    to : (n : ℕ) (s : Bool) → Contains (pairs_from test 0 (length gates.nodes)) (n, s) → IsNeeded gates signs n s
    to n s at =
        let f = among_pairs test 0 (length gates.nodes) (n, s) (contains-among (pairs_from test 0 (length gates.nodes)) (n, s) at) in
        let g = and_both (is_gate (slice_get gates.nodes n)) (marks n s) f.2 in
        let parts = gate_parts gates.nodes n g.0 in
        (pass_is_needed gates signs order n s parts.0 parts.1 parts.2).0 (sym (same n s) ∙ g.1)

    from : (n : ℕ) (s : Bool) → IsNeeded gates signs n s → Contains (pairs_from test 0 (length gates.nodes)) (n, s)
    from n s needed =
        let g = needed_gate gates signs n s needed in
        let parts = gate_parts gates.nodes n g in
        let marked = same n s ∙ (pass_is_needed gates signs order n s parts.0 parts.1 parts.2).1 needed in
        among-contains (pairs_from test 0 (length gates.nodes)) (n, s)
        (among_flat (signs_at test) n (n, s) (range_with_len 0 (length gates.nodes)) (among_range n 0 (length gates.nodes) (omega arith) (within n parts.0 parts.1 parts.2))
        (signs_among test n s (rw (g, marked) refl)))
      where
        within : (k : ℕ) (a b : Ref) → IsGateNode gates.nodes k a b → k < 0 + length gates.nodes
        within k a b (inl e) = let lt = slice_get_within gates.nodes k (And a b) e in omega arith
        within k a b (inr e) = let lt = slice_get_within gates.nodes k (Or a b) e in omega arith

-- there is a list of the needed pairs
pub needed_there : (gates : GatesData) (signs : List Bool) → AreOrderedGates gates → (xs : List (ℕ × Bool)) × AreNeeded gates signs xs
needed_there gates signs order = (marked_pairs gates.nodes (wanted_by_pass gates signs), marked_pairs_are_needed gates signs (wanted_by_pass gates signs) order (λ n s. refl))
