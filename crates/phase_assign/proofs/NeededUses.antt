-- Pairs that are used are the needed ones, where all uses are counted; and needed ones, where some are.
use Rattle.std.proofs.Common.{◌≡◌, inl, inr, refl, sym, ap, ap₂, subst, ◌∙◌, ℕ, zero, suc, ◌+◌, ◌≤◌, ◌<◌, Bool, true, false, cond, List, [], ◌∷◌, ◌++◌, length, length-append, Option, Some, None, slice_get, get_or, arith}
use Rattle.std.proofs.lemmas.Option.{same_Some, slice_get_within, slice_get-get_or}
use Rattle.dom_base.proofs.Bools.{and_both, same_truth}
use Rattle.gate_decompose.specs.declared.gates.Node.TheVariants.{And, Or}
use Rattle.gate_decompose.specs.declared.gates.Ref.{Ref}
use Rattle.gate_decompose.specs.declared.gates.Ref.TheVariants.{Const}
use Rattle.gate_decompose.specs.GatesData.{GatesData}
use Rattle.gate_decompose.specs.GatesOrder.{AreOrderedGates}
use Rattle.gate_decompose.specs.Needed.{AsksFor, HasSize, IsClosed, IsGateNode, IsNeeded, Pair as asked_pair}
use Rattle.gate_decompose.specs.NeededPass.{is_gate, is_marked_gate, marked_pairs, pairs_from, signs_at, wanted_by_pass}
use Rattle.gate_decompose.proofs.NeededLists.{gate_parts, marked_pairs_are_needed, needed_gate, size_one}
use Rattle.gate_decompose.proofs.NeededSets.{pass_is_needed}
use Rattle.phase_assign.specs.Uses.{AreUses, asked, asked_by_pair, asked_by_sinks, is_live, living, one_if, times, total, uses_by_pairs}
use Rattle.phase_assign.specs.Wiring.{AreWired, IsAskedBy, IsWiring}
use Rattle.phase_assign.specs.ArmsData.{ArmsData as Arms}
use Rattle.dual_rail.specs.declared.signed.SignedNode.{SignedNode}
use Rattle.phase_assign.proofs.Totals.{some_true, times-append, times_below, total_at, total_le, total_some, true_some}

-- the pairs of marked nodes, counted
marked_length : (test : ℕ → Bool → Bool) (a n : ℕ) → length (pairs_from test a n) ≡ total (λ m t. one_if (test m t)) a n
marked_length test a zero = refl
marked_length test a (suc n) =
    let r = marked_length test (a + 1) n in
    let first = own (test a true) (test a false) in
    let split : length (pairs_from test a (suc n)) ≡ length (signs_at test a) + length (pairs_from test (a + 1) n) = length-append (signs_at test a) (pairs_from test (a + 1) n) in
    omega arith
  where
    own : (x y : Bool) → length {A = ℕ × Bool} (cond x ((a, true) ∷ []) [] ++ cond y ((a, false) ∷ []) []) ≡ one_if x + one_if y
    own true true = refl
    own true false = refl
    own false true = refl
    own false false = refl

one_le : (a b : Bool) → (a ≡ true → b ≡ true) → one_if a ≤ one_if b
one_le true b h = let e : one_if b ≡ 1 = ap one_if (h refl) in omega arith
one_le false true h = omega arith
one_le false false h = omega arith

-- what sinks ask for
sinks_some : (ends : List (Option SignedNode)) (signs : List Bool) (n : ℕ) (s : Bool) → 0 < times n s (asked_by_sinks ends signs)
    → (k : ℕ) × (e : Option SignedNode) × (b : Bool) × (slice_get ends k ≡ Some e) × (slice_get signs k ≡ Some b) × (0 < times n s (asked e b))
sinks_some [] signs n s lt = absurd (omega arith)
sinks_some (e ∷ ends) [] n s lt = absurd (omega arith)
sinks_some (e ∷ ends) (b ∷ signs) n s lt = by (times n s (asked e b)) refl (λ some. sinks_some ends signs n s some)
  where
    by : (x : ℕ) → times n s (asked e b) ≡ x → (0 < times n s (asked_by_sinks ends signs) → (k : ℕ) × (d : Option SignedNode) × (c : Bool) × (slice_get ends k ≡ Some d) × (slice_get signs k ≡ Some c) × (0 < times n s (asked d c)))
        → (k : ℕ) × (d : Option SignedNode) × (c : Bool) × (slice_get (e ∷ ends) k ≡ Some d) × (slice_get (b ∷ signs) k ≡ Some c) × (0 < times n s (asked d c))
    by (suc x) is more = (0, e, b, refl, refl, omega arith)
    by zero is more = let split = times-append n s (asked e b) (asked_by_sinks ends signs) in let r = more (omega arith) in (suc r.0, r.1, r.2, r.3, r.4, r.5)

sink_within : (ends : List (Option SignedNode)) (signs : List Bool) (k : ℕ) (e : Option SignedNode) (b : Bool) (n : ℕ) (s : Bool) → slice_get ends k ≡ Some e → slice_get signs k ≡ Some b
    → times n s (asked e b) ≤ times n s (asked_by_sinks ends signs)
sink_within [] signs k e b n s at at' = absurd (cc)
sink_within (d ∷ ends) [] k e b n s at at' = absurd (cc)
sink_within (d ∷ ends) (c ∷ signs) zero e b n s at at' =
    let one : times n s (asked d c) ≡ times n s (asked e b) = ap₂ (λ o t. times n s (asked o t)) (same_Some d e at) (same_Some c b at') in
    let split = times-append n s (asked d c) (asked_by_sinks ends signs) in
    omega arith
sink_within (d ∷ ends) (c ∷ signs) (suc k) e b n s at at' =
    let r = sink_within ends signs k e b n s at at' in
    let split = times-append n s (asked d c) (asked_by_sinks ends signs) in
    omega arith

module _ (gates : GatesData) (order : AreOrderedGates gates) (arms : List Arms) (ends : List (Option SignedNode)) (wiring : IsWiring arms ends) (wired : AreWired gates arms ends) where
  abbrev own_arms : ℕ → Arms
  own_arms n = get_or arms n (record { left = None; right = None })

  parts_of : (n : ℕ) (a b : Ref) → IsGateNode gates.nodes n a b → (n < length arms) × IsAskedBy gates.nodes a (own_arms n).left × IsAskedBy gates.nodes b (own_arms n).right
  parts_of n a b (inl e) =
      let within = slice_get_within gates.nodes n (And a b) e in
      let lt : n < length arms = omega (arith, within, wired.arms_count) in
      let are = wired.arms_are n (And a b) (get_or arms n (record { left = None; right = None })) e (slice_get-get_or arms n (record { left = None; right = None }) lt) in
      (lt, are.0, are.1)
  parts_of n a b (inr e) =
      let within = slice_get_within gates.nodes n (Or a b) e in
      let lt : n < length arms = omega (arith, within, wired.arms_count) in
      let are = wired.arms_are n (Or a b) (get_or arms n (record { left = None; right = None })) e (slice_get-get_or arms n (record { left = None; right = None }) lt) in
      (lt, are.0, are.1)

  module _ (signs : List Bool) (count : ℕ → Bool → ℕ) where
    -- what a sink asks for is needed
    by_sinks : (n : ℕ) (s : Bool) → 0 < times n s (asked_by_sinks ends signs) → IsNeeded gates signs n s
    by_sinks n s lt = λ holds closed.
        let (k, e, b, at, at', some) = sinks_some ends signs n s lt in
        let low = slice_get_within ends k e at in
        let sink = slice_get-get_or gates.sinks k (Const true) (omega (arith, low, wired.ends_count)) in
        closed.sinks k (get_or gates.sinks k (Const true)) b n s sink at' ((wired.ends_are k (get_or gates.sinks k (Const true)) e sink at).only b n s some)

    -- and what a needed pair's arms ask for
    by_arms : (m : ℕ) (t : Bool) (n : ℕ) (s : Bool) → IsNeeded gates signs m t → 0 < times n s (asked_by_pair arms m t) → IsNeeded gates signs n s
    by_arms m t n s needed lt = λ holds closed.
        let (a, b, is) = gate_parts gates.nodes m (needed_gate gates signs m t needed) in
        let parts = parts_of m a b is in
        let own : Arms = get_or arms m (record { left = None; right = None }) in
        by holds closed a b is parts.1 parts.2 (times n s (asked own.left t)) refl (times-append n s (asked own.left t) (asked own.right t))
      where
        by : (holds : ℕ → Bool → Bool) → IsClosed gates signs (λ k u. holds k u ≡ true) → (a b : Ref) → IsGateNode gates.nodes m a b
            → IsAskedBy gates.nodes a (own_arms m).left → IsAskedBy gates.nodes b (own_arms m).right → (x : ℕ) → times n s (asked (own_arms m).left t) ≡ x
            → times n s (asked_by_pair arms m t) ≡ times n s (asked (own_arms m).left t) + times n s (asked (own_arms m).right t) → holds n s ≡ true
        by holds closed a b is left right (suc x) e split = closed.left m t a b n s (needed holds closed) is (left.only t n s (omega arith))
        by holds closed a b is left right zero e split = closed.right m t a b n s (needed holds closed) is (right.only t n s (omega arith))

    cond_some : (b : Bool) (x : ℕ) → 0 < cond b x 0 → (b ≡ true) × (0 < x)
    cond_some true x lt = (refl, lt)
    cond_some false x lt = absurd (omega arith)

    -- a pair that is used is needed
    sound : (uncounted : List SignedNode) → AreUses arms count (asked_by_sinks ends signs) uncounted [] → (room n : ℕ) (s : Bool) → length arms ≤ n + room → 0 < count n s → IsNeeded gates signs n s
    sound uncounted u zero n s le some = by (times n s (asked_by_sinks ends signs)) refl (u.each n s)
      where
        by : (x : ℕ) → times n s (asked_by_sinks ends signs) ≡ x → count n s + times n s uncounted ≡ uses_by_pairs arms count n s + times n s (asked_by_sinks ends signs) + times n s [] → IsNeeded gates signs n s
        by (suc x) e each = by_sinks n s (omega arith)
        by zero e each =
            let (m, t, lt, pos) = total_some (λ m t. cond (is_live count m t) (times n s (asked_by_pair arms m t)) 0) 0 (length arms) (omega arith) in
            let used = cond_some (is_live count m t) (times n s (asked_by_pair arms m t)) pos in
            let low = times_below m n s (asked_by_pair arms m t) (wiring.arms_below m t (omega (arith, lt))) used.1 in
            absurd (omega (arith, lt, low, le))
    sound uncounted u (suc room) n s le some = by (times n s (asked_by_sinks ends signs)) refl (u.each n s) (λ m t high pos. sound uncounted u room m t high pos)
      where
        by : (x : ℕ) → times n s (asked_by_sinks ends signs) ≡ x → count n s + times n s uncounted ≡ uses_by_pairs arms count n s + times n s (asked_by_sinks ends signs) + times n s []
            → ((m : ℕ) (t : Bool) → length arms ≤ m + room → 0 < count m t → IsNeeded gates signs m t) → IsNeeded gates signs n s
        by (suc x) e each more = by_sinks n s (omega arith)
        by zero e each more =
            let (m, t, lt, pos) = total_some (λ m t. cond (is_live count m t) (times n s (asked_by_pair arms m t)) 0) 0 (length arms) (omega arith) in
            let used = cond_some (is_live count m t) (times n s (asked_by_pair arms m t)) pos in
            let low = times_below m n s (asked_by_pair arms m t) (wiring.arms_below m t (omega (arith, lt))) used.1 in
            by_arms m t n s (more m t (omega (arith, low, le)) (true_some (count m t) used.0)) used.1

    live_needed : (uncounted : List SignedNode) → AreUses arms count (asked_by_sinks ends signs) uncounted [] → (n : ℕ) (s : Bool) → is_live count n s ≡ true → IsNeeded gates signs n s
    live_needed uncounted u n s e = sound uncounted u (length arms) n s (omega arith) (true_some (count n s) e)

    -- a needed pair is used
    closed : AreUses arms count (asked_by_sinks ends signs) [] [] → IsClosed gates signs (λ m t. is_live count m t ≡ true)
    closed u = record {
      sinks = λ k r b n s at at' asks. of_sink k r b n s at at' asks (u.each n s);
      left = λ m t a b n s live is asks. of_left m t a b n s live is asks (u.each n s);
      right = λ m t a b n s live is asks. of_right m t a b n s live is asks (u.each n s);
    }
      where
        of_sink : (k : ℕ) (r : Ref) (b : Bool) (n : ℕ) (s : Bool) → slice_get gates.sinks k ≡ Some r → slice_get signs k ≡ Some b → AsksFor gates.nodes r b (asked_pair n s)
            → count n s + times n s [] ≡ uses_by_pairs arms count n s + times n s (asked_by_sinks ends signs) + times n s [] → is_live count n s ≡ true
        of_sink k r b n s at at' asks each =
            let low = slice_get_within gates.sinks k r at in
            let e : Option SignedNode = get_or ends k None in
            let end = slice_get-get_or ends k None (omega (arith, low, wired.ends_count)) in
            let some = (wired.ends_are k r e at end).all b n s asks in
            let within = sink_within ends signs k e b n s end at' in
            some_true (count n s) (omega arith)

        of_arms : (m : ℕ) (t : Bool) (n : ℕ) (s : Bool) → is_live count m t ≡ true → m < length arms → 0 < times n s (asked_by_pair arms m t)
            → count n s + times n s [] ≡ uses_by_pairs arms count n s + times n s (asked_by_sinks ends signs) + times n s [] → is_live count n s ≡ true
        of_arms m t n s live lt some each =
            let high : cond (is_live count m t) (times n s (asked_by_pair arms m t)) 0 ≤ uses_by_pairs arms count n s =
            total_at (λ k u. cond (is_live count k u) (times n s (asked_by_pair arms k u)) 0) m t 0 (length arms) (omega arith) (omega arith) in
            let here : cond (is_live count m t) (times n s (asked_by_pair arms m t)) 0 ≡ times n s (asked_by_pair arms m t) = ap (λ b. cond b (times n s (asked_by_pair arms m t)) 0) live in
            some_true (count n s) (omega arith)

        of_left : (m : ℕ) (t : Bool) (a b : Ref) (n : ℕ) (s : Bool) → is_live count m t ≡ true → IsGateNode gates.nodes m a b → AsksFor gates.nodes a t (asked_pair n s)
            → count n s + times n s [] ≡ uses_by_pairs arms count n s + times n s (asked_by_sinks ends signs) + times n s [] → is_live count n s ≡ true
        of_left m t a b n s live is asks each =
            let parts = parts_of m a b is in
            let own : Arms = get_or arms m (record { left = None; right = None }) in
            let split : times n s (asked_by_pair arms m t) ≡ times n s (asked own.left t) + times n s (asked own.right t) = times-append n s (asked own.left t) (asked own.right t) in
            let some : 0 < times n s (asked own.left t) = parts.1.all t n s asks in
            of_arms m t n s live parts.0 (omega arith) each

        of_right : (m : ℕ) (t : Bool) (a b : Ref) (n : ℕ) (s : Bool) → is_live count m t ≡ true → IsGateNode gates.nodes m a b → AsksFor gates.nodes b t (asked_pair n s)
            → count n s + times n s [] ≡ uses_by_pairs arms count n s + times n s (asked_by_sinks ends signs) + times n s [] → is_live count n s ≡ true
        of_right m t a b n s live is asks each =
            let parts = parts_of m a b is in
            let own : Arms = get_or arms m (record { left = None; right = None }) in
            let split : times n s (asked_by_pair arms m t) ≡ times n s (asked own.left t) + times n s (asked own.right t) = times-append n s (asked own.left t) (asked own.right t) in
            let some : 0 < times n s (asked own.right t) = parts.2.all t n s asks in
            of_arms m t n s live parts.0 (omega arith) each

    marked : ℕ → Bool → Bool
    marked = is_marked_gate gates.nodes (wanted_by_pass gates signs)

    live_marked : (uncounted : List SignedNode) → AreUses arms count (asked_by_sinks ends signs) uncounted [] → (n : ℕ) (s : Bool) → is_live count n s ≡ true → marked n s ≡ true
    unfolding marked
    live_marked uncounted u n s e =
        let needed = live_needed uncounted u n s e in
        let g = needed_gate gates signs n s needed in
        let parts = gate_parts gates.nodes n g in
        let wanted = (pass_is_needed gates signs order n s parts.0 parts.1 parts.2).1 needed in
        rw (g, wanted) refl

    marked_live : AreUses arms count (asked_by_sinks ends signs) [] [] → (n : ℕ) (s : Bool) → marked n s ≡ true → is_live count n s ≡ true
    unfolding marked
    marked_live u n s e =
        let both = and_both (is_gate (slice_get gates.nodes n)) (wanted_by_pass gates signs n s) e in
        let parts = gate_parts gates.nodes n both.0 in
        (pass_is_needed gates signs order n s parts.0 parts.1 parts.2).0 both.1 (is_live count) (closed u)

    all_size : HasSize gates signs (total (λ m t. one_if (marked m t)) 0 (length gates.nodes))
    unfolding marked
    all_size = (
      marked_pairs gates.nodes (wanted_by_pass gates signs),
      marked_pairs_are_needed gates signs (wanted_by_pass gates signs) order (λ n s. refl),
      marked_length (is_marked_gate gates.nodes (wanted_by_pass gates signs)) 0 (length gates.nodes),
    )

    -- where all uses are counted, the pairs that are used are as many as the needed ones
    pub uses_size : AreUses arms count (asked_by_sinks ends signs) [] [] → HasSize gates signs (living count (length arms))
    uses_size u =
        let same : living count (length arms) ≡ total (λ m t. one_if (marked m t)) 0 (length gates.nodes) =
        ap (λ n. total (λ m t. one_if (is_live count m t)) 0 n) wired.arms_count
        ∙ ap (λ (f : ℕ → Bool → Bool). total (λ m t. one_if (f m t)) 0 (length gates.nodes)) (λ i m t. same_truth (is_live count m t) (marked m t) (live_marked [] u m t) (marked_live u m t) i) in
        subst (HasSize gates signs) (sym same) all_size

    -- where some are, they are no more
    pub uses_within : (uncounted : List SignedNode) → AreUses arms count (asked_by_sinks ends signs) uncounted [] → (size : ℕ) → HasSize gates signs size → living count (length arms) ≤ size
    uses_within uncounted u size has =
        let one = size_one gates signs size (total (λ m t. one_if (marked m t)) 0 (length gates.nodes)) has all_size in
        let low = total_le (λ m t. one_if (is_live count m t)) (λ m t. one_if (marked m t)) (λ m t. one_le (is_live count m t) (marked m t) (live_marked uncounted u m t)) 0 (length gates.nodes) in
        let same : living count (length arms) ≡ living count (length gates.nodes) = ap (living count) wired.arms_count in
        omega arith
