-- The needed pairs are what one pass over the nodes marks.
use Rattle.std.proofs.Common.{◌≡◌, ◌⊎◌, ◌↔◌, inl, inr, refl, sym, ap, subst, ◌∙◌, ℕ, zero, suc, ◌+◌, ◌≤◌, ◌<◌, Bool, true, false, not, ◌&&◌, ◌||◌, List, [], ◌∷◌, length, Option, Some, None, slice_get, eqb-true, eq-eqb, arith}
use Rattle.std.proofs.lemmas.Option.{slice_get_within}
use Rattle.std.proofs.lemmas.Bool.{and_from, cases_lt, or_left, or_right}
use Rattle.std.proofs.Math.Bool.{not-not}
use Rattle.gate_decompose.specs.declared.gates.Node.{Node}
use Rattle.gate_decompose.specs.declared.gates.Node.TheVariants.{And, Or, Not}
use Rattle.gate_decompose.specs.declared.gates.Ref.{Ref}
use Rattle.gate_decompose.specs.declared.gates.Ref.TheVariants.{Const, Leaf, Node as node_ref}
use Rattle.gate_decompose.specs.GatesData.{GatesData}
use Rattle.gate_decompose.specs.Needed.{Asked, Pair, AsksFor, constant, leaf, gate, under, IsGateNode, IsClosed, IsNeeded, signed}
use Rattle.gate_decompose.specs.GatesOrder.{AreOrderedGates, NodeReadsEarlier, ReadsEarlier}
use Rattle.gate_decompose.specs.NeededPass.{is_asked_by, is_asked_by_sinks, names_node, pass, wanted_by_pass}
use Rattle.dom_base.proofs.Bools.{and_both, or_one}

-- a set of nodes with signs holds what a reference asks for
abbrev pub HoldsRef : (ℕ → Bool → Bool) → Ref → Bool → Type 0
HoldsRef wanted (Const b) s = Unit {0}
HoldsRef wanted (Leaf k) s = Unit {0}
HoldsRef wanted (node_ref n) s = wanted n s ≡ true

-- the set holds what each sink and each of its members asks for
pub record HoldsAsked (gates : GatesData) (signs : List Bool) (wanted : ℕ → Bool → Bool) : Type 0 where
  pub sinks : (k : ℕ) (r : Ref) (sign : Bool) → slice_get gates.sinks k ≡ Some r → slice_get signs k ≡ Some sign → HoldsRef wanted r sign
  pub nots : (n : ℕ) (s : Bool) (a : Ref) → wanted n s ≡ true → slice_get gates.nodes n ≡ Some (Not a) → HoldsRef wanted a (not s)
  pub gates_left : (n : ℕ) (s : Bool) (a b : Ref) → wanted n s ≡ true → IsGateNode gates.nodes n a b → HoldsRef wanted a s
  pub gates_right : (n : ℕ) (s : Bool) (a b : Ref) → wanted n s ≡ true → IsGateNode gates.nodes n a b → HoldsRef wanted b s

-- a member is asked for by a sink, or by a member that stands behind it
abbrev pub IsAsked : GatesData → List Bool → (ℕ → Bool → Bool) → ℕ → Bool → Type 0
IsAsked gates signs wanted n s =
    ((k : ℕ) × (slice_get gates.sinks k ≡ Some (node_ref n)) × (slice_get signs k ≡ Some s))
    ⊎ ((m : ℕ) × (n < m) × (m < length gates.nodes)
    × (((wanted m (not s) ≡ true) × (slice_get gates.nodes m ≡ Some (Not (node_ref n))))
    ⊎ ((wanted m s ≡ true) × ((a : Ref) × (IsGateNode gates.nodes m (node_ref n) a ⊎ IsGateNode gates.nodes m a (node_ref n))))))

-- such a set holds a pair exactly where it is needed
module _ (gates : GatesData) (signs : List Bool) (wanted : ℕ → Bool → Bool) where
  ask_held : HoldsAsked gates signs wanted → {r : Ref} {s : Bool} {x : Asked} → AsksFor gates.nodes r s x → HoldsRef wanted r s → (n : ℕ) (t : Bool) → x ≡ Pair n t → wanted n t ≡ true
  ask_held h constant held n t e = absurd (cc)
  ask_held h leaf held n t e = absurd (cc)
  ask_held h (gate {n = m} {sign = s} is) held n t e =
      let here : m ≡ n = cc in
      let sign : s ≡ t = cc in
      subst (λ u. wanted n u ≡ true) sign (subst (λ k. wanted k s ≡ true) here held)
  ask_held h (under {n = m} {sign = s} {a = a} at more) held n t e = ask_held h more (h.nots m s a held at) n t e

  pub held_where_needed : HoldsAsked gates signs wanted → (n : ℕ) (s : Bool) → IsNeeded gates signs n s → wanted n s ≡ true
  held_where_needed h n s needed = needed wanted (record {
    sinks = λ k r sign m t e f asks. ask_held h asks (h.sinks k r sign e f) m t refl;
    left = λ m u a b k t held is asks. ask_held h asks (h.gates_left m u a b held is) k t refl;
    right = λ m u a b k t held is asks. ask_held h asks (h.gates_right m u a b held is) k t refl;
  })

  -- all that is asked for by a member is in every closed set
  module _ (supported : (n : ℕ) (s : Bool) → wanted n s ≡ true → IsAsked gates signs wanted n s) (holds : ℕ → Bool → Bool) (closed : IsClosed gates signs (λ m t. holds m t ≡ true)) where
    asked_is_in : (room n : ℕ) (s : Bool) → length gates.nodes ≤ n + room → wanted n s ≡ true → (m : ℕ) (t : Bool) → AsksFor gates.nodes (node_ref n) s (Pair m t) → holds m t ≡ true
    asked_is_in zero n s few held m t asks = by (supported n s held)
      where
        by : IsAsked gates signs wanted n s → holds m t ≡ true
        by (inl (k, e, f)) = closed.sinks k (node_ref n) s m t e f asks
        by (inr (k, low, high, more)) = absurd (omega arith)
    asked_is_in (suc room) n s few held m t asks = by (supported n s held) (λ k u le h i v x. asked_is_in room k u le h i v x)
      where
        by : IsAsked gates signs wanted n s
            → ((k : ℕ) (u : Bool) → length gates.nodes ≤ k + room → wanted k u ≡ true → (i : ℕ) (v : Bool) → AsksFor gates.nodes (node_ref k) u (Pair i v) → holds i v ≡ true) → holds m t ≡ true
        by (inl (k, e, f)) later = closed.sinks k (node_ref n) s m t e f asks
        by (inr (k, low, high, inl (h, at))) later =
            later k (not s) (omega arith) h m t (under at (subst (λ u. AsksFor gates.nodes (node_ref n) u (Pair m t)) (sym (not-not s)) asks))
        by (inr (k, low, high, inr (h, (a, inl is)))) later = closed.left k s (node_ref n) a m t (later k s (omega arith) h k s (gate is)) is asks
        by (inr (k, low, high, inr (h, (a, inr is)))) later = closed.right k s a (node_ref n) m t (later k s (omega arith) h k s (gate is)) is asks

  pub needed_where_held : ((n : ℕ) (s : Bool) → wanted n s ≡ true → IsAsked gates signs wanted n s) → (n : ℕ) (s : Bool) (a b : Ref) → IsGateNode gates.nodes n a b → wanted n s ≡ true
      → IsNeeded gates signs n s
  needed_where_held supported n s a b is held = λ holds closed. asked_is_in supported holds closed (length gates.nodes) n s (omega arith) held n s (gate is)

names-is : (n : ℕ) (r : Ref) → names_node n r ≡ true → r ≡ node_ref n
names-is n (Const b) e = absurd (cc)
names-is n (Leaf k) e = absurd (cc)
names-is n (node_ref m) e = ap node_ref (eqb-true m n e)

names-self : (n : ℕ) → names_node n (node_ref n) ≡ true
names-self n = eq-eqb n n refl

reads_lower : (n m : ℕ) (r : Ref) → ReadsEarlier n r → names_node m r ≡ true → m < n
reads_lower n m (Const b) h e = absurd (cc)
reads_lower n m (Leaf k) h e = absurd (cc)
reads_lower n m (node_ref k) h e = let same = eqb-true k m e in omega arith

-- a node is asked for by nodes behind it alone
asked_lower : (n m : ℕ) (x : Node) (wanted : Bool → Bool) (s : Bool) → NodeReadsEarlier n x → is_asked_by wanted (Some x) m s ≡ true → m < n
asked_lower n m (Not a) wanted s h e = reads_lower n m a h (and_both (wanted (not s)) (names_node m a) e).1
asked_lower n m (And a b) wanted s h e =
    elim (or_one (names_node m a) (names_node m b) (and_both (wanted s) (names_node m a || names_node m b) e).1) [ inl x ↦ reads_lower n m a h.0 x | inr x ↦ reads_lower n m b h.1 x ]
asked_lower n m (Or a b) wanted s h e =
    elim (or_one (names_node m a) (names_node m b) (and_both (wanted s) (names_node m a || names_node m b) e).1) [ inl x ↦ reads_lower n m a h.0 x | inr x ↦ reads_lower n m b h.1 x ]

-- a node that is wanted more asks for more
asked_more : (o : Option Node) (v w : Bool → Bool) (m : ℕ) (s : Bool) → ((t : Bool) → v t ≡ true → w t ≡ true) → is_asked_by v o m s ≡ true → is_asked_by w o m s ≡ true
asked_more None v w m s h e = absurd (cc)
asked_more (Some (Not a)) v w m s h e =
    let p = and_both (v (not s)) (names_node m a) e in rw (h (not s) p.0) p.1
asked_more (Some (And a b)) v w m s h e =
    let p = and_both (v s) (names_node m a || names_node m b) e in rw (h s p.0) p.1
asked_more (Some (Or a b)) v w m s h e =
    let p = and_both (v s) (names_node m a || names_node m b) e in rw (h s p.0) p.1

module _ (nodes : List Node) (order : (n : ℕ) (x : Node) → slice_get nodes n ≡ Some x → NodeReadsEarlier n x) where
  -- marks are only added, and none to the nodes behind
  pass_adds : (k : ℕ) (wanted : ℕ → Bool → Bool) (m : ℕ) (s : Bool) → wanted m s ≡ true → pass nodes wanted k m s ≡ true
  pass_adds zero wanted m s e = e
  pass_adds (suc k) wanted m s e = pass_adds k (λ n t. wanted n t || is_asked_by (wanted k) (slice_get nodes k) n t) m s (or_left (wanted m s) (is_asked_by (wanted k) (slice_get nodes k) m s) e)

  not_asked : (k m : ℕ) (wanted : ℕ → Bool → Bool) (s : Bool) → k ≤ m → is_asked_by (wanted k) (slice_get nodes k) m s ≡ true → ⊥
  not_asked k m wanted s le e = by (slice_get nodes k) refl e
    where
      by : (o : Option Node) → slice_get nodes k ≡ o → is_asked_by (wanted k) o m s ≡ true → ⊥
      by None at f = cc
      by (Some x) at f = let low = asked_lower k m x (wanted k) s (order k x at) f in omega arith

  -- the marks of a node that the pass has left behind stay
  pass_stays : (k : ℕ) (wanted : ℕ → Bool → Bool) (m : ℕ) (s : Bool) → k ≤ m → pass nodes wanted k m s ≡ true → wanted m s ≡ true
  pass_stays zero wanted m s le e = e
  pass_stays (suc k) wanted m s le e =
      elim (or_one (wanted m s) (is_asked_by (wanted k) (slice_get nodes k) m s)
      (pass_stays k (λ n t. wanted n t || is_asked_by (wanted k) (slice_get nodes k) n t) m s (omega arith) e)) [
        | inl x ↦ x
        | inr x ↦ absurd (not_asked k m wanted s (omega arith) x)
      ]

  -- a mark was there, or its node is asked for by a marked node of the first k
  pass_from : (k : ℕ) (wanted : ℕ → Bool → Bool) (m : ℕ) (s : Bool) → pass nodes wanted k m s ≡ true
      → (wanted m s ≡ true) ⊎ ((n : ℕ) × (n < k) × (is_asked_by (pass nodes wanted k n) (slice_get nodes n) m s ≡ true))
  pass_from zero wanted m s e = inl e
  pass_from (suc k) wanted m s e = by (pass_from k (λ n t. wanted n t || is_asked_by (wanted k) (slice_get nodes k) n t) m s e)
    where
      by : ((wanted m s || is_asked_by (wanted k) (slice_get nodes k) m s) ≡ true)
          ⊎ ((n : ℕ) × (n < k) × (is_asked_by (pass nodes wanted (suc k) n) (slice_get nodes n) m s ≡ true))
          → (wanted m s ≡ true) ⊎ ((n : ℕ) × (n < suc k) × (is_asked_by (pass nodes wanted (suc k) n) (slice_get nodes n) m s ≡ true))
      by (inr (n, lt, f)) = inr (n, omega arith, f)
      by (inl f) =
          elim (or_one (wanted m s) (is_asked_by (wanted k) (slice_get nodes k) m s) f) [
            | inl x ↦ inl x
            | inr x ↦ inr (k, omega arith, asked_more (slice_get nodes k) (wanted k) (pass nodes wanted (suc k) k) m s (λ t g. pass_adds (suc k) wanted k t g) x)
          ]

  -- what a marked node of the first k asks for is marked
  pass_closed : (k : ℕ) (wanted : ℕ → Bool → Bool) (n m : ℕ) (s : Bool) → n < k → is_asked_by (pass nodes wanted k n) (slice_get nodes n) m s ≡ true → pass nodes wanted k m s ≡ true
  pass_closed zero wanted n m s lt e = absurd (omega arith)
  pass_closed (suc k) wanted n m s lt e = by (cases_lt n k) (λ lower. pass_closed k (λ i t. wanted i t || is_asked_by (wanted k) (slice_get nodes k) i t) n m s lower e)
    where
      step : ℕ → Bool → Bool
      step i t = wanted i t || is_asked_by (wanted k) (slice_get nodes k) i t

      by : (n < k) ⊎ (k ≤ n) → (n < k → pass nodes wanted (suc k) m s ≡ true) → pass nodes wanted (suc k) m s ≡ true
      by (inl lower) more = more lower
      by (inr last) more =
          let same : n ≡ k = omega arith in
          let at_k : is_asked_by (pass nodes wanted (suc k) k) (slice_get nodes k) m s ≡ true = subst (λ i. is_asked_by (pass nodes wanted (suc k) i) (slice_get nodes i) m s ≡ true) same e in
          let first : is_asked_by (wanted k) (slice_get nodes k) m s ≡ true =
          asked_more (slice_get nodes k) (pass nodes wanted (suc k) k) (wanted k) m s (λ t g. pass_kept t g) at_k in
          pass_adds k (λ i t. wanted i t || is_asked_by (wanted k) (slice_get nodes k) i t) m s (or_right (wanted m s) (is_asked_by (wanted k) (slice_get nodes k) m s) first)
        where
          pass_kept : (t : Bool) → pass nodes wanted (suc k) k t ≡ true → wanted k t ≡ true
          pass_kept t g =
              elim (or_one (wanted k t) (is_asked_by (wanted k) (slice_get nodes k) k t) (pass_stays k (λ i u. wanted i u || is_asked_by (wanted k) (slice_get nodes k) i u) k t (omega arith) g)) [
                | inl x ↦ x
                | inr x ↦ absurd (not_asked k k wanted t (omega arith) x)
              ]

-- a sign and a bit go together where they are one
signed-is : (a b : Bool) → signed a b ≡ true → a ≡ b
signed-is true true e = refl
signed-is true false e = absurd (cc)
signed-is false true e = absurd (cc)
signed-is false false e = refl

signed-self : (a : Bool) → signed a a ≡ true
signed-self true = refl
signed-self false = refl

sinks_ask : (sinks : List Ref) (signs : List Bool) (n : ℕ) (s : Bool) → is_asked_by_sinks sinks signs n s ≡ true
    → (k : ℕ) × (slice_get sinks k ≡ Some (node_ref n)) × (slice_get signs k ≡ Some s)
sinks_ask [] signs n s e = absurd (cc)
sinks_ask (r ∷ sinks) [] n s e = absurd (cc)
sinks_ask (r ∷ sinks) (sign ∷ signs) n s e =
    elim (or_one (names_node n r && signed sign s) (is_asked_by_sinks sinks signs n s) e) [
      | inl x ↦ let p = and_both (names_node n r) (signed sign s) x in (0, ap Some (names-is n r p.0), ap Some (signed-is sign s p.1))
      | inr x ↦ let p = sinks_ask sinks signs n s x in (suc p.0, p.1, p.2)
    ]

asked_sink : (sinks : List Ref) (signs : List Bool) (k n : ℕ) (s : Bool) → slice_get sinks k ≡ Some (node_ref n) → slice_get signs k ≡ Some s → is_asked_by_sinks sinks signs n s ≡ true
asked_sink [] signs k n s e f = absurd (cc)
asked_sink (r ∷ sinks) [] k n s e f = absurd (cc)
asked_sink (r ∷ sinks) (sign ∷ signs) zero n s e f =
    let one : r ≡ node_ref n = cc in
    let two : sign ≡ s = cc in
    rw (one, two, names-self n, signed-self s) refl
asked_sink (r ∷ sinks) (sign ∷ signs) (suc k) n s e f = or_right (names_node n r && signed sign s) (is_asked_by_sinks sinks signs n s) (asked_sink sinks signs k n s e f)

-- the pass marks exactly the needed pairs
pub pass_is_needed : (gates : GatesData) (signs : List Bool) → AreOrderedGates gates → (n : ℕ) (s : Bool) (a b : Ref) → IsGateNode gates.nodes n a b
    → (wanted_by_pass gates signs n s ≡ true) ↔ IsNeeded gates signs n s
pass_is_needed gates signs order n s a b is = (needed_where_held gates signs wanted supported n s a b is, held_where_needed gates signs wanted held n s)
  where
    wanted : ℕ → Bool → Bool
    wanted = wanted_by_pass gates signs

    start : ℕ → Bool → Bool
    start = is_asked_by_sinks gates.sinks signs

    supported : (m : ℕ) (t : Bool) → wanted m t ≡ true → IsAsked gates signs wanted m t
    supported m t e = by (pass_from gates.nodes order.nodes (length gates.nodes) start m t e)
      where
        node_case : (k : ℕ) → k < length gates.nodes → (x : Node) → slice_get gates.nodes k ≡ Some x → is_asked_by (wanted k) (Some x) m t ≡ true → IsAsked gates signs wanted m t
        node_case k lt (Not c) at f =
            let p = and_both (wanted k (not t)) (names_node m c) f in
            inr (k, asked_lower k m (Not c) (wanted k) t (order.nodes k (Not c) at) f, lt, inl (p.0, at ∙ ap (λ r. Some (Not r)) (names-is m c p.1)))
        node_case k lt (And c d) at f =
            let p = and_both (wanted k t) (names_node m c || names_node m d) f in
            inr (
              k,
              asked_lower k m (And c d) (wanted k) t (order.nodes k (And c d) at) f,
              lt,
              inr (
                p.0,
                elim (or_one (names_node m c) (names_node m d) p.1) [
                  | inl x ↦ (d, inl (inl (at ∙ ap (λ r. Some (And r d)) (names-is m c x))))
                  | inr x ↦ (c, inr (inl (at ∙ ap (λ r. Some (And c r)) (names-is m d x))))
                ],
              ),
            )
        node_case k lt (Or c d) at f =
            let p = and_both (wanted k t) (names_node m c || names_node m d) f in
            inr (
              k,
              asked_lower k m (Or c d) (wanted k) t (order.nodes k (Or c d) at) f,
              lt,
              inr (
                p.0,
                elim (or_one (names_node m c) (names_node m d) p.1) [
                  | inl x ↦ (d, inl (inr (at ∙ ap (λ r. Some (Or r d)) (names-is m c x))))
                  | inr x ↦ (c, inr (inr (at ∙ ap (λ r. Some (Or c r)) (names-is m d x))))
                ],
              ),
            )

        here : (k : ℕ) → k < length gates.nodes → (o : Option Node) → slice_get gates.nodes k ≡ o → is_asked_by (wanted k) o m t ≡ true → IsAsked gates signs wanted m t
        here k lt None at f = absurd (cc)
        here k lt (Some x) at f = node_case k lt x at f

        by : (start m t ≡ true) ⊎ ((k : ℕ) × (k < length gates.nodes) × (is_asked_by (wanted k) (slice_get gates.nodes k) m t ≡ true)) → IsAsked gates signs wanted m t
        by (inl f) = let p = sinks_ask gates.sinks signs m t f in inl (p.0, p.1, p.2)
        by (inr (k, lt, f)) = here k lt (slice_get gates.nodes k) refl f

    closed_at : (k m : ℕ) (t : Bool) (x : Node) → slice_get gates.nodes k ≡ Some x → is_asked_by (wanted k) (Some x) m t ≡ true → wanted m t ≡ true
    closed_at k m t x at f = pass_closed gates.nodes order.nodes (length gates.nodes) start k m t (slice_get_within gates.nodes k x at) (rw at f)

    held : HoldsAsked gates signs wanted
    held = record {
      sinks = sinks;
      nots = nots;
      gates_left = left;
      gates_right = right;
    }
      where
        sinks : (k : ℕ) (r : Ref) (sign : Bool) → slice_get gates.sinks k ≡ Some r → slice_get signs k ≡ Some sign → HoldsRef wanted r sign
        sinks k (Const c) sign e f = tt
        sinks k (Leaf c) sign e f = tt
        sinks k (node_ref m) sign e f = pass_adds gates.nodes order.nodes (length gates.nodes) start m sign (asked_sink gates.sinks signs k m sign e f)

        nots : (k : ℕ) (t : Bool) (r : Ref) → wanted k t ≡ true → slice_get gates.nodes k ≡ Some (Not r) → HoldsRef wanted r (not t)
        nots k t (Const c) e at = tt
        nots k t (Leaf c) e at = tt
        nots k t (node_ref m) e at =
            closed_at k m (not t) (Not (node_ref m)) at (and_from (wanted k (not (not t))) (names_node m (node_ref m)) (subst (λ u. wanted k u ≡ true) (sym (not-not t)) e) (names-self m))

        left : (k : ℕ) (t : Bool) (r q : Ref) → wanted k t ≡ true → IsGateNode gates.nodes k r q → HoldsRef wanted r t
        left k t (Const c) q e at = tt
        left k t (Leaf c) q e at = tt
        left k t (node_ref m) q e (inl at) =
            closed_at k m t (And (node_ref m) q) at (and_from (wanted k t) (names_node m (node_ref m) || names_node m q) e (or_left (names_node m (node_ref m)) (names_node m q) (names-self m)))
        left k t (node_ref m) q e (inr at) =
            closed_at k m t (Or (node_ref m) q) at (and_from (wanted k t) (names_node m (node_ref m) || names_node m q) e (or_left (names_node m (node_ref m)) (names_node m q) (names-self m)))

        right : (k : ℕ) (t : Bool) (q r : Ref) → wanted k t ≡ true → IsGateNode gates.nodes k q r → HoldsRef wanted r t
        right k t q (Const c) e at = tt
        right k t q (Leaf c) e at = tt
        right k t q (node_ref m) e (inl at) =
            closed_at k m t (And q (node_ref m)) at (and_from (wanted k t) (names_node m q || names_node m (node_ref m)) e (or_right (names_node m q) (names_node m (node_ref m)) (names-self m)))
        right k t q (node_ref m) e (inr at) =
            closed_at k m t (Or q (node_ref m)) at (and_from (wanted k t) (names_node m q || names_node m (node_ref m)) e (or_right (names_node m q) (names_node m (node_ref m)) (names-self m)))
