-- The chosen signs are settled, need no more pairs than all plus, and are one.
use Rattle.std.proofs.Common.{◌≡◌, ◌≢◌, ◌⊎◌, inl, inr, refl, sym, ap, subst, ◌∙◌, ℕ, zero, suc, ◌+◌, ◌≤◌, ◌<◌, Bool, true, false, not, cond, nat_lt, List, [], ◌∷◌, length, map, replicate, Some, slice_get, get_or, length-set, add-one, ltb-true, ltb-false, arith}
use Rattle.std.specs.List.{range_with_len}
use Rattle.std.proofs.lemmas.Bool.{cases_eq, cases_lt}
use Rattle.std.proofs.lemmas.List.{length-replicate}
use Rattle.std.proofs.lemmas.List.FromFn.{length-map-range_with_len, get_or-map-range_with_len}
use Rattle.std.proofs.lemmas.Option.{slice_get_within, slice_get-get_or, same_Some}
use Rattle.gate_decompose.specs.GatesData.{GatesData}
use Rattle.gate_decompose.specs.Needed.{HasSize}
use Rattle.gate_decompose.specs.GatesOrder.{AreOrderedGates}
use Rattle.phase_assign.specs.Signs.{AreChosen, AreSettled, IsPassOf, IsTurnOf, Lowers, with_sign_changed}
use Rattle.gate_decompose.proofs.NeededLists.{needed_there, size_one}

module _ (gates : GatesData) where
  -- what a pass does to the number of needed pairs, up to the k-th sink
  falls_to : (before after : List Bool) (p : IsPassOf gates before after) (m : ℕ) → HasSize gates before m → (k : ℕ) → k ≤ length gates.sinks → (e : List Bool) → slice_get p.each k ≡ Some e → (j : ℕ) → HasSize gates e j
      → (j ≤ m) × (j ≡ m → (e ≡ before) × ((i : ℕ) → i < k → Lowers gates before i → ⊥))
  falls_to before after p m is zero le e at j has =
      let same : e ≡ before = same_Some e before (sym at ∙ p.first) in
      let one = size_one gates before j m (subst (λ s. HasSize gates s j) same has) is in
      (omega arith, λ f. (same, λ i lt. absurd (omega arith)))
  falls_to before after p m is (suc k) le e at j has =
      let d = get_or p.each k [] in
      let at_k = slice_get-get_or p.each k [] (omega (arith, p.count)) in
      by d (p.turns k d e at_k (subst (λ i. slice_get p.each i ≡ Some e) (sym (add-one k)) at)) (falls_to before after p m is k (omega arith) d at_k)
    where
      by : (d : List Bool) → IsTurnOf gates k d e → ((i : ℕ) → HasSize gates d i → (i ≤ m) × (i ≡ m → (d ≡ before) × ((n : ℕ) → n < k → Lowers gates before n → ⊥)))
          → (j ≤ m) × (j ≡ m → (e ≡ before) × ((i : ℕ) → i < suc k → Lowers gates before i → ⊥))
      by d (inl ((b, a, has_b, has_a, lt), same)) earlier =
          let one : j ≡ a = size_one gates (with_sign_changed d k) j a (subst (λ s. HasSize gates s j) same has) has_a in
          let low = (earlier b has_b).0 in
          (omega arith, λ f. absurd (omega arith))
      by d (inr (keeps, same)) earlier =
          let r = earlier j (subst (λ s. HasSize gates s j) same has) in
          (r.0, λ f. let q = r.1 f in (same ∙ q.0, λ i lt lowers. last q i lt lowers (cases_lt i k)))
        where
          last : (d ≡ before) × ((n : ℕ) → n < k → Lowers gates before n → ⊥) → (i : ℕ) → i < suc k → Lowers gates before i → (i < k) ⊎ (k ≤ i) → ⊥
          last q i lt lowers (inl low) = q.1 i low lowers
          last q i lt lowers (inr high) =
              let here : i ≡ k = omega arith in
              keeps (subst (λ s. Lowers gates s k) (sym q.0) (subst (λ n. Lowers gates before n) here lowers))

  -- a pass lowers the number, or changes nothing and no change would lower it
  pub pass_falls : (before after : List Bool) → IsPassOf gates before after → (m n : ℕ) → HasSize gates before m → HasSize gates after n
      → (n ≤ m) × (n ≡ m → (after ≡ before) × ((i : ℕ) → i < length gates.sinks → Lowers gates before i → ⊥))
  pass_falls before after p m n is has = falls_to before after p m is (length gates.sinks) (omega arith) after p.last n has

  -- the number of signs stays
  changed_length : (signs : List Bool) (k : ℕ) → length (with_sign_changed signs k) ≡ length signs
  changed_length signs k = length-set signs k (not (get_or signs k true))

  turn_length : (k : ℕ) (before after : List Bool) → IsTurnOf gates k before after → length after ≡ length before
  turn_length k before after (inl (low, same)) = ap length same ∙ changed_length before k
  turn_length k before after (inr (keeps, same)) = ap length same

  length_to : (before after : List Bool) (p : IsPassOf gates before after) (k : ℕ) → k ≤ length gates.sinks → (e : List Bool) → slice_get p.each k ≡ Some e → length e ≡ length before
  length_to before after p zero le e at = ap length (same_Some e before (sym at ∙ p.first))
  length_to before after p (suc k) le e at =
      let d = get_or p.each k [] in
      let at_k = slice_get-get_or p.each k [] (omega (arith, p.count)) in
      turn_length k d e (p.turns k d e at_k (subst (λ i. slice_get p.each i ≡ Some e) (sym (add-one k)) at)) ∙ length_to before after p k (omega arith) d at_k

  pass_length : (before after : List Bool) → IsPassOf gates before after → length after ≡ length before
  pass_length before after p = length_to before after p (length gates.sinks) (omega arith) after p.last

  module _ (order : AreOrderedGates gates) where
    -- the number of needed pairs
    size : List Bool → ℕ
    size signs = length (needed_there gates signs order).0

    has_size : (signs : List Bool) → HasSize gates signs (size signs)
    unfolding size
    has_size signs = ((needed_there gates signs order).0, (needed_there gates signs order).1, refl)

    lowers_size : (signs : List Bool) (k : ℕ) → size (with_sign_changed signs k) < size signs → Lowers gates signs k
    lowers_size signs k lt = (size signs, size (with_sign_changed signs k), has_size signs, has_size (with_sign_changed signs k), lt)

    size_lowers : (signs : List Bool) (k : ℕ) → Lowers gates signs k → size (with_sign_changed signs k) < size signs
    size_lowers signs k (b, a, has_b, has_a, lt) =
        let x = size_one gates signs (size signs) b (has_size signs) has_b in
        let y = size_one gates (with_sign_changed signs k) (size (with_sign_changed signs k)) a (has_size (with_sign_changed signs k)) has_a in
        omega arith

    -- the signs of the passes up to the chosen ones
    passes_to : (signs : List Bool) (c : AreChosen gates signs) (i : ℕ) → i ≤ c.end → (e : List Bool) → slice_get c.passes i ≡ Some e
        → (size e ≤ size (replicate (length gates.sinks) true)) × (length e ≡ length gates.sinks)
    passes_to signs c zero le e at =
        let same : e ≡ replicate (length gates.sinks) true = same_Some e (replicate (length gates.sinks) true) (sym at ∙ c.first) in
        (rw same (omega arith), ap length same ∙ length-replicate (length gates.sinks) true)
    passes_to signs c (suc i) le e at =
        let d = get_or c.passes i [] in
        let at_i = slice_get-get_or c.passes i [] (omega (arith, c.count)) in
        let earlier = passes_to signs c i (omega arith) d at_i in
        let p = (c.next i d e at_i (subst (λ n. slice_get c.passes n ≡ Some e) (sym (add-one i)) at)).0 in
        let f = pass_falls d e p (size d) (size e) (has_size d) (has_size e) in
        (omega (arith, f.0, earlier.0), pass_length d e p ∙ earlier.1)

    pub chosen_settled : (signs : List Bool) → AreChosen gates signs → AreSettled gates signs
    chosen_settled signs c = record {
      one_each = (passes_to signs c c.end (omega arith) signs c.chosen).1;
      settled = λ k lt lowers. ((pass_falls signs signs c.unchanged (size signs) (size signs) (has_size signs) (has_size signs)).1 refl).1 k lt lowers;
    }

    pub chosen_no_worse : (signs : List Bool) → AreChosen gates signs → (m n : ℕ) → HasSize gates signs m → HasSize gates (replicate (length gates.sinks) true) n → m ≤ n
    chosen_no_worse signs c m n is has =
        let low = (passes_to signs c c.end (omega arith) signs c.chosen).0 in
        let x = size_one gates signs m (size signs) is (has_size signs) in
        let y = size_one gates (replicate (length gates.sinks) true) n (size (replicate (length gates.sinks) true)) has (has_size (replicate (length gates.sinks) true)) in
        omega arith

    -- one turn after another
    turn : List Bool → ℕ → List Bool
    turn signs k = cond (nat_lt (size (with_sign_changed signs k)) (size signs)) (with_sign_changed signs k) signs

    is_turn : (signs : List Bool) (k : ℕ) → IsTurnOf gates k signs (turn signs k)
    unfolding turn
    is_turn signs k = by (nat_lt (size (with_sign_changed signs k)) (size signs)) refl
      where
        by : (b : Bool) → nat_lt (size (with_sign_changed signs k)) (size signs) ≡ b → IsTurnOf gates k signs (cond b (with_sign_changed signs k) signs)
        by true e = inl (lowers_size signs k (ltb-true (size (with_sign_changed signs k)) (size signs) e), refl)
        by false e = inr ((λ lowers. let lt = size_lowers signs k lowers in let le = ltb-false (size (with_sign_changed signs k)) (size signs) e in absurd (omega arith)), refl)

    turned : List Bool → ℕ → List Bool
    turned signs zero = signs
    turned signs (suc k) = turn (turned signs k) k

    pass_there : (signs : List Bool) → IsPassOf gates signs (turned signs (length gates.sinks))
    unfolding turned
    pass_there signs = record {
      each = all;
      first = at 0 (omega arith);
      last = at (length gates.sinks) (omega arith);
      turns = λ k from to e f. turns k from to e f;
      count = length-map-range_with_len (turned signs) 0 (length gates.sinks + 1);
    }
      where
        all : List (List Bool)
        all = map (turned signs) (range_with_len 0 (length gates.sinks + 1))

        at : (k : ℕ) → k < length gates.sinks + 1 → slice_get all k ≡ Some (turned signs k)
        at k lt =
            slice_get-get_or all k [] (omega (arith, length-map-range_with_len (turned signs) 0 (length gates.sinks + 1)))
            ∙ ap Some (get_or-map-range_with_len (turned signs) 0 (length gates.sinks + 1) k k [] lt (omega arith))

        turns : (k : ℕ) (from to : List Bool) → slice_get all k ≡ Some from → slice_get all (k + 1) ≡ Some to → IsTurnOf gates k from to
        turns k from to e f =
            let low = slice_get_within all (k + 1) to f in
            let count = length-map-range_with_len (turned signs) 0 (length gates.sinks + 1) in
            let x : from ≡ turned signs k = same_Some from (turned signs k) (sym e ∙ at k (omega arith)) in
            let y : to ≡ turned signs (k + 1) = same_Some to (turned signs (k + 1)) (sym f ∙ at (k + 1) (omega arith)) in
            rw (x, y, add-one k) (is_turn (turned signs k) k)

    -- signs that lead to others by passes, the last of which changes nothing
    record LeadsTo (from signs : List Bool) : Type 0 where
      passes : List (List Bool)
      end : ℕ
      count : length passes ≡ end + 1
      first : slice_get passes 0 ≡ Some from
      chosen : slice_get passes end ≡ Some signs
      next : (i : ℕ) (a b : List Bool) → slice_get passes i ≡ Some a → slice_get passes (i + 1) ≡ Some b → IsPassOf gates a b × (a ≢ b)
      unchanged : IsPassOf gates signs signs

    leads : (room : ℕ) (from : List Bool) → size from < room → (signs : List Bool) × LeadsTo from signs
    leads zero from lt = absurd (omega arith)
    leads (suc room) from lt = by (cases_eq (size to) (size from)) (λ less. leads room to less)
      where
        to : List Bool
        to = turned from (length gates.sinks)

        by : (size to ≡ size from) ⊎ (size to ≡ size from → ⊥) → (size to < room → (signs : List Bool) × LeadsTo to signs) → (signs : List Bool) × LeadsTo from signs
        by (inl same) more =
            let stays : to ≡ from = ((pass_falls from to (pass_there from) (size from) (size to) (has_size from) (has_size to)).1 same).0 in (
              from,
              record {
                passes = from ∷ [];
                end = 0;
                count = omega arith;
                first = refl;
                chosen = refl;
                next = λ i a b e f. absurd (let low = slice_get_within (from ∷ []) (i + 1) b f in omega arith);
                unchanged = subst (IsPassOf gates from) stays (pass_there from);
              },
            )
        by (inr other) more =
            let falls = (pass_falls from to (pass_there from) (size from) (size to) (has_size from) (has_size to)).0 in
            let chain = more (omega arith) in
            (chain.0, longer chain.0 chain.1)
          where
            step : (c : List Bool) (l : LeadsTo to c) (i : ℕ) (a b : List Bool) → slice_get (from ∷ l.passes) i ≡ Some a → slice_get l.passes i ≡ Some b → IsPassOf gates a b × (a ≢ b)
            step c l zero a b e f =
                let x : from ≡ a = same_Some from a e in
                let y : to ≡ b = same_Some to b (sym l.first ∙ f) in
                rw (← x, ← y) (pass_there from, λ same. other (ap size (sym same)))
            step c l (suc i) a b e f = l.next i a b e (subst (λ n. slice_get l.passes n ≡ Some b) (sym (add-one i)) f)

            longer : (c : List Bool) → LeadsTo to c → LeadsTo from c
            longer c l = record {
              passes = from ∷ l.passes;
              end = suc l.end;
              count = omega (arith, l.count);
              first = refl;
              chosen = l.chosen;
              next = λ i a b e f. step c l i a b e (subst (λ n. slice_get (from ∷ l.passes) n ≡ Some b) (add-one i) f);
              unchanged = l.unchanged;
            }

    -- chosen signs are there
    pub chosen_there : (signs : List Bool) × AreChosen gates signs
    chosen_there =
        let all = replicate (length gates.sinks) true in
        let r = leads (size all + 1) all (omega arith) in
        let l = r.1 in
        (r.0, record { passes = l.passes; end = l.end; count = l.count; first = l.first; chosen = l.chosen; next = l.next; unchanged = l.unchanged })

  turn_one : (k : ℕ) (before x y : List Bool) → IsTurnOf gates k before x → IsTurnOf gates k before y → x ≡ y
  turn_one k before x y (inl a) (inl b) = a.1 ∙ sym b.1
  turn_one k before x y (inl a) (inr b) = absurd (b.0 a.0)
  turn_one k before x y (inr a) (inl b) = absurd (a.0 b.0)
  turn_one k before x y (inr a) (inr b) = a.1 ∙ sym b.1

  pass_to : (before x y : List Bool) (p : IsPassOf gates before x) (q : IsPassOf gates before y) (k : ℕ) → k ≤ length gates.sinks → (e f : List Bool)
      → slice_get p.each k ≡ Some e → slice_get q.each k ≡ Some f → e ≡ f
  pass_to before x y p q zero le e f at at' = same_Some e f (sym at ∙ p.first ∙ sym q.first ∙ at')
  pass_to before x y p q (suc k) le e f at at' =
      let d = get_or p.each k [] in
      let g = get_or q.each k [] in
      let at_d = slice_get-get_or p.each k [] (omega (arith, p.count)) in
      let at_g = slice_get-get_or q.each k [] (omega (arith, q.count)) in
      let same : d ≡ g = pass_to before x y p q k (omega arith) d g at_d at_g in
      turn_one k g e f (subst (λ s. IsTurnOf gates k s e) same (p.turns k d e at_d (subst (λ i. slice_get p.each i ≡ Some e) (sym (add-one k)) at)))
      (q.turns k g f at_g (subst (λ i. slice_get q.each i ≡ Some f) (sym (add-one k)) at'))

  -- signs have one pass
  pub pass_one : (before x y : List Bool) → IsPassOf gates before x → IsPassOf gates before y → x ≡ y
  pass_one before x y p q = pass_to before x y p q (length gates.sinks) (omega arith) x y p.last q.last

  same_passes : (a b : List Bool) (p : AreChosen gates a) (q : AreChosen gates b) (i : ℕ) → i ≤ p.end → i ≤ q.end → (e f : List Bool)
      → slice_get p.passes i ≡ Some e → slice_get q.passes i ≡ Some f → e ≡ f
  same_passes a b p q zero le le' e f at at' = same_Some e f (sym at ∙ p.first ∙ sym q.first ∙ at')
  same_passes a b p q (suc i) le le' e f at at' =
      let d = get_or p.passes i [] in
      let g = get_or q.passes i [] in
      let at_d = slice_get-get_or p.passes i [] (omega (arith, p.count)) in
      let at_g = slice_get-get_or q.passes i [] (omega (arith, q.count)) in
      let same : d ≡ g = same_passes a b p q i (omega arith) (omega arith) d g at_d at_g in
      pass_one g e f (subst (λ s. IsPassOf gates s e) same (p.next i d e at_d (subst (λ n. slice_get p.passes n ≡ Some e) (sym (add-one i)) at)).0)
      (q.next i g f at_g (subst (λ n. slice_get q.passes n ≡ Some f) (sym (add-one i)) at')).0

  no_later : (a b : List Bool) (p : AreChosen gates a) (q : AreChosen gates b) → p.end < q.end → ⊥
  no_later a b p q lt =
      let d = get_or q.passes p.end [] in
      let g = get_or q.passes (p.end + 1) [] in
      let at_d = slice_get-get_or q.passes p.end [] (omega (arith, q.count)) in
      let at_g = slice_get-get_or q.passes (p.end + 1) [] (omega (arith, q.count)) in
      let same : a ≡ d = same_passes a b p q p.end (omega arith) (omega arith) a d p.chosen at_d in
      let step = q.next p.end d g at_d at_g in
      step.1 (pass_one d d g (subst (λ s. IsPassOf gates s s) same p.unchanged) step.0)

  -- the chosen signs are one list
  pub chosen_signs_one : (a b : List Bool) → AreChosen gates a → AreChosen gates b → a ≡ b
  chosen_signs_one a b p q =
      elim (cases_lt p.end q.end) [
        | inl lt ↦ absurd (no_later a b p q lt)
        | inr le ↦ elim (cases_lt q.end p.end) [
          | inl lt ↦ absurd (no_later b a q p lt)
          | inr ge ↦ same_passes a b p q p.end (omega arith) (omega arith) a b p.chosen (subst (λ n. slice_get q.passes n ≡ Some b) (omega arith) q.chosen)
        ]
      ]
