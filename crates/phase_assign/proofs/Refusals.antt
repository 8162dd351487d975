-- A trial that lowered nothing holds as long as the uses that it looked at stay.
use Rattle.std.proofs.Common.{◌≡◌, ◌⊎◌, inl, inr, refl, sym, ap, ap₂, ◌∙◌, ℕ, zero, suc, ◌+◌, ◌<◌, Bool, true, false, not, cond, List, [], length, Option, arith}
use Rattle.phase_assign.specs.Refusals.{IsSignChangeRefused}
use Rattle.phase_assign.specs.Uses.{AreTried, AreUses, HasRoots, asked, asked_by_pair, is_live, is_some_use, living, one_if, times, total, uses_by_pairs}
use Rattle.phase_assign.specs.ArmsData.{ArmsData as Arms}
use Rattle.dual_rail.specs.declared.signed.SignedNode.{SignedNode}

-- sums that balance term by term
total_balanced : (f g h k : ℕ → Bool → ℕ) → ((m : ℕ) (t : Bool) → f m t + g m t ≡ h m t + k m t) → (a n : ℕ) → total f a n + total g a n ≡ total h a n + total k a n
total_balanced f g h k same a zero = refl
total_balanced f g h k same a (suc n) =
    let x = same a true in
    let y = same a false in
    let r = total_balanced f g h k same (a + 1) n in
    omega arith

module _ (arms : List Arms) (old new : ℕ → Bool → ℕ) (looked : List SignedNode) (stay : (n : ℕ) (s : Bool) → 0 < times n s looked → new n s ≡ old n s) where
  -- counts of the trial, moved to the counts that are now
  moved : (ℕ → Bool → ℕ) → ℕ → Bool → ℕ
  moved count n s = cond (is_some_use (times n s looked)) (count n s) (new n s)

  moved_at : (count : ℕ → Bool → ℕ) → ((n : ℕ) (s : Bool) → times n s looked ≡ 0 → count n s ≡ old n s) → (n : ℕ) (s : Bool)
      → ((moved count n s ≡ count n s) × (new n s ≡ old n s)) ⊎ ((moved count n s ≡ new n s) × (count n s ≡ old n s))
  unfolding moved
  moved_at count elsewhere n s = by (times n s looked) refl
    where
      by : (x : ℕ) → times n s looked ≡ x → ((cond (is_some_use (times n s looked)) (count n s) (new n s) ≡ count n s) × (new n s ≡ old n s))
          ⊎ ((cond (is_some_use (times n s looked)) (count n s) (new n s) ≡ new n s) × (count n s ≡ old n s))
      by zero e = inr (ap (λ y. cond (is_some_use y) (count n s) (new n s)) e, elsewhere n s e)
      by (suc x) e = inl (ap (λ y. cond (is_some_use y) (count n s) (new n s)) e, stay n s (omega arith))

  -- sums over live pairs move alike
  sums_move : (count : ℕ → Bool → ℕ) → ((n : ℕ) (s : Bool) → times n s looked ≡ 0 → count n s ≡ old n s) → (w : ℕ → Bool → ℕ) (nodes : ℕ)
      → total (λ m t. cond (is_live (moved count) m t) (w m t) 0) 0 nodes + total (λ m t. cond (is_live old m t) (w m t) 0) 0 nodes
      ≡ total (λ m t. cond (is_live count m t) (w m t) 0) 0 nodes + total (λ m t. cond (is_live new m t) (w m t) 0) 0 nodes
  sums_move count elsewhere w nodes =
      total_balanced (λ m t. cond (is_live (moved count) m t) (w m t) 0) (λ m t. cond (is_live old m t) (w m t) 0) (λ m t. cond (is_live count m t) (w m t) 0) (λ m t. cond (is_live new m t) (w m t) 0)
      (λ m t. term m t (moved_at count elsewhere m t)) 0 nodes
    where
      weight : ℕ → Bool → ℕ → ℕ
      weight m t n = cond (is_some_use n) (w m t) 0

      term : (m : ℕ) (t : Bool) → ((moved count m t ≡ count m t) × (new m t ≡ old m t)) ⊎ ((moved count m t ≡ new m t) × (count m t ≡ old m t))
          → cond (is_some_use (moved count m t)) (w m t) 0 + cond (is_some_use (old m t)) (w m t) 0 ≡ cond (is_some_use (count m t)) (w m t) 0 + cond (is_some_use (new m t)) (w m t) 0
      term m t (inl (a, b)) = ap₂ (λ x y. cond (is_some_use x) (w m t) 0 + cond (is_some_use y) (w m t) 0) a (sym b)
      term m t (inr (a, b)) =
          let swap : cond (is_some_use (new m t)) (w m t) 0 + cond (is_some_use (old m t)) (w m t) 0 ≡ cond (is_some_use (old m t)) (w m t) 0 + cond (is_some_use (new m t)) (w m t) 0 = omega arith in
          ap (λ x. cond (is_some_use x) (w m t) 0 + cond (is_some_use (old m t)) (w m t) 0) a ∙ swap
          ∙ ap (λ x. cond (is_some_use x) (w m t) 0 + cond (is_some_use (new m t)) (w m t) 0) (sym b)

  pub refused_still : (target : Option SignedNode) (sign : Bool) → IsSignChangeRefused arms old target sign looked → IsSignChangeRefused arms new target sign looked
  unfolding moved
  refused_still target sign r = record {
    without = moved r.without;
    tried = moved r.tried;
    uncounted = r.uncounted;
    taken = λ n s. taken n s (moved_at r.without first n s);
    added = λ n s. added n s (moved_at r.without first n s) (moved_at r.tried second n s) (times n s looked) refl;
    no_fewer =
        let m : total (λ m t. one_if (is_live (moved r.tried) m t)) 0 (length arms) + living old (length arms) ≡ living r.tried (length arms) + living new (length arms) = sums_move r.tried second (λ m t. 1) (length arms) in
        let low = r.no_fewer in
        omega arith;
    elsewhere = λ n s e. (ap (λ y. cond (is_some_use y) (r.without n s) (new n s)) e, ap (λ y. cond (is_some_use y) (r.tried n s) (new n s)) e);
  }
    where
      first : (n : ℕ) (s : Bool) → times n s looked ≡ 0 → r.without n s ≡ old n s
      first n s e = (r.elsewhere n s e).0

      second : (n : ℕ) (s : Bool) → times n s looked ≡ 0 → r.tried n s ≡ old n s
      second n s e = (r.elsewhere n s e).1

      taken : (n : ℕ) (s : Bool) → ((moved r.without n s ≡ r.without n s) × (new n s ≡ old n s)) ⊎ ((moved r.without n s ≡ new n s) × (r.without n s ≡ old n s))
          → moved r.without n s + uses_by_pairs arms new n s + times n s (asked target sign) ≡ new n s + uses_by_pairs arms (moved r.without) n s
      taken n s (inl (a, b)) =
          let e = r.taken n s in
          let m : uses_by_pairs arms (moved r.without) n s + uses_by_pairs arms old n s ≡ uses_by_pairs arms r.without n s + uses_by_pairs arms new n s = sums_move r.without first (λ m t. times n s (asked_by_pair arms m t)) (length arms) in
          omega arith
      taken n s (inr (a, b)) =
          let e = r.taken n s in
          let m : uses_by_pairs arms (moved r.without) n s + uses_by_pairs arms old n s ≡ uses_by_pairs arms r.without n s + uses_by_pairs arms new n s = sums_move r.without first (λ m t. times n s (asked_by_pair arms m t)) (length arms) in
          omega arith

      added : (n : ℕ) (s : Bool) → ((moved r.without n s ≡ r.without n s) × (new n s ≡ old n s)) ⊎ ((moved r.without n s ≡ new n s) × (r.without n s ≡ old n s))
          → ((moved r.tried n s ≡ r.tried n s) × (new n s ≡ old n s)) ⊎ ((moved r.tried n s ≡ new n s) × (r.tried n s ≡ old n s)) → (x : ℕ) → times n s looked ≡ x
          → moved r.tried n s + times n s r.uncounted + uses_by_pairs arms (moved r.without) n s ≡ moved r.without n s + uses_by_pairs arms (moved r.tried) n s + times n s (asked target (not sign))
      added n s p q x at =
          let e = r.added n s in
          let m : uses_by_pairs arms (moved r.without) n s + uses_by_pairs arms old n s ≡ uses_by_pairs arms r.without n s + uses_by_pairs arms new n s = sums_move r.without first (λ m t. times n s (asked_by_pair arms m t)) (length arms) in
          let k : uses_by_pairs arms (moved r.tried) n s + uses_by_pairs arms old n s ≡ uses_by_pairs arms r.tried n s + uses_by_pairs arms new n s = sums_move r.tried second (λ m t. times n s (asked_by_pair arms m t)) (length arms) in
          let shift : moved r.tried n s + r.without n s ≡ moved r.without n s + r.tried n s = shifted x at in
          omega arith
        where
          shifted : (x : ℕ) → times n s looked ≡ x → moved r.tried n s + r.without n s ≡ moved r.without n s + r.tried n s
          shifted zero e =
              let a : moved r.tried n s ≡ new n s = ap (λ y. cond (is_some_use y) (r.tried n s) (new n s)) e in
              let b : moved r.without n s ≡ new n s = ap (λ y. cond (is_some_use y) (r.without n s) (new n s)) e in
              let c = first n s e in
              let d = second n s e in
              omega arith
          shifted (suc x) e =
              let a : moved r.tried n s ≡ r.tried n s = ap (λ y. cond (is_some_use y) (r.tried n s) (new n s)) e in
              let b : moved r.without n s ≡ r.without n s = ap (λ y. cond (is_some_use y) (r.without n s) (new n s)) e in
              omega arith

-- what it shows
pub refused_tried : (arms : List Arms) (count : ℕ → Bool → ℕ) (target : Option SignedNode) (sign : Bool) (looked others roots : List SignedNode) → IsSignChangeRefused arms count target sign looked
    → AreUses arms count others [] (asked target sign) → HasRoots others (asked target (not sign)) roots → (size : ℕ) → size ≡ living count (length arms) → AreTried arms roots size
refused_tried arms count target sign looked others roots r u h size is = record {
  count = r.tried;
  uncounted = r.uncounted;
  uses = record { each = λ n s. let a = r.taken n s in let b = r.added n s in let c = u.each n s in let d = h n s in omega arith };
  no_fewer = let low = r.no_fewer in omega arith;
}
