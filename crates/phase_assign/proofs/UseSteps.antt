-- One use of a pair more, and one less.
use Rattle.std.proofs.Common.{◌≡◌, refl, sym, ap, subst, ◌∙◌, ℕ, ◌+◌, ◌*◌, ◌≤◌, ◌<◌, ◌^◌, Bool, true, false, cond, List, [], ◌∷◌, ◌++◌, length, length-append, get_or, Option, Some, None, arith}
use Rattle.phase_assign.specs.Uses.{AreUses, HasFewRoots, asked, asked_by_pair, is_live, is_pair, is_some_use, living, one_if, times, total, used, uses_by_pairs}
use Rattle.dual_rail.specs.declared.signed.SignedNode.{SignedNode}
use Rattle.phase_assign.specs.ArmsData.{ArmsData as Arms}
use Rattle.dual_rail.specs.declared.signed.Signed.{Signed}
use Rattle.phase_assign.proofs.Totals.{none_false, pair_is, pair_self, some_true, times-append, times-le, total_changed, total_few}

module _ (p : SignedNode) (fewer more : ℕ → Bool → ℕ) (step : (m : ℕ) (t : Bool) → fewer m t + one_if (is_pair m t p) ≡ more m t) where
  live_sum : (ℕ → Bool → ℕ) → (ℕ → Bool → ℕ) → ℕ → ℕ
  live_sum count w nodes = total (λ m t. cond (is_live count m t) (w m t) 0) 0 nodes

  -- other pairs keep their number
  other : (m : ℕ) (t : Bool) → (m ≡ p.node → t ≡ p.plus → ⊥) → fewer m t ≡ more m t
  other m t apart = by (is_pair m t p) refl
    where
      by : (b : Bool) → is_pair m t p ≡ b → fewer m t ≡ more m t
      by true e = let is = pair_is m t p e in absurd (apart (sym is.0) (sym is.1))
      by false e = let none : one_if (is_pair m t p) ≡ 0 = ap one_if e in let s = step m t in omega arith

  pub own : fewer p.node p.plus + 1 ≡ more p.node p.plus
  own = let one : one_if (is_pair p.node p.plus p) ≡ 1 = ap one_if (pair_self p) in let s = step p.node p.plus in omega arith

  still_live : 0 < fewer p.node p.plus → (m : ℕ) (t : Bool) → is_live fewer m t ≡ is_live more m t
  still_live some m t = by (is_pair m t p) refl
    where
      by : (b : Bool) → is_pair m t p ≡ b → is_live fewer m t ≡ is_live more m t
      by true e =
          let is = pair_is m t p e in
          let low : 0 < fewer m t = subst (λ k. 0 < fewer k t) is.0 (subst (λ s. 0 < fewer p.node s) is.1 some) in
          some_true (fewer m t) low ∙ sym (some_true (more m t) (let s = step m t in omega arith))
      by false e = let none : one_if (is_pair m t p) ≡ 0 = ap one_if e in let s = step m t in let same : fewer m t ≡ more m t = omega arith in ap is_some_use same

  sum_same : 0 < fewer p.node p.plus → (w : ℕ → Bool → ℕ) (nodes : ℕ) → live_sum fewer w nodes ≡ live_sum more w nodes
  unfolding live_sum
  sum_same some w nodes = ap (λ (live : ℕ → Bool → Bool). total (λ m t. cond (live m t) (w m t) 0) 0 nodes) (λ i m t. still_live some m t i)

  sum_more : fewer p.node p.plus ≡ 0 → (w : ℕ → Bool → ℕ) (nodes : ℕ) → p.node < nodes → live_sum fewer w nodes + w p.node p.plus ≡ live_sum more w nodes
  unfolding live_sum
  sum_more none w nodes lt =
      let changed = total_changed (λ m t. cond (is_live fewer m t) (w m t) 0) (λ m t. cond (is_live more m t) (w m t) 0) p.node p.plus
      (λ m t apart. ap (λ n. cond (is_some_use n) (w m t) 0) (other m t apart)) 0 nodes (omega arith) (omega arith) in
      let weight : Bool → ℕ = λ b. cond b (w p.node p.plus) 0 in
      let gone : weight (is_live fewer p.node p.plus) ≡ 0 = ap weight (none_false (fewer p.node p.plus) none) in
      let here : weight (is_live more p.node p.plus) ≡ w p.node p.plus = ap weight (some_true (more p.node p.plus) (let o = own in omega arith)) in
      omega arith

  -- how many pairs are live
  pub living_same : 0 < fewer p.node p.plus → (nodes : ℕ) → living fewer nodes ≡ living more nodes
  unfolding live_sum
  living_same some nodes = sum_same some (λ m t. 1) nodes

  pub living_more : fewer p.node p.plus ≡ 0 → (nodes : ℕ) → p.node < nodes → living fewer nodes + 1 ≡ living more nodes
  unfolding live_sum
  living_more none nodes lt = sum_more none (λ m t. 1) nodes lt

  module _ (arms : List Arms) (roots rest : List SignedNode) where
    edges_same : 0 < fewer p.node p.plus → (n : ℕ) (s : Bool) → uses_by_pairs arms fewer n s ≡ uses_by_pairs arms more n s
    unfolding live_sum
    edges_same some n s = sum_same some (λ m t. times n s (asked_by_pair arms m t)) (length arms)

    edges_more : fewer p.node p.plus ≡ 0 → p.node < length arms → (n : ℕ) (s : Bool) → uses_by_pairs arms fewer n s + times n s (asked_by_pair arms p.node p.plus) ≡ uses_by_pairs arms more n s
    unfolding live_sum
    edges_more none lt n s = sum_more none (λ m t. times n s (asked_by_pair arms m t)) (length arms) lt

    -- a use less
    pub drop_kept : 0 < fewer p.node p.plus → AreUses arms more roots [] (p ∷ rest) → AreUses arms fewer roots [] rest
    drop_kept some u = record {
      each = λ n s. let e = u.each n s in let d = edges_same some n s in let c = step n s in omega arith;
    }

    pub drop_last : fewer p.node p.plus ≡ 0 → p.node < length arms → AreUses arms more roots [] (p ∷ rest) → AreUses arms fewer roots [] (rest ++ asked_by_pair arms p.node p.plus)
    drop_last none lt u = record {
      each = λ n s. let e = u.each n s in let d = edges_more none lt n s in let c = step n s in let a = times-append n s rest (asked_by_pair arms p.node p.plus) in omega arith;
    }

    -- a use more
    pub add_later : 0 < fewer p.node p.plus → AreUses arms fewer roots (p ∷ rest) [] → AreUses arms more roots rest []
    add_later some u = record {
      each = λ n s. let e = u.each n s in let d = edges_same some n s in let c = step n s in omega arith;
    }

    pub add_first : fewer p.node p.plus ≡ 0 → p.node < length arms → AreUses arms fewer roots (p ∷ rest) [] → AreUses arms more roots (rest ++ asked_by_pair arms p.node p.plus) []
    add_first none lt u = record {
      each = λ n s. let e = u.each n s in let d = edges_more none lt n s in let c = step n s in let a = times-append n s rest (asked_by_pair arms p.node p.plus) in omega arith;
    }

-- one more use of a pair fits
few_asked : (o : Option SignedNode) (s : Bool) → length (asked o s) ≤ 1
few_asked None s = omega arith
few_asked (Some p) s = omega arith

pub few_edges : (arms : List Arms) (count : ℕ → Bool → ℕ) (n : ℕ) (s : Bool) → uses_by_pairs arms count n s ≤ length arms * 4
few_edges arms count n s = total_few (λ m t. cond (is_live count m t) (times n s (asked_by_pair arms m t)) 0) 2 (λ m t. few (is_live count m t) m t) 0 (length arms)
  where
    few : (b : Bool) (m : ℕ) (t : Bool) → cond b (times n s (asked_by_pair arms m t)) 0 ≤ 2
    few false m t = omega arith
    few true m t =
        let own : Arms = get_or arms m (record { left = None; right = None }) in
        let low = times-le n s (asked own.left t ++ asked own.right t) in
        let a = few_asked own.left t in
        let b = few_asked own.right t in
        let c = length-append (asked own.left t) (asked own.right t) in
        omega arith

pub room_for : (arms : List Arms) (count : ℕ → Bool → ℕ) (roots ws rest : List SignedNode) (p : SignedNode) → AreUses arms count roots ws [] → ws ≡ p ∷ rest → HasFewRoots arms roots → count p.node p.plus + 1 < 2 ^ 32
room_for arms count roots ws rest p u e few =
    let is : count p.node p.plus + (one_if (is_pair p.node p.plus p) + times p.node p.plus rest) ≡ uses_by_pairs arms count p.node p.plus + times p.node p.plus roots + 0 =
    (subst (λ xs. AreUses arms count roots xs []) e u).each p.node p.plus in
    let one : one_if (is_pair p.node p.plus p) ≡ 1 = ap one_if (pair_self p) in
    let a = few_edges arms count p.node p.plus in
    let b = times-le p.node p.plus roots in
    omega arith

-- the number of live pairs where a list of counts is written
pub size_more : (p : SignedNode) (before seen new after : List (Signed ℕ)) (nodes size : ℕ) → seen ≡ before → after ≡ new → ((n : ℕ) (s : Bool) → used new n s ≡ used seen n s + one_if (is_pair n s p)) → used seen p.node p.plus ≡ 0
    → p.node < nodes → size ≡ living (used before) nodes → size + 1 ≡ living (used after) nodes
size_more p before seen new after nodes size e f step none lt is =
    let more = living_more p (used seen) (used new) (λ n s. sym (step n s)) none nodes lt in
    let x : living (used seen) nodes ≡ living (used before) nodes = ap (λ us. living (used us) nodes) e in
    let y : living (used after) nodes ≡ living (used new) nodes = ap (λ us. living (used us) nodes) f in
    omega arith

pub size_later : (p : SignedNode) (before seen new after : List (Signed ℕ)) (nodes size : ℕ) → seen ≡ before → after ≡ new → ((n : ℕ) (s : Bool) → used new n s ≡ used seen n s + one_if (is_pair n s p)) → 0 < used seen p.node p.plus
    → size ≡ living (used before) nodes → size ≡ living (used after) nodes
size_later p before seen new after nodes size e f step some is =
    let same = living_same p (used seen) (used new) (λ n s. sym (step n s)) some nodes in
    let x : living (used seen) nodes ≡ living (used before) nodes = ap (λ us. living (used us) nodes) e in
    let y : living (used after) nodes ≡ living (used new) nodes = ap (λ us. living (used us) nodes) f in
    omega arith

pub size_less : (p : SignedNode) (before seen new after : List (Signed ℕ)) (nodes size : ℕ) → seen ≡ before → after ≡ new → ((n : ℕ) (s : Bool) → used new n s + one_if (is_pair n s p) ≡ used seen n s) → used new p.node p.plus ≡ 0
    → p.node < nodes → size ≡ living (used before) nodes → living (used after) nodes + 1 ≡ size
size_less p before seen new after nodes size e f step none lt is =
    let more = living_more p (used new) (used seen) step none nodes lt in
    let x : living (used seen) nodes ≡ living (used before) nodes = ap (λ us. living (used us) nodes) e in
    let y : living (used after) nodes ≡ living (used new) nodes = ap (λ us. living (used us) nodes) f in
    omega arith

pub size_kept : (p : SignedNode) (before seen new after : List (Signed ℕ)) (nodes size : ℕ) → seen ≡ before → after ≡ new → ((n : ℕ) (s : Bool) → used new n s + one_if (is_pair n s p) ≡ used seen n s) → 0 < used new p.node p.plus
    → size ≡ living (used before) nodes → size ≡ living (used after) nodes
size_kept p before seen new after nodes size e f step some is =
    let same = living_same p (used new) (used seen) step some nodes in
    let x : living (used seen) nodes ≡ living (used before) nodes = ap (λ us. living (used us) nodes) e in
    let y : living (used after) nodes ≡ living (used new) nodes = ap (λ us. living (used us) nodes) f in
    omega arith
