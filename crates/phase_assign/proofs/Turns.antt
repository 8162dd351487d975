-- Turns, passes and chosen signs, one sign, one sink and one pass at a time.
use Rattle.std.proofs.Common.{◌≡◌, ◌≢◌, ◌⊎◌, inl, inr, refl, sym, ap, subst, ◌∙◌, ℕ, zero, suc, ◌+◌, ◌≤◌, ◌<◌, Bool, true, not, List, [], ◌∷◌, ◌++◌, length, replicate, set, Some, slice_get, get_or, length-append, arith}
use Rattle.std.proofs.lemmas.List.{get_or_default, set-set, set-get_or}
use Rattle.std.proofs.lemmas.Option.{slice_get_within, same_Some}
use Rattle.dom_base.proofs.Lists.{slice_get-append, slice_get-push_cases}
use Rattle.gate_decompose.proofs.NeededLists.{size_one}
use Rattle.gate_decompose.specs.GatesData.{GatesData}
use Rattle.gate_decompose.specs.Needed.{HasSize}
use Rattle.phase_assign.specs.Search.{AreReached, IsPassTo}
use Rattle.phase_assign.specs.Signs.{AreChosen, IsPassOf, IsTurnOf, Lowers, with_sign_changed}
use Rattle.phase_assign.proofs.ChosenSigns.{pass_falls}

-- a sign that was changed, and changed back
pub changed_is : (signs : List Bool) (k : ℕ) (b d : Bool) → k < length signs → b ≡ get_or signs k d → set signs k (not b) ≡ with_sign_changed signs k
changed_is signs k b d lt e = ap (λ v. set signs k (not v)) (e ∙ get_or_default signs k d true lt)

pub changed_back : (signs : List Bool) (k : ℕ) (c b d : Bool) → b ≡ get_or signs k d → set (set signs k c) k b ≡ signs
changed_back signs k c b d e = set-set signs k c b ∙ ap (set signs k) e ∙ set-get_or signs k d

-- a sign that is changed, and one that isn't
pub turn_made : (gates : GatesData) (signs new : List Bool) (k before after : ℕ) → HasSize gates signs before → HasSize gates new after → new ≡ with_sign_changed signs k → after < before
    → IsTurnOf gates k signs new
turn_made gates signs new k before after has has' e lt = inl ((before, after, has, subst (λ s. HasSize gates s after) e has', lt), e)

pub turn_kept : (gates : GatesData) (signs new : List Bool) (k : ℕ) → (Lowers gates signs k → ⊥) → new ≡ signs → IsTurnOf gates k signs new
turn_kept gates signs new k none e = inr (none, e)

pub no_lower : (gates : GatesData) (signs changed : List Bool) (k before after : ℕ) → HasSize gates signs before → HasSize gates changed after → changed ≡ with_sign_changed signs k → before ≤ after
    → Lowers gates signs k → ⊥
no_lower gates signs changed k before after has has' e le (b, a, has_b, has_a, lt) =
    let x = size_one gates signs before b has has_b in
    let y = size_one gates (with_sign_changed signs k) after a (subst (λ s. HasSize gates s after) e has') has_a in
    absurd (omega arith)

get_last : {X : Type 0} (xs : List X) (y : X) (n : ℕ) → length xs ≡ n → slice_get (xs ++ (y ∷ [])) n ≡ Some y
get_last [] y n e = subst (λ i. slice_get (y ∷ []) i ≡ Some y) e refl
get_last (x ∷ xs) y zero e = absurd (omega arith)
get_last (x ∷ xs) y (suc n) e = get_last xs y n (omega arith)

-- a chain of steps, and one step more
chain_pushed : {X : Type 0} (R : ℕ → X → X → Type 0) (xs : List X) (end : ℕ) (mid after : X) → length xs ≡ end + 1 → slice_get xs end ≡ Some mid
    → ((k : ℕ) (a b : X) → slice_get xs k ≡ Some a → slice_get xs (k + 1) ≡ Some b → R k a b) → R end mid after
    → (k : ℕ) (a b : X) → slice_get (xs ++ (after ∷ [])) k ≡ Some a → slice_get (xs ++ (after ∷ [])) (k + 1) ≡ Some b → R k a b
chain_pushed R xs end mid after count last steps next k a b e f = by (slice_get-push_cases xs after k a e) (slice_get-push_cases xs after (k + 1) b f)
  where
    by : (slice_get xs k ≡ Some a) ⊎ ((k ≡ length xs) × (after ≡ a)) → (slice_get xs (k + 1) ≡ Some b) ⊎ ((k + 1 ≡ length xs) × (after ≡ b)) → R k a b
    by (inl x) (inl y) = steps k a b x y
    by (inl x) (inr (at, same)) =
        let here : k ≡ end = omega arith in
        let is : mid ≡ a = same_Some mid a (sym last ∙ subst (λ i. slice_get xs i ≡ Some a) here x) in
        rw (here, ← is, ← same) next
    by (inr (at, same)) (inl y) = absurd (let low = slice_get_within xs (k + 1) b y in omega arith)
    by (inr (at, same)) (inr (at', same')) = absurd (omega arith)

-- a pass, sink by sink
pub pass_start : (gates : GatesData) (signs : List Bool) → IsPassTo gates 0 signs signs
pass_start gates signs = record {
  each = signs ∷ [];
  first = refl;
  last = refl;
  turns = λ k a b e f. absurd (let low = slice_get_within (signs ∷ []) (k + 1) b f in omega arith);
  count = refl;
}

pub pass_next : (gates : GatesData) (k : ℕ) (before mid after : List Bool) → IsPassTo gates k before mid → IsTurnOf gates k mid after → IsPassTo gates (k + 1) before after
pass_next gates k before mid after p turn = record {
  each = p.each ++ (after ∷ []);
  first = slice_get-append p.each (after ∷ []) 0 before p.first;
  last = get_last p.each after (k + 1) p.count;
  turns = chain_pushed (IsTurnOf gates) p.each k mid after p.count p.last p.turns turn;
  count = simp length-append (omega (arith, p.count));
}

pub pass_whole : (gates : GatesData) (k : ℕ) (before after : List Bool) → IsPassTo gates k before after → k ≡ length gates.sinks → IsPassOf gates before after
pass_whole gates k before after p e =
    let q : IsPassTo gates (length gates.sinks) before after = subst (λ n. IsPassTo gates n before after) e p in
    record { each = q.each; first = q.first; last = q.last; turns = q.turns; count = q.count }

-- passes, one by one
pub reached_start : (gates : GatesData) (signs : List Bool) → signs ≡ replicate (length gates.sinks) true → AreReached gates signs
reached_start gates signs e = record {
  passes = signs ∷ [];
  end = 0;
  count = refl;
  first = ap Some e;
  last = refl;
  next = λ i a b e f. absurd (let low = slice_get_within (signs ∷ []) (i + 1) b f in omega arith);
}

pub reached_next : (gates : GatesData) (mid after : List Bool) (m n : ℕ) → AreReached gates mid → IsPassOf gates mid after → HasSize gates mid m → HasSize gates after n → (n ≡ m → ⊥)
    → AreReached gates after
reached_next gates mid after m n r pass has has' other = record {
  passes = r.passes ++ (after ∷ []);
  end = r.end + 1;
  count = simp length-append (omega (arith, r.count));
  first = slice_get-append r.passes (after ∷ []) 0 (replicate (length gates.sinks) true) r.first;
  last = get_last r.passes after (r.end + 1) r.count;
  next = chain_pushed (λ k a b. IsPassOf gates a b × (a ≢ b)) r.passes r.end mid after r.count r.last r.next
      (pass, λ same. other (size_one gates after n m has' (subst (λ s. HasSize gates s m) same has)));
}

pub reached_end : (gates : GatesData) (before after : List Bool) (m n : ℕ) → AreReached gates before → IsPassOf gates before after → HasSize gates before m → HasSize gates after n → n ≡ m
    → AreChosen gates after
reached_end gates before after m n r pass has has' same =
    let stays : after ≡ before = ((pass_falls gates before after pass m n has has').1 same).0 in
    record {
      passes = r.passes;
      end = r.end;
      count = r.count;
      first = r.first;
      chosen = subst (λ s. slice_get r.passes r.end ≡ Some s) (sym stays) r.last;
      next = r.next;
      unchanged = subst (λ s. IsPassOf gates s after) (sym stays) pass;
    }

pub falls : (gates : GatesData) (before after : List Bool) (m n : ℕ) → IsPassOf gates before after → HasSize gates before m → HasSize gates after n → (n ≡ m → ⊥) → n < m
falls gates before after m n pass has has' other = let low = (pass_falls gates before after pass m n has has').0 in omega arith
