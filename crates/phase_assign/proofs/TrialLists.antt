-- Lists of the pairs that a trial looked at, one after another.
use Rattle.std.proofs.Common.{◌≡◌, ◌⊎◌, inl, inr, refl, sym, ap, subst, ◌∙◌, ℕ, zero, suc, ◌+◌, ◌≤◌, ◌<◌, Bool, true, false, List, ◌++◌, length, take, set, get_or, get_or-set_other, get_or-set_same, arith}
use Rattle.std.proofs.lemmas.Bool.{cases_eq}
use Rattle.std.proofs.lemmas.List.{take_all}
use Rattle.phase_assign.specs.Uses.{AreBelow, is_pair, one_if, times}
use Rattle.dual_rail.specs.declared.signed.SignedNode.{SignedNode}
use Rattle.phase_assign.proofs.Totals.{below_at, item_next, pair_is, times-append}

not_pair : (n : ℕ) (s : Bool) (p : SignedNode) → (p.node ≡ n → ⊥) → one_if (is_pair n s p) ≡ 0
not_pair n s p other = by (is_pair n s p) refl
  where
    by : (b : Bool) → is_pair n s p ≡ b → one_if (is_pair n s p) ≡ 0
    by true e = absurd (other (pair_is n s p e).0)
    by false e = ap one_if e

-- a change noted for one pair more
pub noted_next : (looked : List SignedNode) (i : ℕ) (d : SignedNode) (first changed : List ℕ) (size : ℕ) → i < length looked → AreBelow (length changed) looked
    → ((n : ℕ) → (get_or changed n 0 ≡ size) ⊎ ((get_or changed n 0 ≡ get_or first n 0) × ((s : Bool) → times n s (take i looked) ≡ 0)))
    → (n : ℕ) → (get_or (set changed (get_or looked i d).node size) n 0 ≡ size)
    ⊎ ((get_or (set changed (get_or looked i d).node size) n 0 ≡ get_or first n 0) × ((s : Bool) → times n s (take (i + 1) looked) ≡ 0))
noted_next looked i d first changed size lt below so_far n = by (cases_eq n (get_or looked i d).node) (so_far n)
  where
    by : (n ≡ (get_or looked i d).node) ⊎ (n ≡ (get_or looked i d).node → ⊥) → (get_or changed n 0 ≡ size) ⊎ ((get_or changed n 0 ≡ get_or first n 0) × ((s : Bool) → times n s (take i looked) ≡ 0))
        → (get_or (set changed (get_or looked i d).node size) n 0 ≡ size)
        ⊎ ((get_or (set changed (get_or looked i d).node size) n 0 ≡ get_or first n 0) × ((s : Bool) → times n s (take (i + 1) looked) ≡ 0))
    by (inl e) old = inl (subst (λ k. get_or (set changed (get_or looked i d).node size) k 0 ≡ size) (sym e) (get_or-set_same changed (get_or looked i d).node size 0 (below_at (length changed) looked i d below lt)))
    by (inr other) (inl e) = inl (get_or-set_other changed (get_or looked i d).node n size 0 other ∙ e)
    by (inr other) (inr (same, none)) =
        inr (
          get_or-set_other changed (get_or looked i d).node n size 0 other ∙ same,
          λ s.
              let next = item_next looked i d lt n s in
              let a = none s in
              let b = not_pair n s (get_or looked i d) (λ e. other (sym e)) in
              omega arith,
        )

pub noted_all : (looked : List SignedNode) (i : ℕ) (first changed : List ℕ) (size : ℕ) → length looked ≤ i
    → ((n : ℕ) → (get_or changed n 0 ≡ size) ⊎ ((get_or changed n 0 ≡ get_or first n 0) × ((s : Bool) → times n s (take i looked) ≡ 0)))
    → (n : ℕ) → (get_or changed n 0 ≡ size) ⊎ ((get_or changed n 0 ≡ get_or first n 0) × ((s : Bool) → times n s looked ≡ 0))
noted_all looked i first changed size le h = subst (λ xs. (n : ℕ) → (get_or changed n 0 ≡ size) ⊎ ((get_or changed n 0 ≡ get_or first n 0) × ((s : Bool) → times n s xs ≡ 0))) (take_all i looked le) h

-- one pair more at which nothing has changed
pub current_next : (looked : List SignedNode) (i : ℕ) (d : SignedNode) (changed : List ℕ) (size : ℕ) → i < length looked → ((n : ℕ) (s : Bool) → 0 < times n s (take i looked) → size ≤ get_or changed n 0)
    → size ≤ get_or changed (get_or looked i d).node 0 → (n : ℕ) (s : Bool) → 0 < times n s (take (i + 1) looked) → size ≤ get_or changed n 0
current_next looked i d changed size lt so_far own n s some = by (cases_eq (get_or looked i d).node n) (so_far n s)
  where
    by : ((get_or looked i d).node ≡ n) ⊎ ((get_or looked i d).node ≡ n → ⊥) → (0 < times n s (take i looked) → size ≤ get_or changed n 0) → size ≤ get_or changed n 0
    by (inl e) old = subst (λ k. size ≤ get_or changed k 0) e own
    by (inr other) old = old (let next = item_next looked i d lt n s in let b = not_pair n s (get_or looked i d) other in omega arith)

pub current_all : (looked : List SignedNode) (i : ℕ) (changed : List ℕ) (size : ℕ) → length looked ≤ i → ((n : ℕ) (s : Bool) → 0 < times n s (take i looked) → size ≤ get_or changed n 0)
    → (n : ℕ) (s : Bool) → 0 < times n s looked → size ≤ get_or changed n 0
current_all looked i changed size le h = subst (λ xs. (n : ℕ) (s : Bool) → 0 < times n s xs → size ≤ get_or changed n 0) (take_all i looked le) h

-- a change noted for the pairs of two lists
pub noted_both : (gone come gone' come' : List SignedNode) (a b d size n : ℕ) → gone' ≡ gone → come' ≡ come → (b ≡ size) ⊎ ((b ≡ a) × ((s : Bool) → times n s gone' ≡ 0))
    → (d ≡ size) ⊎ ((d ≡ b) × ((s : Bool) → times n s come' ≡ 0)) → (d ≡ size) ⊎ ((d ≡ a) × ((s : Bool) → times n s (gone ++ come) ≡ 0))
noted_both gone come gone' come' a b d size n g h first (inl e) = inl e
noted_both gone come gone' come' a b d size n g h (inl e) (inr (same, none)) = inl (same ∙ e)
noted_both gone come gone' come' a b d size n g h (inr (same, none)) (inr (same', none')) =
    inr (
      same' ∙ same,
      λ s.
          let t = times-append n s gone come in
          let x = ap (times n s) g in
          let y = ap (times n s) h in
          let k = none s in
          let l = none' s in
          omega arith,
    )

-- nothing has changed at the pairs of two lists
pub current_both : (gone come gone' come' : List SignedNode) (changes : List ℕ) (size : ℕ) → gone' ≡ gone → come' ≡ come → ((n : ℕ) (s : Bool) → 0 < times n s gone' → size ≤ get_or changes n 0)
    → ((n : ℕ) (s : Bool) → 0 < times n s come' → size ≤ get_or changes n 0) → (n : ℕ) (s : Bool) → 0 < times n s (gone ++ come) → size ≤ get_or changes n 0
current_both gone come gone' come' changes size g h first second n s some = by (times n s gone') refl
  where
    by : (k : ℕ) → times n s gone' ≡ k → size ≤ get_or changes n 0
    by zero e = second n s (let t = times-append n s gone come in let x = ap (times n s) g in let y = ap (times n s) h in omega arith)
    by (suc k) e = first n s (omega arith)
