-- Forests of nets.
use Rattle.std.proofs.Common.{◌≡◌, ◌≢◌, ℕ, zero, suc, ◌<◌, ◌≤◌, List, length, set, refl, sym, ap, ◌∙◌, inl, inr, arith}
use Rattle.std.specs.Prelude.{◌⊎◌}
use Rattle.std.proofs.lemmas.Bool.{cases_eq, cases_lt}
use Rattle.std.proofs.lemmas.List.{get_or-set_same, get_or-set_other, get_or_past}
use Rattle.switch_model.specs.Joins.{above, climb, top_of, IsJoinForest, AreJoined}

-- a top stays where it is
pub climb_top : (times : ℕ) (parents : List ℕ) (net : ℕ) → above parents net ≡ net → climb times parents net ≡ net
climb_top zero parents net e = refl
climb_top (suc times) parents net e = ap (climb times parents) e ∙ climb_top times parents net e

module _ (parents : List ℕ) (forest : IsJoinForest parents) where
  -- as many times up as the number says lead to a top, and more to the same
  climbed : (times net : ℕ) → net ≤ times → above parents (climb times parents net) ≡ climb times parents net
  climbed zero net le = omega (arith, forest net, le, climb_zero net le)
    where
      climb_zero : (n : ℕ) → n ≤ 0 → above parents n ≡ n
      climb_zero n h = omega (arith, forest n, h)
  climbed (suc times) net le = elim (cases_eq (above parents net) net) [
    | inl e ↦ rw (climb_top times parents (above parents net) (ap (above parents) e)) (ap (above parents) e)
    | inr ne ↦ climbed times (above parents net) (omega (arith, forest net, ne, le))
  ]

  climb_more : (times net : ℕ) → net ≤ times → climb (suc times) parents net ≡ climb times parents net
  climb_more zero net le = ap (λ n. n) (omega (arith, forest net, le))
  climb_more (suc times) net le = elim (cases_eq (above parents net) net) [
    | inl e ↦ climb_top (suc (suc times)) parents net e ∙ sym (climb_top (suc times) parents net e)
    | inr ne ↦ climb_more times (above parents net) (omega (arith, forest net, ne, le))
  ]

  past : (net : ℕ) → length parents ≤ net → above parents net ≡ net
  past net le = get_or_past parents net net le

  -- the top is a top
  pub top_is : (net : ℕ) → above parents (top_of parents net) ≡ top_of parents net
  top_is net = elim (cases_lt net (length parents)) [
    | inl lt ↦ climbed (length parents) net (omega (arith, lt))
    | inr le ↦ rw (climb_top (length parents) parents net (past net le)) (past net le)
  ]

  -- a net and the one above it have one top
  pub top_above : (net : ℕ) → top_of parents (above parents net) ≡ top_of parents net
  top_above net = elim (cases_lt net (length parents)) [
    | inl lt ↦ climb_more (length parents) net (omega (arith, lt))
    | inr le ↦ ap (top_of parents) (past net le)
  ]

  pub top_top : (net : ℕ) → above parents net ≡ net → top_of parents net ≡ net
  top_top net e = climb_top (length parents) parents net e

  top_low_by : (times net : ℕ) → climb times parents net ≤ net
  top_low_by zero net = omega arith
  top_low_by (suc times) net = omega (arith, top_low_by times (above parents net), forest net)

  pub top_low : (net : ℕ) → top_of parents net ≤ net
  top_low net = top_low_by (length parents) net

-- the top gone goes below the top keep
module _ (parents : List ℕ) (forest : IsJoinForest parents) (keep gone : ℕ) (le : keep ≤ gone) (lt : gone < length parents) (top_keep : above parents keep ≡ keep) where
  abbrev pub moved : List ℕ
  moved = set parents gone keep

  other : (net : ℕ) → net ≢ gone → above moved net ≡ above parents net
  other net ne = get_or-set_other parents gone net keep net ne

  here : above moved gone ≡ keep
  here = get_or-set_same parents gone keep gone lt

  pub moved_forest : IsJoinForest moved
  moved_forest net = elim (cases_eq net gone) [
    | inl e ↦ rw e (omega (arith, here, le))
    | inr ne ↦ omega (arith, other net ne, forest net)
  ]

  top_gone : top_of moved gone ≡ keep
  top_gone = elim (cases_eq keep gone) [
    | inl e ↦ top_top moved moved_forest gone (here ∙ e) ∙ sym e
    | inr ne ↦ sym (top_above moved moved_forest gone) ∙ ap (top_of moved) here ∙ top_top moved moved_forest keep (other keep ne ∙ top_keep)
  ]

  -- of each net the top is as before, but keep where it was gone
  abbrev pub IsMoved : ℕ → Type 0
  IsMoved net = ((top_of parents net ≡ gone) × (top_of moved net ≡ keep)) ⊎ ((top_of parents net ≢ gone) × (top_of moved net ≡ top_of parents net))

  module _ (top_is_gone : above parents gone ≡ gone) where
    moved_step : (net : ℕ) → (above parents net < net → IsMoved (above parents net)) → (net ≡ gone) ⊎ (net ≡ gone → ⊥) → (above parents net ≡ net) ⊎ (above parents net ≡ net → ⊥) → IsMoved net
    moved_step net more (inl e) x = inl (ap (top_of parents) e ∙ top_top parents forest gone top_is_gone, ap (top_of moved) e ∙ top_gone)
    moved_step net more (inr ne) (inl t) =
        let a = top_top parents forest net t in
        let b = top_top moved moved_forest net (other net ne ∙ t) in
        inr ((λ z. ne (sym a ∙ z)), b ∙ sym a)
    moved_step net more (inr ne) (inr nt) =
        let y = above parents net in
        let a : top_of parents y ≡ top_of parents net = top_above parents forest net in
        let b : top_of moved y ≡ top_of moved net = ap (top_of moved) (sym (other net ne)) ∙ top_above moved moved_forest net in
        elim (more (omega (arith, forest net, nt))) [
          | inl z ↦ inl (sym a ∙ z.0, sym b ∙ z.1)
          | inr z ↦ inr ((λ g. z.0 (a ∙ g)), sym b ∙ z.1 ∙ a)
        ]

    moved_by : (times net : ℕ) → net ≤ times → IsMoved net
    moved_by zero net small = moved_step net (λ lt. absurd (omega (arith, lt, small))) (cases_eq net gone) (cases_eq (above parents net) net)
    moved_by (suc times) net small = moved_step net (λ lt. moved_by times (above parents net) (omega (arith, lt, small))) (cases_eq net gone) (cases_eq (above parents net) net)

    pub moved_is : (net : ℕ) → IsMoved net
    moved_is net = moved_by net net (omega arith)

    -- what is joined then: what was, and what was joined to the one and to the other
    module _ (a b : ℕ) (at_a : top_of parents a ≡ keep) (at_b : top_of parents b ≡ gone) where
      pub joined_to : (x y : ℕ) → AreJoined moved x y → AreJoined parents x y ⊎ ((AreJoined parents x a × AreJoined parents b y) ⊎ (AreJoined parents x b × AreJoined parents a y))
      joined_to x y e = by (moved_is x) (moved_is y)
        where
          by : IsMoved x → IsMoved y → AreJoined parents x y ⊎ ((AreJoined parents x a × AreJoined parents b y) ⊎ (AreJoined parents x b × AreJoined parents a y))
          by (inl u) (inl v) = inl (u.0 ∙ sym v.0)
          by (inl u) (inr v) = inr (inr (u.0 ∙ sym at_b, at_a ∙ sym u.1 ∙ e ∙ v.1))
          by (inr u) (inl v) = inr (inl (sym u.1 ∙ e ∙ v.1 ∙ sym at_a, at_b ∙ sym v.0))
          by (inr u) (inr v) = inl (sym u.1 ∙ e ∙ v.1)

      -- a net whose top was keep has it still
      top_kept : (x : ℕ) → top_of parents x ≡ keep → top_of moved x ≡ keep
      top_kept x e = elim (moved_is x) [ inl u ↦ u.1 | inr v ↦ v.1 ∙ e ]

      top_changed : (x : ℕ) → top_of parents x ≡ gone → top_of moved x ≡ keep
      top_changed x e = elim (moved_is x) [ inl u ↦ u.1 | inr v ↦ absurd (v.0 e) ]

      pub joined_from : (x y : ℕ) → AreJoined parents x y ⊎ ((AreJoined parents x a × AreJoined parents b y) ⊎ (AreJoined parents x b × AreJoined parents a y)) → AreJoined moved x y
      joined_from x y (inl e) = by (moved_is x) (moved_is y)
        where
          by : IsMoved x → IsMoved y → AreJoined moved x y
          by (inl u) (inl v) = u.1 ∙ sym v.1
          by (inl u) (inr v) = absurd (v.0 (sym e ∙ u.0))
          by (inr u) (inl v) = absurd (u.0 (e ∙ v.0))
          by (inr u) (inr v) = u.1 ∙ e ∙ sym v.1
      joined_from x y (inr (inl z)) = top_kept x (z.0 ∙ at_a) ∙ sym (top_changed y (sym z.1 ∙ at_b))
      joined_from x y (inr (inr z)) = top_changed x (z.0 ∙ at_b) ∙ sym (top_kept y (sym z.1 ∙ at_a))

-- a net comes to stand below the one that is twice above it: all tops stay
module _ (parents : List ℕ) (forest : IsJoinForest parents) (at : ℕ) (lt : at < length parents) where
  abbrev pub up_twice : ℕ
  up_twice = above parents (above parents at)

  abbrev pub halved : List ℕ
  halved = set parents at up_twice

  halved_other : (net : ℕ) → net ≢ at → above halved net ≡ above parents net
  halved_other net ne = get_or-set_other parents at net up_twice net ne

  pub halved_here : above halved at ≡ up_twice
  halved_here = get_or-set_same parents at up_twice at lt

  pub halved_forest : IsJoinForest halved
  halved_forest net = elim (cases_eq net at) [
    | inl e ↦ rw e (omega (arith, halved_here, forest at, forest (above parents at)))
    | inr ne ↦ omega (arith, halved_other net ne, forest net)
  ]

  halved_step : (net : ℕ) → ((m : ℕ) → m < net → top_of halved m ≡ top_of parents m) → (net ≡ at) ⊎ (net ≡ at → ⊥) → top_of halved net ≡ top_of parents net
  halved_step net more (inl e) = by (cases_eq up_twice at)
    where
      by : (up_twice ≡ at) ⊎ (up_twice ≡ at → ⊥) → top_of halved net ≡ top_of parents net
      by (inl t) =
          let stays : above parents at ≡ at = omega (arith, t, forest at, forest (above parents at)) in
          ap (top_of halved) e ∙ top_top halved halved_forest at (halved_here ∙ t) ∙ sym (top_top parents forest at stays) ∙ ap (top_of parents) (sym e)
      by (inr ne) =
          ap (top_of halved) e ∙ sym (top_above halved halved_forest at) ∙ ap (top_of halved) halved_here
          ∙ more up_twice (omega (arith, e, ne, forest at, forest (above parents at)))
          ∙ top_above parents forest (above parents at) ∙ top_above parents forest at ∙ ap (top_of parents) (sym e)
  halved_step net more (inr ne) = by (cases_eq (above parents net) net)
    where
      by : (above parents net ≡ net) ⊎ (above parents net ≡ net → ⊥) → top_of halved net ≡ top_of parents net
      by (inl t) = top_top halved halved_forest net (halved_other net ne ∙ t) ∙ sym (top_top parents forest net t)
      by (inr nt) =
          sym (top_above halved halved_forest net) ∙ ap (top_of halved) (halved_other net ne)
          ∙ more (above parents net) (omega (arith, forest net, nt)) ∙ top_above parents forest net

  halved_by : (times net : ℕ) → net ≤ times → top_of halved net ≡ top_of parents net
  halved_by zero net small = halved_step net (λ m below. absurd (omega (arith, below, small))) (cases_eq net at)
  halved_by (suc times) net small = halved_step net (λ m below. halved_by times m (omega (arith, below, small))) (cases_eq net at)

  pub halved_tops : (net : ℕ) → top_of halved net ≡ top_of parents net
  halved_tops net = halved_by net net (omega arith)
