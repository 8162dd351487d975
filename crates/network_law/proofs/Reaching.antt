-- Whether edges lead from one node to another, and a number of each node that falls along edges, where none lead back.
use Rattle.std.proofs.Common.{◌≡◌, ℕ, ◌<◌, ◌≤◌, ◌+◌, ◌⊎◌, inl, inr, max, List, [], ◌∷◌, map, refl, ap, sym, ◌∙◌, subst, arith}
use Rattle.std.specs.Prelude.{Contains}
use Rattle.std.specs.List.{fold}
use Rattle.dom_base.specs.Decided.{Decided}
use Rattle.dom_base.proofs.Decided.{dec_and, dec_any, dec_map, dec_or}
use Rattle.dom_base.proofs.Lists.{AllByRecursion-contains, AllByRecursion-unmap, Contains-first, Contains-later}
use Rattle.model_calls.specs.Reaches.{Reaches, more, step}
use Rattle.model_calls.proofs.Fitting.{contains_cons}
use Rattle.network.proofs.Lists.{each_le_greatest}
use Rattle.model_calls.proofs.Reaching.{reaches_by}

pub reaches_then : {Node : Type 0} {Step : Node → Node → Type 0} {a b c : Node} → Reaches Step a b → Reaches Step b c → Reaches Step a c
reaches_then (step s) then = more s then
reaches_then (more s rest) then = more s (reaches_then rest then)

-- each edge goes from one node to some nodes
module _ {Node Edge : Type 0} (from : Edge → Node) (to : Edge → List Node) where
  abbrev pub IsStep : List Edge → Node → Node → Type 0
  IsStep edges a b = (e : Edge) × Contains edges e × (from e ≡ a) × Contains (to e) b

  -- no step or more lead from one node to another
  abbrev Comes : List Edge → Node → Node → Type 0
  Comes edges a b = (a ≡ b) ⊎ Reaches (IsStep edges) a b

  comes_after : (edges : List Edge) (a b c : Node) → IsStep edges a b → Comes edges b c → Reaches (IsStep edges) a c
  comes_after edges a b c s (inl is) = subst (Reaches (IsStep edges) a) is (step s)
  comes_after edges a b c s (inr rest) = more s rest

  -- a number falls along each edge
  abbrev pub IsFalling : List Edge → (Node → ℕ) → Type 0
  IsFalling edges rank = (a b : Node) → IsStep edges a b → rank b < rank a

  -- one edge more
  module _ (e : Edge) (edges : List Edge) where
    own : (b : Node) → Contains (to e) b → IsStep (e ∷ edges) (from e) b
    own b c = (e, Contains-first e edges, refl, c)

    still : (a b : Node) → IsStep edges a b → IsStep (e ∷ edges) a b
    still a b (d, inside, is, c) = (d, Contains-later e edges d inside, is, c)

    still_comes : (a b : Node) → Comes edges a b → Comes (e ∷ edges) a b
    still_comes a b (inl is) = inl is
    still_comes a b (inr rest) = inr (reaches_by still rest)

    -- a step is one along the new edge, or one along the others
    step_cases : (a b : Node) → IsStep (e ∷ edges) a b → ((a ≡ from e) × Contains (to e) b) ⊎ IsStep edges a b
    step_cases a b (d, inside, is, c) = elim (contains_cons e edges d inside) [
      | inl same ↦ inl (sym is ∙ ap from (sym same), subst (λ x. Contains (to x) b) (sym same) c)
      | inr there ↦ inr (d, there, is, c)
    ]

    abbrev Through : Node → Node → Type 0
    Through a b = Comes edges a (from e) × ((next : Node) × Contains (to e) next × Comes edges next b)

    reach_cases : {a b : Node} → Reaches (IsStep (e ∷ edges)) a b → Reaches (IsStep edges) a b ⊎ Through a b
    reach_cases (step {a} {b} s) = elim (step_cases a b s) [
      | inl new ↦ inr (inl new.0, (b, new.1, inl refl))
      | inr old ↦ inl (step old)
    ]
    reach_cases (more {a} {b} {c} s rest) = elim (step_cases a b s) [
      | inl new ↦ elim (reach_cases rest) [
        | inl onward ↦ inr (inl new.0, (b, new.1, inr onward))
        | inr through ↦ inr (inl new.0, through.1)
      ]
      | inr old ↦ elim (reach_cases rest) [
        | inl onward ↦ inl (more old onward)
        | inr through ↦ inr (inr (comes_after edges a b (from e) old through.0), through.1)
      ]
    ]

    reach_through : (a b : Node) → Through a b → Reaches (IsStep (e ∷ edges)) a b
    reach_through a b (before, (next, c, rest)) = by before
      where
        onward : Reaches (IsStep (e ∷ edges)) (from e) b
        onward = comes_after (e ∷ edges) (from e) next b (own next c) (still_comes next b rest)

        by : Comes edges a (from e) → Reaches (IsStep (e ∷ edges)) a b
        by (inl is) = subst (λ x. Reaches (IsStep (e ∷ edges)) x b) (sym is) onward
        by (inr first) = reaches_then (reaches_by still first) onward

  module _ (same : (a b : Node) → Decided (a ≡ b)) where
    pub dec_reaches : (edges : List Edge) (a b : Node) → Decided (Reaches (IsStep edges) a b)
    dec_reaches [] a b = inr none
      where
        no_step : {x y : Node} → IsStep [] x y → ⊥
        no_step (d, (k, l, e), is, c) = omega (arith, l)

        none : {x y : Node} → Reaches (IsStep []) x y → ⊥
        none (step s) = no_step s
        none (more s rest) = no_step s
    dec_reaches (e ∷ edges) a b = dec_map
        (λ h. elim h [ inl rest ↦ reaches_by (still e edges) rest | inr through ↦ reach_through e edges a b through ])
        (reach_cases e edges)
        (dec_or (dec_reaches edges a b)
        (dec_and (dec_or (same a (from e)) (dec_reaches edges a (from e)))
        (dec_any (λ next. Comes edges next b) (λ next. dec_or (same next b) (dec_reaches edges next b)) (to e))))

    pub dec_comes : (edges : List Edge) (a b : Node) → Decided (Comes edges a b)
    dec_comes edges a b = dec_or (same a b) (dec_reaches edges a b)

    -- a number, or a greater one where something holds
    raised : {P : Type 0} → Decided P → ℕ → ℕ → ℕ
    raised (inl holds) n rise = n + rise
    raised (inr fails) n rise = n

    raised_where : {P : Type 0} (d : Decided P) (n rise : ℕ) → P → raised d n rise ≡ n + rise
    unfolding raised
    raised_where (inl holds) n rise p = refl
    raised_where (inr fails) n rise p = absurd (fails p)

    raised_elsewhere : {P : Type 0} (d : Decided P) (n rise : ℕ) → (P → ⊥) → raised d n rise ≡ n
    unfolding raised
    raised_elsewhere (inl holds) n rise p = absurd (p holds)
    raised_elsewhere (inr fails) n rise p = refl

    raised_least : {P : Type 0} (d : Decided P) (n rise : ℕ) → n ≤ raised d n rise
    unfolding raised
    raised_least (inl holds) n rise = omega arith
    raised_least (inr fails) n rise = omega arith

    pub ranks : (edges : List Edge) → ((a : Node) → Reaches (IsStep edges) a a → ⊥) → (rank : Node → ℕ) × IsFalling edges rank
    ranks [] none = ((λ a. 0), λ a b s. absurd (omega (arith, s.1.1)))
    ranks (e ∷ edges) none = by (ranks edges (λ a back. none a (reaches_by (still e edges) back)))
      where
        by : (rank : Node → ℕ) × IsFalling edges rank → (rank : Node → ℕ) × IsFalling (e ∷ edges) rank
        by (rank, falls) = (high, λ a b s. falling a b (step_cases e edges a b s))
          where
            above : ℕ
            above = 1 + fold max 0 (map rank (to e))

            -- nodes that come to the new edge are put above all that it goes to
            high : Node → ℕ
            high a = raised (dec_comes edges a (from e)) (rank a) above

            never_back : (b : Node) → Contains (to e) b → Comes edges b (from e) → ⊥
            never_back b c back =
                none (from e) (comes_after (e ∷ edges) (from e) b (from e) (own e edges b c) (still_comes e edges b (from e) back))

            falling : (a b : Node) → ((a ≡ from e) × Contains (to e) b) ⊎ IsStep edges a b → high b < high a
            falling a b (inl (is, c)) =
                let down = raised_elsewhere (dec_comes edges b (from e)) (rank b) above (never_back b c) in
                let up = raised_where (dec_comes edges a (from e)) (rank a) above (inl is) in
                let most = AllByRecursion-contains (λ x. rank x ≤ fold max 0 (map rank (to e))) (to e) b
                (AllByRecursion-unmap (λ k. k ≤ fold max 0 (map rank (to e))) rank (to e) (each_le_greatest 0 (map rank (to e)))) c in
                omega (arith, down, up, most)
            falling a b (inr old) = elim (dec_comes edges b (from e)) [
              | inl comes ↦ omega (
                arith,
                falls a b old,
                raised_where (dec_comes edges b (from e)) (rank b) above comes,
                raised_where (dec_comes edges a (from e)) (rank a) above (inr (comes_after edges a b (from e) old comes)),
              )
              | inr elsewhere ↦ omega (
                arith,
                falls a b old,
                raised_elsewhere (dec_comes edges b (from e)) (rank b) above elsewhere,
                raised_least (dec_comes edges a (from e)) (rank a) above,
              )
            ]
