-- Heights of nodes along edges that don't lead back: 1 and the greatest height of those that a node's edge goes to.
use Rattle.std.proofs.Common.{◌≡◌, ℕ, zero, suc, ◌<◌, ◌+◌, inl, inr, max, List, map, refl, ap, ◌∙◌, arith}
use Rattle.std.specs.Prelude.{Contains}
use Rattle.std.specs.List.{fold}
use Rattle.dom_base.specs.Decided.{Decided}
use Rattle.dom_base.proofs.Decided.{dec_any}
use Rattle.dom_base.proofs.Lists.{AllByRecursion-weaker}
use Rattle.model_calls.proofs.EachPart.{each_itself}
use Rattle.network.proofs.Lists.{map_same}
use Rattle.network_law.proofs.Reaching.{IsFalling, IsStep}

module _ {Node Edge : Type 0} (from : Edge → Node) (to : Edge → List Node) (same : (a b : Node) → Decided (a ≡ b))
    (edges : List Edge) where
  abbrev pub HasEdge : Node → Type 0
  HasEdge a = (e : Edge) × Contains edges e × (from e ≡ a)

  has_edge : (a : Node) → Decided (HasEdge a)
  has_edge a = dec_any (λ e. from e ≡ a) (λ e. same (from e) a) edges

  above : (Node → ℕ) → {a : Node} → Decided (HasEdge a) → ℕ
  above height (inl found) = 1 + fold max 0 (map height (to found.0))
  above height (inr none) = 0

  above_same : (g h : Node → ℕ) (a : Node) (d : Decided (HasEdge a)) → ((b : Node) → IsStep from to edges a b → g b ≡ h b)
      → above g d ≡ above h d
  unfolding above
  above_same g h a (inl found) agree = ap (λ heights. 1 + fold max 0 heights) (map_same g h (to found.0)
      (AllByRecursion-weaker (Contains (to found.0)) (λ b. g b ≡ h b) (λ b c. agree b (found.0, found.1, found.2, c)) (to found.0)
      (each_itself (to found.0))))
  above_same g h a (inr none) agree = refl

  -- the height of a node over so many edges
  height_to : ℕ → Node → ℕ
  height_to zero a = 0
  height_to (suc depth) a = above (height_to depth) (has_edge a)

  module _ (rank : Node → ℕ) (falls : IsFalling from to edges rank) where
    height_stays : (d e : ℕ) (a : Node) → rank a < d → rank a < e → height_to d a ≡ height_to e a
    unfolding height_to
    height_stays zero e a l m = absurd (omega (arith, l))
    height_stays (suc d) zero a l m = absurd (omega (arith, m))
    height_stays (suc d) (suc e) a l m = above_same (height_to d) (height_to e) a (has_edge a)
        (λ b s. let less = falls a b s in height_stays d e b (omega (arith, less, l)) (omega (arith, less, m)))

    pub height : Node → ℕ
    height a = height_to (suc (rank a)) a

    -- the heights of what a node's edge goes to
    abbrev below : Node → Node → ℕ
    below a = height_to (rank a)

    -- where each node has one edge at most
    pub height_of_edge : ((d e : Edge) → Contains edges d → Contains edges e → from d ≡ from e → d ≡ e)
        → (e : Edge) → Contains edges e → height (from e) ≡ 1 + fold max 0 (map height (to e))
    unfolding height height_to above
    height_of_edge once e c =
        by (has_edge (from e))
        ∙ ap (λ heights. 1 + fold max 0 heights) (map_same (below (from e)) height (to e)
        (AllByRecursion-weaker (Contains (to e)) (λ b. below (from e) b ≡ height b) (λ b d. stays b d) (to e) (each_itself (to e))))
      where
        stays : (b : Node) → Contains (to e) b → below (from e) b ≡ height b
        stays b d = height_stays (rank (from e)) (suc (rank b)) b (falls (from e) b (e, c, refl, d)) (omega arith)

        by : (d : Decided (HasEdge (from e))) → above (below (from e)) d ≡ 1 + fold max 0 (map (below (from e)) (to e))
        by (inl found) = ap (λ x. 1 + fold max 0 (map (below (from e)) (to x))) (once found.0 e found.1 c found.2)
        by (inr none) = absurd (none (e, c, refl))

    pub height_elsewhere : (a : Node) → (HasEdge a → ⊥) → height a ≡ 0
    unfolding height height_to above
    height_elsewhere a none = by (has_edge a)
      where
        by : (d : Decided (HasEdge a)) → above (height_to (rank a)) d ≡ 0
        by (inl found) = absurd (none found)
        by (inr fails) = refl
