-- What the top of a stage without taps goes to.
use Rattle.std.specs.List.{AllByRecursion}
use Rattle.std.specs.Prelude.{Contains, Some, slice_get, ◌≢◌, ◌⊎◌}
use Rattle.std.proofs.Common.{Bool, List, [], subst, true, ℕ, ◌≡◌}
use Rattle.std.proofs.lemmas.List.{append-nil}
use Rattle.dom_base.specs.declared.kind.Kind.TheVariants.{Keep}
use Rattle.dom_base.specs.declared.tri.Tri.{Tri}
use Rattle.dom_base.specs.declared.tri.Tri.TheVariants.{One, Zero}
use Rattle.deck.specs.Paths.{DefiniteStrong, PossibleStrong}
use Rattle.deck.specs.Switches.{value_of}
use Rattle.deck.specs.declared.device.Device.{Device}
use Rattle.sp_network.specs.Tree.{tree_conduction}
use Rattle.domino_cell.specs.Stage.{Branch, IsStage, Spot, Top}
use Rattle.domino_cell.specs.Tapped.{IsTapped}
use Rattle.domino_cell.proofs.Untapped.{as_tapped}
use Rattle.switch_model.specs.Targets.{IsTarget}
use Rattle.stage_law.proofs.TappedTargets as with_taps

module _ (devices : List Device) (is_source : ℕ → Bool) (at : Spot → ℕ) (bs : List Branch) (is : IsStage devices is_source at bs)
    (values : List Tri) where
  is_tapped : IsTapped devices is_source at bs []
  is_tapped = as_tapped devices is_source at bs is

  pub strong_through : (s : ℕ) → PossibleStrong devices is_source values (at Top) s → is_source s ≡ true
      → (b : Branch) × Contains bs b × (s ≡ b.supply) × (b.kind ≢ Keep) × (tree_conduction b.kind (value_of values) b.tree ≢ Zero)
  strong_through s p h =
      let t = with_taps.strong_through devices is_source at bs [] is_tapped values s p h in
      (t.0, subst (λ l. Contains l t.0) (append-nil bs) t.1, t.2, t.3, t.4)

  pub definite_through : (s : ℕ) → DefiniteStrong devices is_source values (at Top) s → is_source s ≡ true
      → (b : Branch) × Contains bs b × (s ≡ b.supply) × (b.kind ≢ Keep) × (tree_conduction b.kind (value_of values) b.tree ≡ One)
  definite_through s p h =
      let t = with_taps.definite_through devices is_source at bs [] is_tapped values s p h in
      (t.0, subst (λ l. Contains l t.0) (append-nil bs) t.1, t.2, t.3, t.4)

  pub strong_may : (i : ℕ) (b : Branch) → slice_get bs i ≡ Some b → b.kind ≢ Keep → tree_conduction b.kind (value_of values) b.tree ≢ Zero
      → PossibleStrong devices is_source values (at Top) b.supply
  strong_may = with_taps.strong_may devices is_source at bs [] is_tapped values

  pub drives : (i : ℕ) (b : Branch) → slice_get bs i ≡ Some b → b.kind ≢ Keep → tree_conduction b.kind (value_of values) b.tree ≡ One
      → AllByRecursion (λ c. (c.kind ≡ Keep) ⊎ ((tree_conduction c.kind (value_of values) c.tree ≡ Zero) ⊎ (value_of values c.supply ≡ value_of values b.supply))) bs
      → IsTarget devices is_source values (at Top) (value_of values b.supply)
  drives i b e k h all = with_taps.drives devices is_source at bs [] is_tapped values i b e k h (rw append-nil all)
