-- The target of a stage's top, from what its branches do.
use Rattle.std.specs.List.{AllByRecursion}
use Rattle.std.specs.Prelude.{Contains, Some, slice_get, ◌≢◌, ◌⊎◌}
use Rattle.std.proofs.Common.{Bool, List, [], inl, inr, map, refl, sym, true, ℕ, ◌∙◌, ◌∷◌, ◌≡◌}
use Rattle.std.proofs.lemmas.List.Elements.{recursion_from_All}
use Rattle.dom_base.specs.Conduction.{conduction}
use Rattle.dom_base.specs.declared.kind.Kind.TheVariants.{Keep}
use Rattle.dom_base.specs.declared.tri.Tri.{Tri}
use Rattle.dom_base.specs.declared.tri.Tri.TheVariants.{One, Zero}
use Rattle.dom_base.proofs.Lists.{AllByRecursion-both, AllByRecursion-contains, AllByRecursion-left, AllByRecursion-weaker, Contains-slice_get}
use Rattle.deck.specs.Paths.{DefiniteStrong, DefiniteWeak, IsWeak, Path, PossibleStrong}
use Rattle.deck.specs.Switches.{IsNotOff, IsOn, value_of}
use Rattle.deck.specs.declared.device.Device.{Device}
use Rattle.deck.proofs.Reach.{Reach-from_path, path_from_Reach}
use Rattle.sp_network.specs.Known.{is_not_zero, is_one}
use Rattle.sp_network.specs.Tree.{tree_conduction}
use Rattle.sp_network.proofs.TreeTests.{IsTest-is_not_zero, IsTest-is_one, is_not_zero-from, is_not_zero-true, is_one-true, joins-conduction}
use Rattle.domino_cell.specs.Stage.{Branch, Spot, Top}
use Rattle.domino_cell.specs.Steps.{IsStrongStep}
use Rattle.domino_cell.proofs.Paths.{Reach-from_definite, Reach-from_possible, definite_from_Reach, possible_from_Reach}
use Rattle.switch_model.specs.Targets.{IsTarget}
use Rattle.switch_model.proofs.Targets.{definite-possible_strong}
use Rattle.domino_cell.specs.Tapped.{IsTapped, Tap, tap_branch, ways}
use Rattle.domino_cell.proofs.Stages.{goes, through}

module _ (devices : List Device) (is_source : ℕ → Bool) (at : Spot → ℕ) (bs : List Branch) (taps : List Tap) (is : IsTapped devices is_source at bs taps) (values : List Tri) where
  -- a possible strong path to a source goes through a strong branch that is not off
  pub strong_through : (s : ℕ) → PossibleStrong devices is_source values (at Top) s → is_source s ≡ true
      → (b : Branch) × Contains (ways bs taps) b × (s ≡ b.supply) × (b.kind ≢ Keep) × (tree_conduction b.kind (value_of values) b.tree ≢ Zero)
  strong_through s p h =
      let t = through devices is_source at bs taps is (IsStrongStep devices is_not_zero values) (λ kind gate. is_not_zero (conduction kind (value_of values gate)))
      (λ d q. q.of) (λ d q. q.pass) s (Reach-from_possible devices is_source values (at Top) s p) h in
      (t.branch, t.among, t.ends, (λ z. (t.has).strong (t.of_kind ∙ z)), is_not_zero-true _ (joins-conduction is_not_zero IsTest-is_not_zero (t.branch).kind (value_of values) (t.branch).tree ∙ t.conducts))

  -- and any possible path goes through a branch that is not off
  pub any_through : (s : ℕ) (p : List Device) → Path is_source (at Top) p s → AllByRecursion (Contains devices) p → AllByRecursion (IsNotOff values) p → is_source s ≡ true
      → (b : Branch) × Contains (ways bs taps) b × (s ≡ b.supply) × (tree_conduction b.kind (value_of values) b.tree ≢ Zero)
  any_through s p r c n h =
      let t = through devices is_source at bs taps is (λ d. Contains devices d × IsNotOff values d) (λ kind gate. is_not_zero (conduction kind (value_of values gate)))
      (λ d q. q.0) (λ d q. is_not_zero-from _ q.1) s (Reach-from_path _ is_source r (AllByRecursion-both (Contains devices) (IsNotOff values) p c n)) h in
      (t.branch, t.among, t.ends, is_not_zero-true _ (joins-conduction is_not_zero IsTest-is_not_zero (t.branch).kind (value_of values) (t.branch).tree ∙ t.conducts))

  -- a strong branch that is on gives a definite strong path
  pub strong_goes : (i : ℕ) (b : Branch) → slice_get bs i ≡ Some b → b.kind ≢ Keep → tree_conduction b.kind (value_of values) b.tree ≡ One → DefiniteStrong devices is_source values (at Top) b.supply
  strong_goes i b e k h =
      definite_from_Reach devices is_source values (at Top) b.supply
      (goes devices is_source at bs taps is (IsStrongStep devices is_one values) (λ kind gate. is_one (conduction kind (value_of values gate))) i b e
      (λ d c z o. record { of = c; pass = o; strong = λ y. k (sym z ∙ y) })
      (sym (joins-conduction is_one IsTest-is_one b.kind (value_of values) b.tree) ∙ rw h refl))

  -- one that is not off gives a possible one
  pub strong_may : (i : ℕ) (b : Branch) → slice_get bs i ≡ Some b → b.kind ≢ Keep → tree_conduction b.kind (value_of values) b.tree ≢ Zero → PossibleStrong devices is_source values (at Top) b.supply
  strong_may i b e k h =
      possible_from_Reach devices is_source values (at Top) b.supply
      (goes devices is_source at bs taps is (IsStrongStep devices is_not_zero values) (λ kind gate. is_not_zero (conduction kind (value_of values gate))) i b e
      (λ d c z o. record { of = c; pass = o; strong = λ y. k (sym z ∙ y) })
      (sym (joins-conduction is_not_zero IsTest-is_not_zero b.kind (value_of values) b.tree) ∙ is_not_zero-from _ h))

  -- a keeper branch that is on gives a definite weak path
  pub weak_goes : (i : ℕ) (b : Branch) → slice_get bs i ≡ Some b → b.kind ≡ Keep → tree_conduction b.kind (value_of values) b.tree ≡ One → DefiniteWeak devices is_source values (at Top) b.supply
  weak_goes i b e k h =
      let r = goes devices is_source at bs taps is (λ d. Contains devices d × (IsOn values d × (d.kind ≡ Keep))) (λ kind gate. is_one (conduction kind (value_of values gate))) i b e
      (λ d c z o. (c, (is_one-true _ o, z ∙ k)))
      (sym (joins-conduction is_one IsTest-is_one b.kind (value_of values) b.tree) ∙ rw h refl) in
      let w = path_from_Reach (λ d. Contains devices d × (IsOn values d × (d.kind ≡ Keep))) is_source r in
      (w.0, w.1, AllByRecursion-weaker _ (Contains devices) (λ d q. q.0) w.0 w.2, AllByRecursion-weaker _ (IsOn values) (λ d q. q.1.0) w.0 w.2, weak w.0 w.1 (AllByRecursion-weaker _ (λ d. d.kind ≡ Keep) (λ d q. q.1.1) w.0 w.2))
    where
      weak : {a b : ℕ} (p : List Device) → Path is_source a p b → AllByRecursion (λ d. d.kind ≡ Keep) p → IsWeak p
      weak [] r h = elim r [ ]
      weak (d ∷ ds) r h = inl h.0

  -- a strong branch that is on, where each strong branch that is not off has a supply of the same value, sets the target
  pub drives : (i : ℕ) (b : Branch) → slice_get bs i ≡ Some b → b.kind ≢ Keep → tree_conduction b.kind (value_of values) b.tree ≡ One
      → AllByRecursion (λ c. (c.kind ≡ Keep) ⊎ ((tree_conduction c.kind (value_of values) c.tree ≡ Zero) ⊎ (value_of values c.supply ≡ value_of values b.supply))) (ways bs taps)
      → IsTarget devices is_source values (at Top) (value_of values b.supply)
  drives i b e k h all =
      inl (
        (b.supply, strong_goes i b e k h, AllByRecursion-contains (λ c. is_source c.supply ≡ true) bs b (AllByRecursion-left _ bs (map tap_branch taps) (recursion_from_All (λ b. is_source b.supply ≡ true) (ways bs taps) is.supplies)) (Contains-slice_get bs i b e), refl),
        (λ s p q. let t = strong_through s p q in agree s t.0 t.2 t.3 t.4 (AllByRecursion-contains _ (ways bs taps) t.0 all t.1)),
      )
    where
      agree : (s : ℕ) (c : Branch) → s ≡ c.supply → c.kind ≢ Keep → tree_conduction c.kind (value_of values) c.tree ≢ Zero
          → (c.kind ≡ Keep) ⊎ ((tree_conduction c.kind (value_of values) c.tree ≡ Zero) ⊎ (value_of values c.supply ≡ value_of values b.supply)) → value_of values s ≡ value_of values b.supply
      agree s c z k n (inl x) = absurd (k x)
      agree s c z k n (inr (inl x)) = absurd (n x)
      agree s c z k n (inr (inr x)) = rw z x

  -- with all strong branches off a keeper that is on sets it
  pub keeps : (i : ℕ) (b : Branch) → slice_get bs i ≡ Some b → b.kind ≡ Keep → tree_conduction b.kind (value_of values) b.tree ≡ One
      → AllByRecursion (λ c. (tree_conduction c.kind (value_of values) c.tree ≡ Zero) ⊎ ((c.kind ≡ Keep) × (value_of values c.supply ≡ value_of values b.supply))) (ways bs taps)
      → IsTarget devices is_source values (at Top) (value_of values b.supply)
  keeps i b e k h all =
      inr (
        (λ w p. none p.0.0 (definite-possible_strong devices is_source values (at Top) p.0.0 p.0.1) p.0.2),
        inr (
          (λ w p. none p.0.0 p.0.1 p.0.2),
          inl (
            (b.supply, weak_goes i b e k h, AllByRecursion-contains (λ c. is_source c.supply ≡ true) bs b (AllByRecursion-left _ bs (map tap_branch taps) (recursion_from_All (λ b. is_source b.supply ≡ true) (ways bs taps) is.supplies)) (Contains-slice_get bs i b e), refl),
            (λ s p q. let t = any_through s p.0 p.1 p.2 p.3 q in agree s t.0 t.2 t.3 (AllByRecursion-contains _ (ways bs taps) t.0 all t.1)),
          ),
        ),
      )
    where
      agree : (s : ℕ) (c : Branch) → s ≡ c.supply → tree_conduction c.kind (value_of values) c.tree ≢ Zero
          → (tree_conduction c.kind (value_of values) c.tree ≡ Zero) ⊎ ((c.kind ≡ Keep) × (value_of values c.supply ≡ value_of values b.supply)) → value_of values s ≡ value_of values b.supply
      agree s c z n (inl x) = absurd (n x)
      agree s c z n (inr x) = rw z x.1

      off : (c : Branch) → c.kind ≢ Keep → tree_conduction c.kind (value_of values) c.tree ≢ Zero
          → (tree_conduction c.kind (value_of values) c.tree ≡ Zero) ⊎ ((c.kind ≡ Keep) × (value_of values c.supply ≡ value_of values b.supply)) → ⊥
      off c k n (inl x) = n x
      off c k n (inr x) = k x.0

      none : (s : ℕ) → PossibleStrong devices is_source values (at Top) s → is_source s ≡ true → ⊥
      none s p q = let t = strong_through s p q in off t.0 t.3 t.4 (AllByRecursion-contains _ (ways bs taps) t.0 all t.1)

  -- a definite strong path to a source goes through a strong branch that is on
  pub definite_through : (s : ℕ) → DefiniteStrong devices is_source values (at Top) s → is_source s ≡ true
      → (b : Branch) × Contains (ways bs taps) b × (s ≡ b.supply) × (b.kind ≢ Keep) × (tree_conduction b.kind (value_of values) b.tree ≡ One)
  definite_through s p h =
      let t = through devices is_source at bs taps is (IsStrongStep devices is_one values) (λ kind gate. is_one (conduction kind (value_of values gate)))
      (λ d q. q.of) (λ d q. q.pass) s (Reach-from_definite devices is_source values (at Top) s p) h in
      (t.branch, t.among, t.ends, (λ z. (t.has).strong (t.of_kind ∙ z)), is_one-true _ (joins-conduction is_one IsTest-is_one (t.branch).kind (value_of values) (t.branch).tree ∙ t.conducts))
