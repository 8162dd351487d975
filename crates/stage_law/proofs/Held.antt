-- A stage whose first devices are all off keeps its value.
use Rattle.std.specs.List.{AllByRecursion}
use Rattle.std.specs.Prelude.{Contains, Some, slice_get, ◌≢◌, ◌⊎◌}
use Rattle.std.proofs.Common.{Bool, List, arith, inl, inr, map, refl, sym, true, zero-add, ℕ, ◌+◌, ◌∙◌, ◌≡◌}
use Rattle.std.proofs.lemmas.List.Elements.{recursion_from_All}
use Rattle.dom_base.specs.declared.kind.Kind.{Kind}
use Rattle.dom_base.specs.declared.tri.Tri.{Tri}
use Rattle.dom_base.proofs.Lists.{AllByRecursion-append, AllByRecursion-contains, AllByRecursion-map, AllByRecursion-weaker, Contains-slice_get}
use Rattle.deck.specs.Paths.{Path, more, one}
use Rattle.deck.specs.Switches.{IsNotOff, IsOff, value_of}
use Rattle.deck.specs.declared.device.Device.{Device}
use Rattle.deck.specs.NamedDevices.{NamedDevice, device_of}
use Rattle.sp_network.specs.Tree.{Leaf, Parallel, Series, Tree, inner_count}
use Rattle.domino_cell.specs.Stage.{Branch, Inside, IsStage, Spot, Top, stage}
use Rattle.domino_cell.specs.Spelling.{spell}
use Rattle.domino_cell.proofs.Stages.{each_branch}
use Rattle.domino_cell.specs.TreeColours.{IsIn, IsOutside}
use Rattle.domino_cell.proofs.Trees.{spell-ends}
use Rattle.switch_model.specs.Targets.{IsTarget}
use Rattle.switch_model.proofs.Targets.{definite-possible_strong, definite-possible_weak}
use Rattle.stage_law.specs.Shut.{IsShut}

shut_spell : (kind : Kind) (values : List Tri) (inner : ℕ → ℕ) (t : Tree ℕ) (top bottom k : ℕ)
    → top ≢ bottom → IsOutside inner k (inner_count t) top → IsShut kind values t
    → AllByRecursion (λ d. (d.drain ≡ top) ⊎ (d.source ≡ top) → IsOff values (device_of d)) (spell kind inner t top bottom k)
shut_spell kind values inner (Leaf gate) top bottom k ne f h = ((λ e. h), tt)
shut_spell kind values inner (Series l r) top bottom k ne f h =
    AllByRecursion-append _ _ _
    (shut_spell kind values inner l top (inner k) (k + 1) (f k (omega arith) (omega arith)) (λ j le lt. f j (omega arith) (omega arith)) h)
    (AllByRecursion-weaker _ (λ d. (d.drain ≡ top) ⊎ (d.source ≡ top) → IsOff values (device_of d))
    (λ d e t. absurd (elim t [ inl z ↦ off d.drain e.0 z | inr z ↦ off d.source e.1 z ])) _ (spell-ends kind inner r (inner k) bottom (k + 1 + inner_count l)))
  where
    off : (x : ℕ) → IsIn inner (inner k) bottom (k + 1 + inner_count l) (inner_count r) x → x ≡ top → ⊥
    off x (inl e) z = f k (omega arith) (omega arith) (sym z ∙ e)
    off x (inr (inl e)) z = ne (sym z ∙ e)
    off x (inr (inr (j, a, b, e))) z = f j (omega arith) (omega arith) (sym z ∙ e)
shut_spell kind values inner (Parallel l r) top bottom k ne f h =
    AllByRecursion-append _ _ _
    (shut_spell kind values inner l top bottom k ne (λ j le lt. f j (omega arith) (omega arith)) h.0)
    (shut_spell kind values inner r top bottom (k + inner_count l) ne (λ j le lt. f j (omega arith) (omega arith)) h.1)

module _ (devices : List Device) (is_source : ℕ → Bool) (at : Spot → ℕ) (bs : List Branch) (is : IsStage devices is_source at bs) (values : List Tri)
    (shut : AllByRecursion (λ b. IsShut b.kind values b.tree) bs) where
  Off : NamedDevice ℕ → Type 0
  Off c = (c.drain ≡ at Top) ⊎ (c.source ≡ at Top) → IsOff values (device_of c)

  top_off : (d : Device) → Contains devices d → (d.drain ≡ at Top) ⊎ (d.source ≡ at Top) → IsOff values d
  unfolding Off
  top_off d c e =
      AllByRecursion-contains (λ d. (d.drain ≡ at Top) ⊎ (d.source ≡ at Top) → IsOff values d) (map device_of (stage at 0 bs)) d
      (AllByRecursion-map (λ d. (d.drain ≡ at Top) ⊎ (d.source ≡ at Top) → IsOff values d) device_of (stage at 0 bs)
      (each_branch Off at 0 bs (λ i b z. rw zero-add (branch_off i b z))))
      (is.alone d Top tt c e) e
    where
      clash : (s : ℕ) → is_source s ≡ true → at Top ≡ s → ⊥
      clash s h z = let f = is.free Top tt in let g = rw (← z) at h in cc

      branch_off : (i : ℕ) (b : Branch) → slice_get bs i ≡ Some b → AllByRecursion Off (spell b.kind (λ j. at (Inside i j)) b.tree (at Top) b.supply 0)
      branch_off i b z =
          shut_spell b.kind values (λ j. at (Inside i j)) b.tree (at Top) b.supply 0
          (λ w. clash b.supply (AllByRecursion-contains (λ b. is_source b.supply ≡ true) bs b (recursion_from_All (λ b. is_source b.supply ≡ true) bs is.supplies) (Contains-slice_get bs i b z)) w)
          (λ j le lt w. let u : Top ≡ Inside i j = is.apart Top (Inside i j) tt (b, z, omega arith) w in absurd (cc))
          (AllByRecursion-contains (λ b. IsShut b.kind values b.tree) bs b shut (Contains-slice_get bs i b z))

  no_path : {a b : ℕ} {p : List Device} → a ≡ at Top → Path is_source a p b → AllByRecursion (Contains devices) p → AllByRecursion (IsNotOff values) p → ⊥
  no_path s (one {d = d} e) c n = n.0 (top_off d c.0 (elim e [ inl z ↦ inl (z.0 ∙ s) | inr z ↦ inr (z.0 ∙ s) ]))
  no_path s (more {d = d} e k r) c n = n.0 (top_off d c.0 (elim e [ inl z ↦ inl (z.0 ∙ s) | inr z ↦ inr (z.0 ∙ s) ]))

  -- the target is the own value
  pub held : IsTarget devices is_source values (at Top) (value_of values (at Top))
  held =
      inr (
        (λ w p. let h = definite-possible_strong devices is_source values (at Top) p.0.0 p.0.1 in no_path refl h.1 h.2 h.3),
        inr (
          (λ w p. let h = p.0.1 in no_path refl h.1 h.2 h.3),
          inr (
            (λ w p. let h = definite-possible_weak devices is_source values (at Top) p.0.0 p.0.1 in no_path refl h.1 h.2 h.3),
            inr (
              (λ w p. let h = p.0.1 in no_path refl h.1 h.2 h.3),
              inl ((λ n h. absurd (no_path refl h.1 h.2 h.3)), refl),
            ),
          ),
        ),
      )
