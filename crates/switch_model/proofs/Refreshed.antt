-- The pending nets and the targets after the components that a changed net touches are refreshed.
use Rattle.std.proofs.Common.{◌≡◌, ◌≢◌, ℕ, ◌<◌, ◌≤◌, Bool, true, false, List, ◌⊎◌, length, set, refl, sym, subst, inl, inr, arith}
use Rattle.std.specs.Prelude.{◌↔◌, All, Contains}
use Rattle.std.proofs.lemmas.List.{get_or-set_other}
use Rattle.dom_base.specs.Decided.{Decided}
use Rattle.dom_base.proofs.Decided.{dec_any, dec_map, dec_nat, lt_or_ge}
use Rattle.dom_base.specs.declared.tri.Tri.{Tri}
use Rattle.dom_base.specs.declared.tri.Tri.TheVariants.{Unknown}
use Rattle.dom_base.proofs.Bools.{never}
use Rattle.deck.specs.Nets.{IsInRange}
use Rattle.deck.specs.Switches.{value_of}
use Rattle.switch_model.specs.ComponentLists.{AreComponentLists, list_at, number_in}
use Rattle.switch_model.specs.LinksData.{LinksData, is_first}
use Rattle.switch_model.specs.Locality.{DifferAt}
use Rattle.switch_model.specs.Pending.{AreKeptTargets, ArePending, IsPendingNet, Targets}
use Rattle.switch_model.specs.Targets.{IsPending, IsTarget}
use Rattle.switch_model.specs.declared.components.Components.{Components}
use Rattle.switch_model.proofs.Locality.{pending-kept, target-kept}
use Rattle.switch_model.proofs.Touching.{own-number, touches-number}

dec_contains : (xs : List ℕ) (n : ℕ) → Decided (Contains xs n)
dec_contains xs n = dec_map (λ z. subst (Contains xs) z.2 z.1) (λ m. (n, m, refl)) (dec_any (λ k. k ≡ n) (λ k. dec_nat k n) xs)

module _ (links : LinksData) (c : Components) (h : AreComponentLists links.devices (is_first links.sources) links.nets c) (range : All (IsInRange links.nets) links.devices) (values : List Tri)
    (whole : length values ≡ links.nets) (numbers : List ℕ) (before after : List ℕ)
    (here : (n k : ℕ) → Contains numbers k → Contains (list_at c.nets k) n → Contains after n ↔ ((v : Tri) × IsPending links.devices (is_first links.sources) values n v))
    (others : (n : ℕ) → ((k : ℕ) → Contains numbers k → Contains (list_at c.nets k) n → ⊥) → Contains after n ↔ Contains before n) where
  -- a net of a refreshed component
  pub inside : (n : ℕ) → n < links.nets → is_first links.sources n ≡ false → Contains numbers (number_in c n) → Contains after n ↔ IsPendingNet links values n
  inside n lt f m =
      let i = here n (number_in c n) m ((h.nets_are (number_in c n) n).1 (lt, f, refl)) in
      (λ x. (omega (arith, lt, whole), i.0 x), λ p. i.1 p.1)

  -- a net of no refreshed component
  outside : (n : ℕ) → (is_first links.sources n ≡ false → n < links.nets → Contains numbers (number_in c n) → ⊥) → Contains after n ↔ Contains before n
  outside n none = others n (λ k m inner. let z = (h.nets_are k n).0 inner in none z.1 z.0 (subst (Contains numbers) (sym z.2) m))

  -- a net that was not pending before, nor could be, where it is no net of a refreshed component
  module _ (old : List Tri) (same_length : length old ≡ length values) (right : ArePending links old before)
      (kept : (n : ℕ) (v : Tri) → n < links.nets → is_first links.sources n ≡ false → (Contains numbers (number_in c n) → ⊥)
      → IsPending links.devices (is_first links.sources) old n v ↔ IsPending links.devices (is_first links.sources) values n v) where
    apart : (n : ℕ) → n < links.nets → is_first links.sources n ≡ false → (Contains numbers (number_in c n) → ⊥) → Contains after n ↔ IsPendingNet links values n
    apart n lt f none =
        let o = outside n (λ g l m. none m) in
        let r = right.exact n in (
          λ x. let p = r.0 (o.0 x) in (omega (arith, lt, whole), (p.1.0, (kept n p.1.0 lt f none).0 p.1.1)),
          λ p. o.1 (r.1 (omega (arith, lt, whole, same_length), (p.1.0, (kept n p.1.0 lt f none).1 p.1.1))),
        )

    source : (n : ℕ) → (is_first links.sources n ≡ true) ⊎ (links.nets ≤ n) → Contains after n ↔ IsPendingNet links values n
    source n (inl t) =
        let o = outside n (λ g l m. never {b = is_first links.sources n} t g) in
        (λ x. absurd (never {b = is_first links.sources n} t ((right.exact n).0 (o.0 x)).1.1.0), λ p. absurd (never {b = is_first links.sources n} t p.1.1.0))
    source n (inr ge) =
        let o = outside n (λ g l m. omega (arith, ge, l)) in
        (λ x. absurd (omega (arith, ((right.exact n).0 (o.0 x)).0, ge, whole, same_length)), λ p. absurd (omega (arith, p.0, ge, whole)))

    pub refreshed : (n : ℕ) → Contains after n ↔ IsPendingNet links values n
    refreshed n = elim (lt_or_ge n links.nets) [
      | inr ge ↦ source n (inr ge)
      | inl lt ↦ by (is_first links.sources n) refl
    ]
      where
        by : (b : Bool) → is_first links.sources n ≡ b → Contains after n ↔ IsPendingNet links values n
        by true t = source n (inl t)
        by false f = elim (lt_or_ge n links.nets) [
          | inr ge ↦ source n (inr ge)
          | inl lt ↦ elim (dec_contains numbers (number_in c n)) [ inl m ↦ inside n lt f m | inr none ↦ apart n lt f none ]
        ]

-- values that differ at one net
module _ (values : List Tri) (x : ℕ) (before : Tri) where
  pub differ : DifferAt x (set values x before) values
  differ n ne = sym (get_or-set_other values x n before Unknown ne)

module _ (links : LinksData) (c : Components) (h : AreComponentLists links.devices (is_first links.sources) links.nets c) (range : All (IsInRange links.nets) links.devices) (values : List Tri) (x : ℕ) (lt : x < links.nets) (before : Tri) where
  -- a net, no source, of a component that the changed net does not touch stays as it was
  pub kept_apart : (n : ℕ) (v : Tri) → n < links.nets → is_first links.sources n ≡ false → (Contains (list_at c.touched x) (number_in c n) → ⊥)
      → IsPending links.devices (is_first links.sources) (set values x before) n v ↔ IsPending links.devices (is_first links.sources) values n v
  kept_apart n v few f none =
      pending-kept links.devices (is_first links.sources) x (set values x before) values n v (differ values x before)
      (λ e. none (subst (λ m. Contains (list_at c.touched x) (number_in c m)) (sym e) (own-number links.devices (is_first links.sources) links.nets c h range x lt (subst (λ m. is_first links.sources m ≡ false) e f))))
      (λ g t. none (touches-number links.devices (is_first links.sources) links.nets c h range x n few f t))

-- where all components are refreshed and no net was listed before
module _ (links : LinksData) (c : Components) (h : AreComponentLists links.devices (is_first links.sources) links.nets c) (range : All (IsInRange links.nets) links.devices) (values : List Tri)
    (whole : length values ≡ links.nets) (numbers : List ℕ) (before after : List ℕ)
    (here : (n k : ℕ) → Contains numbers k → Contains (list_at c.nets k) n → Contains after n ↔ ((v : Tri) × IsPending links.devices (is_first links.sources) values n v))
    (others : (n : ℕ) → ((k : ℕ) → Contains numbers k → Contains (list_at c.nets k) n → ⊥) → Contains after n ↔ Contains before n)
    (every : (k : ℕ) → k < links.nets → Contains numbers k) (none : (n : ℕ) → Contains before n → ⊥) where
  pub all_refreshed : (n : ℕ) → Contains after n ↔ IsPendingNet links values n
  all_refreshed n = elim (lt_or_ge n links.nets) [
    | inr ge ↦ (λ x. absurd (none n ((others n (λ k m inner. omega (arith, ge, ((h.nets_are k n).0 inner).0))).0 x)), λ p. absurd (omega (arith, p.0, ge, whole)))
    | inl lt ↦ by lt (is_first links.sources n) refl
  ]
    where
      by : n < links.nets → (b : Bool) → is_first links.sources n ≡ b → Contains after n ↔ IsPendingNet links values n
      by lt true t = (
        λ x. absurd (none n ((others n (λ k m inner. never {b = is_first links.sources n} t ((h.nets_are k n).0 inner).1)).0 x)),
        λ p. absurd (never {b = is_first links.sources n} t p.1.1.0),
      )
      by lt false f =
          inside links c h range values whole numbers before after here others n lt f (every (number_in c n) (omega (arith, h.numbering.low n, lt)))

-- the targets that are kept, after the components that a changed net touches are refreshed
module _ (links : LinksData) (c : Components) (h : AreComponentLists links.devices (is_first links.sources) links.nets c) (range : All (IsInRange links.nets) links.devices) (values : List Tri)
    (numbers : List ℕ) (old new : List Tri)
    (here : (n k : ℕ) → Contains numbers k → Contains (list_at c.nets k) n → IsTarget links.devices (is_first links.sources) values n (value_of new n)) where
  inside_targets : (n : ℕ) → n < links.nets → is_first links.sources n ≡ false → Contains numbers (number_in c n) → Targets links values n (value_of new n)
  inside_targets n lt f m = here n (number_in c n) m ((h.nets_are (number_in c n) n).1 (lt, f, refl))

  -- where all components are refreshed
  pub all_targets : ((k : ℕ) → k < links.nets → Contains numbers k) → AreKeptTargets links values new
  all_targets every n lt f = inside_targets n lt f (every (number_in c n) (omega (arith, h.numbering.low n, lt)))

  pub refreshed_targets : (x : ℕ) → x < links.nets → (before : Tri) → numbers ≡ list_at c.touched x
      → ((n : ℕ) → ((k : ℕ) → Contains numbers k → Contains (list_at c.nets k) n → ⊥) → value_of new n ≡ value_of old n)
      → AreKeptTargets links (set values x before) old → AreKeptTargets links values new
  refreshed_targets x few before are others right n lt f = elim (dec_contains numbers (number_in c n)) [
    | inl m ↦ inside_targets n lt f m
    | inr none ↦
        let apart : Contains (list_at c.touched x) (number_in c n) → ⊥ = λ m. none (subst (λ l. Contains l (number_in c n)) (sym are) m) in
        let same = others n (λ k m inner. none (subst (Contains numbers) (sym ((h.nets_are k n).0 inner).2) m)) in
        let own : n ≢ x = λ e. apart (subst (λ m. Contains (list_at c.touched x) (number_in c m)) (sym e) (own-number links.devices (is_first links.sources) links.nets c h range x few (subst (λ m. is_first links.sources m ≡ false) e f))) in
        subst (Targets links values n) (sym same)
        ((target-kept links.devices (is_first links.sources) x (set values x before) values n (differ values x before) own
        (λ t. apart (touches-number links.devices (is_first links.sources) links.nets c h range x n lt f t)) (value_of old n)).0 (right n lt f))
  ]
