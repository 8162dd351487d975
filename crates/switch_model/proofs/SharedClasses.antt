-- Classes and drives of a sort of paths over the classes of another sort that joins the same nets.
use Rattle.std.proofs.Common.{◌≡◌, ℕ, Bool, false, List, [], ◌∷◌, refl, sym, subst, inl, inr}
use Rattle.std.specs.List.{AllByRecursion}
use Rattle.std.specs.Prelude.{◌⊎◌, Contains, Some, slice_get}
use Rattle.dom_base.proofs.Lists.{AllByRecursion-append, Contains-slice_get}
use Rattle.dom_base.specs.declared.tri.Tri.{Tri}
use Rattle.deck.specs.Paths.{Ends, Path, more, one}
use Rattle.deck.specs.declared.device.Device.{Device}
use Rattle.switch_model.specs.Components.{IsClosedPart}
use Rattle.switch_model.specs.Drives.{IsClass, IsEndOf, JoinsBy}
use Rattle.switch_model.specs.Joins.{AreJoined, top_of}
use Rattle.switch_model.specs.FourDrives.{IsTold}
use Rattle.switch_model.specs.Walks.{AreAt, IsLed, PassesSort}
use Rattle.switch_model.specs.declared.drives.Drives.{Drives}
use Rattle.switch_model.specs.declared.sort.Sort.{Sort}
use Rattle.switch_model.proofs.Joined.{Path-append}
use Rattle.switch_model.proofs.Searches.{ends_at, other_at}
use Rattle.switch_model.proofs.Told.{told_same}

module _ (devices : List Device) (is_source : ℕ → Bool) (nets places : List ℕ) (closed : IsClosedPart devices is_source nets places) where
  ends_free : (d : Device) (a b : ℕ) → Ends d a b → is_source a ≡ false → is_source b ≡ false → (is_source d.drain ≡ false) × (is_source d.source ≡ false)
  ends_free d a b (inl e) f g = (subst (λ n. is_source n ≡ false) (sym e.0) f, subst (λ n. is_source n ≡ false) (sym e.1) g)
  ends_free d a b (inr e) f g = (subst (λ n. is_source n ≡ false) (sym e.1) g, subst (λ n. is_source n ≡ false) (sym e.0) f)

  -- the device stands at one of the places, and no end of it is a source
  abbrev IsInner : Device → Type 0
  IsInner d = ((place : ℕ) × Contains places place × (slice_get devices place ≡ Some d)) × (is_source d.drain ≡ false) × (is_source d.source ≡ false)

  -- along a path between nets that are no sources
  along_inner : (Q R : Device → Type 0) → ((d : Device) → IsInner d → Q d → R d)
      → {a b : ℕ} {p : List Device} → Path is_source a p b → Contains nets a → is_source b ≡ false → AllByRecursion (Contains devices) p → AllByRecursion Q p → AllByRecursion R p
  along_inner Q R f {a} {b} (one {d = d} e) m g c q =
      let z = closed.all d a c.0 m (ends_at d a b e) in
      let free = ends_free d a b e (closed.free a m) g in
      (f d (z, free.0, free.1) q.0, tt)
  along_inner Q R f {a} {b} (more {d = d} {m = n} e k r) m g c q =
      let z = closed.all d a c.0 m (ends_at d a n e) in
      let free = ends_free d a n e (closed.free a m) k in
      (f d (z, free.0, free.1) q.0, along_inner Q R f r (closed.within d z.0 n z.1 z.2 (other_at d a n e) k) g c.1 q.1)

  -- where a device between nets passes one sort of paths just where it passes the other, the classes are the same
  pub shared_class : (values : List Tri) (s t : Sort) (parents : List ℕ) → ((d : Device) → IsInner d → PassesSort s values d → PassesSort t values d)
      → ((d : Device) → IsInner d → PassesSort t values d → PassesSort s values d)
      → IsClass devices is_source values s nets parents → IsClass devices is_source values t nets parents
  shared_class values s t parents to from class = record {
    to = λ x y hx hy e. elim (class.to x y hx hy e) [
      | inl same ↦ inl same
      | inr j ↦ inr (j.0, j.1, j.2, along_inner (PassesSort s values) (PassesSort t values) to j.1 hx (closed.free y hy) j.2 j.3)
    ];
    from = λ x y hx j f. class.from x y hx (j.0, j.1, j.2, along_inner (PassesSort t values) (PassesSort s values) from j.1 hx f j.2 j.3) f;
  }

  module _ (values : List Tri) (sort : Sort) (parents : List ℕ) (class : IsClass devices is_source values sort nets parents) where
    -- the last device of a path to a source, and what joins its net
    abbrev HasLast : ℕ → ℕ → Type 0
    HasLast a s = (d : Device) × ((m : ℕ) × ((a ≡ m) ⊎ JoinsBy devices is_source values sort a m) × (is_source m ≡ false) × Ends d m s) × Contains devices d × PassesSort sort values d

    last_of : {a s : ℕ} {p : List Device} → Path is_source a p s → is_source a ≡ false → AllByRecursion (Contains devices) p → AllByRecursion (PassesSort sort values) p → HasLast a s
    last_of {a} {s} (one {d = d} e) f c q = (d, (a, inl refl, f, e), c.0, q.0)
    last_of {a} {s} (more {d = d} {m = n} e k r) f c q =
        let z = last_of r k c.1 q.1 in
        let g : (m : ℕ) × ((n ≡ m) ⊎ JoinsBy devices is_source values sort n m) × (is_source m ≡ false) × Ends z.0 m s = z.1 in (
          z.0,
          (
            g.0,
            inr (elim g.1 [
              | inl same ↦ (d ∷ [], one (subst (Ends d a) same e), (c.0, tt), (q.0, tt))
              | inr j ↦ (d ∷ j.0, more e k j.1, (c.0, j.2), (q.0, j.3))
            ]),
            g.2,
            g.3,
          ),
          z.2,
          z.3,
        )

    module _ (es : List Device) (at : AreAt devices places es) (net : ℕ) (member : Contains nets net) where
      led_ends : (s : ℕ) → IsLed parents (PassesSort sort values) is_source es (top_of parents net) s → IsEndOf devices is_source values sort net s
      led_ends s (d, c, q, (m, e, f, t), src) =
          let p = (at d).0 c in
          let there : Contains devices d = Contains-slice_get devices p.0 d p.2 in
          let inner = closed.within d p.0 m p.1 p.2 (ends_at d m s e) f in
          elim (class.to net m member inner (sym t)) [
            | inl same ↦ ((d ∷ [], one (subst (λ n. Ends d n s) (sym same) e), (there, tt), (q, tt)), src)
            | inr j ↦ (
              (
                _,
                Path-append j.1 f (one e),
                AllByRecursion-append (Contains devices) j.0 (d ∷ []) j.2 (there, tt),
                AllByRecursion-append (PassesSort sort values) j.0 (d ∷ []) j.3 (q, tt),
              ),
              src,
            )
          ]

      ends_led : (s : ℕ) → IsEndOf devices is_source values sort net s → IsLed parents (PassesSort sort values) is_source es (top_of parents net) s
      ends_led s (p, src) =
          let z = last_of p.1 (closed.free net member) p.2 p.3 in
          let g : (m : ℕ) × ((net ≡ m) ⊎ JoinsBy devices is_source values sort net m) × (is_source m ≡ false) × Ends z.0 m s = z.1 in
          let joined : Contains nets g.0 × AreJoined parents net g.0 = elim g.1 [
            | inl same ↦ (subst (Contains nets) same member, subst (AreJoined parents net) same refl)
            | inr j ↦ class.from net g.0 member j g.2
          ] in
          let place = closed.all z.0 g.0 z.2 joined.0 (ends_at z.0 g.0 s g.3) in
          (z.0, (at z.0).1 place, z.3, (g.0, g.3, g.2, sym joined.1), src)

      -- what drives tell of the sources that devices lead to below the top they tell of the sources at the ends of paths
      pub shared_told : (drives : Drives) (definite keepers : Bool) → IsTold drives definite keepers (IsLed parents (PassesSort sort values) is_source es (top_of parents net)) values
          → IsTold drives definite keepers (IsEndOf devices is_source values sort net) values
      shared_told drives definite keepers h = told_same drives definite keepers _ _ values led_ends ends_led h
