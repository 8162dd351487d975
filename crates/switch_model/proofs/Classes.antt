-- Nets with one top are those that paths join.
use Rattle.std.proofs.Common.{false, ◌≡◌, ℕ, Bool, List, [], ◌∷◌, refl, sym, subst, ap, ◌∙◌, inl, inr}
use Rattle.std.specs.Prelude.{◌⊎◌, ◌↔◌, Contains}
use Rattle.dom_base.specs.declared.tri.Tri.{Tri}
use Rattle.dom_base.proofs.Lists.{AllByRecursion-both, AllByRecursion-weaker, Contains-first, Contains-later, Contains-slice_get}
use Rattle.deck.specs.declared.device.Device.{Device}
use Rattle.deck.specs.Paths.{Ends}
use Rattle.deck.specs.Reach.{Reach, last, step}
use Rattle.deck.proofs.Reach.{Reach-weaker, Reach-from_path, path_from_Reach}
use Rattle.switch_model.specs.Laws.{EndsAt}
use Rattle.switch_model.proofs.Joined.{Joined, Joined-trans, Joined-edge, Reaches, joined_reaches, reaches_leads}
use Rattle.switch_model.proofs.Searches.{ends_at}
use Rattle.switch_model.specs.Components.{IsClosedPart}
use Rattle.switch_model.specs.Drives.{IsClass}
use Rattle.switch_model.specs.Joins.{AreJoined, top_of}
use Rattle.switch_model.specs.Walks.{AreAt, Linked, PassesSort}
use Rattle.switch_model.specs.declared.sort.Sort.{Sort}

module _ (devices : List Device) (is_source : ℕ → Bool) (nets places : List ℕ) (closed : IsClosedPart devices is_source nets places)
    (Q : Device → Type 0) (old new : List ℕ) (alone : (n : ℕ) → Contains nets n → top_of old n ≡ n)
    (ds : List Device) (at : AreAt devices places ds) (joined : (x y : ℕ) → AreJoined new x y ↔ Linked (AreJoined old) Q is_source ds x y) where
  -- what devices join to nets of a closed part, each used at most once
  to_joined : (es : List Device) → ((d : Device) → Contains es d → Contains ds d) → (x y : ℕ) → Contains nets x → Contains nets y
      → Linked (AreJoined old) Q is_source es x y → Joined Q is_source es x y
  to_joined [] sub x y hx hy e = sym (alone x hx) ∙ e ∙ alone y hy
  to_joined (d ∷ es) sub x y hx hy (inl e) = inl (to_joined es (λ f c. sub f (Contains-later d es f c)) x y hx hy e)
  to_joined (d ∷ es) sub x y hx hy (inr (j, z)) =
      let sub' : (f : Device) → Contains es f → Contains ds f = λ f c. sub f (Contains-later d es f c) in
      let p = (at d).0 (sub d (Contains-first d es)) in
      let drain = closed.within d p.0 d.drain p.1 p.2 (inl refl) j.1 in
      let source = closed.within d p.0 d.source p.1 p.2 (inr refl) j.2 in
      inr (
        j,
        elim z [
          | inl u ↦ inl (to_joined es sub' x d.drain hx drain u.0, to_joined es sub' d.source y source hy u.1)
          | inr u ↦ inr (to_joined es sub' x d.source hx source u.0, to_joined es sub' d.drain y drain hy u.1)
        ],
      )

  from_joined : (es : List Device) (x y : ℕ) → Joined Q is_source es x y → Linked (AreJoined old) Q is_source es x y
  from_joined [] x y e = ap (top_of old) e
  from_joined (d ∷ es) x y (inl e) = inl (from_joined es x y e)
  from_joined (d ∷ es) x y (inr (j, inl u)) = inr (j, inl (from_joined es x d.drain u.0, from_joined es d.source y u.1))
  from_joined (d ∷ es) x y (inr (j, inr u)) = inr (j, inr (from_joined es x d.source u.0, from_joined es d.drain y u.1))

  -- what a path goes through
  abbrev On : Device → Type 0
  On d = Contains devices d × Q d

  other_end : (d : Device) (a b : ℕ) → Ends d a b → EndsAt d b
  other_end d a b (inl z) = inr z.1
  other_end d a b (inr z) = inl z.1

  -- a path from one of the nets goes through devices at the places
  inside : {a b : ℕ} → Contains nets a → Reach On is_source a b → Reaches Q is_source ds a b
  inside {a} {b} h (last {d = d} q e) = last ((at d).1 (closed.all d a q.0 h (ends_at d a b e)), q.1) e
  inside {a} {b} h (step {d = d} {m = m} q e f r) =
      let p = closed.all d a q.0 h (ends_at d a m e) in
      step ((at d).1 p, q.1) e f (inside (closed.within d p.0 m p.1 p.2 (other_end d a m e) f) r)

  outside : {a b : ℕ} → Reaches Q is_source ds a b → Reach On is_source a b
  outside r = Reach-weaker (λ d h. let p = (at d).0 h.0 in (Contains-slice_get devices p.0 d p.2, h.1)) r

  -- nets with one top are one or joined by a path
  pub joined_path : (x y : ℕ) → Contains nets x → Contains nets y → AreJoined new x y → (x ≡ y) ⊎ Reach On is_source x y
  joined_path x y hx hy e = elim (joined_reaches Q is_source ds x y (to_joined ds (λ d c. c) x y hx hy ((joined x y).0 e))) [ inl s ↦ inl s | inr r ↦ inr (outside r) ]

  pub joined_by : (x y : ℕ) → Joined Q is_source ds x y → AreJoined new x y
  joined_by x y j = (joined x y).1 (from_joined ds x y j)

  -- a path to a net that is no source leads to one of the nets, with the same top
  pub path_joined : (x y : ℕ) → Contains nets x → Reach On is_source x y → is_source y ≡ false → Contains nets y × AreJoined new x y
  path_joined x y hx r f =
      let t = reaches_leads Q is_source ds (λ n. n ≡ y) (closed.free x hx) (inside hx r) refl in
      let d = t.0 in
      let p = (at d).0 t.1 in
      elim t.2.1 [
        | inl z ↦ (
          closed.within d p.0 y p.1 p.2 (inr z.1.1) f,
          joined_by x y (Joined-trans Q is_source ds x d.drain y z.1.0 (Joined-edge Q is_source ds d d.drain y t.1 (t.2.0, z.0, subst (λ n. is_source n ≡ false) (sym z.1.1) f) (inl (refl, z.1.1)))),
        )
        | inr z ↦ (
          closed.within d p.0 y p.1 p.2 (inl z.1.1) f,
          joined_by x y (Joined-trans Q is_source ds x d.source y z.1.0 (Joined-edge Q is_source ds d d.source y t.1 (t.2.0, subst (λ n. is_source n ≡ false) (sym z.1.1) f, z.0) (inr (refl, z.1.1)))),
        )
      ]

-- nets with one top are joined by a path, and the nets that paths lead to have the top
pub class_joined : (devices : List Device) (is_source : ℕ → Bool) (nets places : List ℕ) → IsClosedPart devices is_source nets places → (sort : Sort) (values : List Tri) (old new : List ℕ)
    → ((n : ℕ) → Contains nets n → top_of old n ≡ n) → (ds : List Device) → AreAt devices places ds
    → ((x y : ℕ) → AreJoined new x y ↔ Linked (AreJoined old) (PassesSort sort values) is_source ds x y) → IsClass devices is_source values sort nets new
class_joined devices is_source nets places closed sort values old new alone ds at joined = record {
  to = λ x y hx hy e. elim (joined_path devices is_source nets places closed (PassesSort sort values) old new alone ds at joined x y hx hy e) [
    | inl z ↦ inl z
    | inr r ↦ let w = path_from_Reach _ is_source r in inr (w.0, w.1, AllByRecursion-weaker _ _ (λ d x. x.0) w.0 w.2, AllByRecursion-weaker _ _ (λ d x. x.1) w.0 w.2)
  ];
  from = λ x y hx l f. path_joined devices is_source nets places closed (PassesSort sort values) old new alone ds at joined x y hx (Reach-from_path _ is_source l.1 (AllByRecursion-both _ _ l.0 l.2 l.3)) f;
}
