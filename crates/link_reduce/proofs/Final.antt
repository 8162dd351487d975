-- What is known where no step is left: the links are a network exactly where one part is left, and that joins the ends.
use Rattle.std.specs.Prelude.{Contains, Some, slice_get, true}
use Rattle.std.proofs.Common.{List, [], ap, arith, get_or, inl, inr, length, refl, subst, ℕ, ◌<◌, ◌∙◌, ◌≡◌, ◌≤◌}
use Rattle.std.proofs.lemmas.Option.{slice_get-get_or, slice_get_within}
use Rattle.sp_network.specs.Tree.{Tree}
use Rattle.sp_reduction.specs.Networks.{Has, Joins, Link}
use Rattle.sp_reduction.specs.Reduction.{IsNetwork}
use Rattle.sp_reduction.proofs.Facts.{ends_differ}
use Rattle.link_reduce.specs.Parts.{IsSpelled, PartJoins, links_of, numbers_of, part_link}
use Rattle.link_reduce.specs.Reductions.{IsLive, IsOnlyLive, IsSettled, IsSound, LiveLink, ReductionData, Unfolds}
use Rattle.link_reduce.specs.Spellings.{AreProper, HasShortTree}
use Rattle.link_reduce.specs.declared.part.Ends.{Ends}
use Rattle.link_reduce.specs.declared.part.Made.TheVariants.{Given}
use Rattle.link_reduce.specs.declared.part.Part.{Part}
use Rattle.link_reduce.proofs.Listing.{no_number}
use Rattle.link_reduce.proofs.LiveLinks.{live_is, one_part}
use Rattle.link_reduce.proofs.PartTrees.{read_tree}
use Rattle.link_reduce.proofs.ShortTrees.{tree_short}
use Rattle.link_reduce.proofs.Stuck.{settled_is_one}

abbrev no_part : Part
no_part = record { from = 0; to = 0; width = 0; height = 0; made = Given }

module _ (ends : List Ends) (a b : ℕ) (r : ReductionData) (sound : IsSound ends a b r) where
  -- where the given links are a network, one part is left
  pub one_left : r.work ≡ [] → (w h : ℕ) → IsNetwork (links_of ends) a b w h
      → (i : ℕ) × (p : Part) × IsLive r i p × PartJoins p a b × ((j : ℕ) (q : Part) → IsLive r j q → j ≡ i)
  one_left empty w h network =
      let n = sound.kept.keeps w h network in
      let from : (e : Link) → LiveLink r e → Has n.tree e = λ e l. (n.links_are e).1 ((live_is r e).1 l) in
      let to : (e : Link) → Has n.tree e → LiveLink r e = λ e c. (live_is r e).0 ((n.links_are e).0 c) in
      let settled : (m : ℕ) → IsSettled (LiveLink r) a b m =
      λ m. elim (sound.settled m) [ inl c ↦ absurd (no_number m (subst (λ l. Contains l m) empty c)) | inr s ↦ s ] in
      let one = settled_is_one (LiveLink r) n.tree a b n.between from to settled in
      let l = to one.0 one.1 in (
        l.0,
        l.1,
        l.2,
        subst (λ (g : Link). Joins g a b) l.3 one.2,
        (λ j q m. ap (λ (g : Link). g.number) (one.3 (part_link j q) (from (part_link j q) (j, q, m, refl)) ∙ l.3)),
      )

  -- where one part is left, and joins the ends, its tree spells the given links
  module _ (i : ℕ) (p : Part) (left : IsLive r i p) (joins : PartJoins p a b) (only : (j : ℕ) (q : Part) → IsLive r j q → j ≡ i) where
    pub spelled : (t : Tree Link) × Unfolds r.parts i a b t × ((order : List ℕ) → numbers_of t ≡ order → IsSpelled (links_of ends) a b p.width p.height order)
    spelled =
        let is = sound.kept.tree_of i p left.0 in
        let t = read_tree ends r.parts i p (sound.kept.trees i) a b is joins in (
          t.tree,
          t.unfolds,
          (λ order same. record {
            tree = t.tree;
            between = t.between;
            from = λ e c. is.given e (t.from e c);
            to = λ e c. let y = sound.kept.all e c in t.to e (subst (λ n. Has (sound.kept.trees n) e) (only y.0 y.1 y.2) y.3);
            width_is = t.width_is;
            height_is = t.height_is;
            order_is = same;
          }),
        )

  -- of the one part that is left
  only_live : (i : ℕ) → ((j : ℕ) (q : Part) → IsLive r j q → j ≡ i) → (j : ℕ) → slice_get r.live j ≡ Some true → j ≡ i
  only_live i only j e =
      let low : j < length r.parts = omega (arith, slice_get_within r.live j true e, sound.kept.long) in
      only j (get_or r.parts j no_part) (slice_get-get_or r.parts j no_part low, e)

  pub none_network : r.work ≡ [] → (w h : ℕ) → IsNetwork (links_of ends) a b w h
      → (i : ℕ) × (p : Part) × (slice_get r.parts i ≡ Some p) × PartJoins p a b × IsOnlyLive r.live i
  none_network empty w h n =
      let y = one_left empty w h n in
      (y.0, y.1, y.2.0, y.3, record { there = y.2.1; only = only_live y.0 y.4 })

  -- another part that is left alone is the same
  pub not_joined : (i : ℕ) (p : Part) → slice_get r.parts i ≡ Some p → IsOnlyLive r.live i → (PartJoins p a b → ⊥) → r.work ≡ []
      → (w h : ℕ) → IsNetwork (links_of ends) a b w h → ⊥
  not_joined i p at one no_join empty w h n =
      let y = none_network empty w h n in
      let same : y.0 ≡ i = one.only y.0 y.4.there in
      no_join (subst (λ q. PartJoins q a b) (one_part r.parts i y.1 p (subst (λ k. slice_get r.parts k ≡ Some y.1) same y.2) at) y.3)

  pub some_network : (i : ℕ) (p : Part) → slice_get r.parts i ≡ Some p → IsOnlyLive r.live i → PartJoins p a b
      → IsNetwork (links_of ends) a b p.width p.height
  some_network i p at one joins =
      let y = spelled i p (at, one.there) joins (λ j q l. one.only j l.1) in
      let s = y.2 (numbers_of y.0) refl in
      record { tree = s.tree; between = s.between; links_are = λ e. (s.from e, s.to e); width_is = s.width_is; height_is = s.height_is }

  pub live_low : (i : ℕ) → IsOnlyLive r.live i → i < length r.parts
  live_low i one = omega (arith, slice_get_within r.live i true one.there, sound.kept.long)

  -- the part that is left, to be spelled
  module _ (i : ℕ) (p : Part) (at : slice_get r.parts i ≡ Some p) (one : IsOnlyLive r.live i) (joins : PartJoins p a b) where
    left_tree : (t : Tree Link) × Unfolds r.parts i a b t × ((order : List ℕ) → numbers_of t ≡ order → IsSpelled (links_of ends) a b p.width p.height order)
    left_tree = spelled i p (at, one.there) joins (λ j q l. one.only j l.1)

    pub left_short : HasShortTree r.parts (record { part = i; from = a }) (length ends)
    left_short =
        let y = left_tree in
        let s = y.2 (numbers_of y.0) refl in
        (b, y.0, y.1, subst (λ l. length l ≤ length ends) s.order_is (tree_short ends s.tree a b s.between s.from))

    pub spelled_whole : (order : List ℕ) → ((to : ℕ) (t : Tree Link) → Unfolds r.parts i a to t → numbers_of t ≡ order)
        → IsSpelled (links_of ends) a b p.width p.height order
    spelled_whole order is = let y = left_tree in y.2 order (is b y.0 y.1)

  pub parts_proper : AreProper r.parts
  parts_proper i p at = let t = sound.kept.tree_of i p at in ends_differ (sound.kept.trees i) p.from p.to t.between
