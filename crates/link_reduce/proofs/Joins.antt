-- What is kept where two parts are joined.
use Rattle.std.specs.Prelude.{Contains, Some, slice_get, ◌≢◌, ◌⊎◌}
use Rattle.std.proofs.Common.{List, [], ap, arith, inl, inr, length, length-append, refl, set, subst, sym, ℕ, ◌++◌, ◌+◌, ◌<◌, ◌∙◌, ◌∷◌, ◌≡◌, ◌≤◌}
use Rattle.std.proofs.lemmas.List.{length-set}
use Rattle.std.proofs.lemmas.Option.{slice_get_within}
use Rattle.dom_base.proofs.Decided.{dec_nat}
use Rattle.dom_base.proofs.Lists.{slice_get-push, slice_get-push_cases}
use Rattle.dom_base.specs.Decided.{Decided}
use Rattle.sp_network.specs.Tree.{Parallel, Series, Tree}
use Rattle.sp_reduction.specs.Networks.{EndsAt, Has, Link}
use Rattle.sp_reduction.specs.Reduction.{InParallel, InSeries}
use Rattle.sp_reduction.proofs.Facts.{ends_differ}
use Rattle.sp_reduction.proofs.Reduction.{steps_keep}
use Rattle.link_reduce.specs.Parts.{PartEndsAt, PartJoins, links_of, listed, part_link}
use Rattle.link_reduce.specs.Reductions.{AreApart, IsKept, IsLive, IsTreeOf, ReductionData, live_links, parallel, parallel_part, series, series_part, with_joined}
use Rattle.link_reduce.specs.declared.part.Ends.{Ends}
use Rattle.link_reduce.specs.declared.part.Part.{Part}
use Rattle.link_reduce.proofs.LiveLinks.{joined_long, joined_total, live_cases, live_is, live_once, merges, new_live, one_part, still_live}
use Rattle.link_reduce.proofs.PartTrees.{read_tree, unfolds_more}

abbrev pick : {A X : Type 0} → Decided A → X → X → X
pick (inl y) t u = t
pick (inr n) t u = u

pick_yes : {A X : Type 0} (d : Decided A) → A → (t u : X) → pick d t u ≡ t
pick_yes (inl y) a t u = refl
pick_yes (inr n) a t u = absurd (n a)

pick_no : {A X : Type 0} (d : Decided A) → (A → ⊥) → (t u : X) → pick d t u ≡ u
pick_no (inl y) a t u = absurd (a y)
pick_no (inr n) a t u = refl

swap_apart : (p q : Part) (t u : Tree Link) → AreApart p q t u → AreApart q p u t
swap_apart p q t u h = record {
  touch = λ x s v. let y = h.touch x v s in (y.1, y.0);
  numbers = λ g i c d z. h.numbers i g d c (sym z);
}

pub joins_ends : (p : Part) (a b : ℕ) → PartJoins p a b → PartEndsAt p a
joins_ends p a b (inl j) = inl j.0
joins_ends p a b (inr j) = inr j.0

pub part_end_is : (p : Part) (a b x : ℕ) → PartJoins p a b → PartEndsAt p x → (x ≡ a) ⊎ (x ≡ b)
part_end_is p a b x (inl j) (inl z) = inl (sym z ∙ j.0)
part_end_is p a b x (inl j) (inr z) = inr (sym z ∙ j.1)
part_end_is p a b x (inr j) (inl z) = inr (sym z ∙ j.1)
part_end_is p a b x (inr j) (inr z) = inl (sym z ∙ j.0)

tree_more : (ends : List Ends) (parts : List Part) (q : Part) (i : ℕ) (p : Part) (t : Tree Link) → IsTreeOf ends parts i p t → IsTreeOf ends (parts ++ q ∷ []) i p t
tree_more ends parts q i p t h = record {
  unfolds = unfolds_more parts q i p.from p.to t h.unfolds;
  between = h.between;
  given = h.given;
  width_is = h.width_is;
  height_is = h.height_is;
}

module _ (ends : List Ends) (a b : ℕ) (r : ReductionData) (kept : IsKept ends a b r) (e f : ℕ) (pe pf : Part)
    (le : IsLive r e pe) (lf : IsLive r f pf) (differ : e ≢ f) where
  abbrev end : ℕ
  end = length r.parts

  module _ (new : Part) (tree : Tree Link) (tree_is : IsTreeOf ends (r.parts ++ new ∷ []) (length r.parts) new tree)
      (has : (g : Link) → Has tree g → Has (kept.trees e) g ⊎ Has (kept.trees f) g)
      (has_e : (g : Link) → Has (kept.trees e) g → Has tree g) (has_f : (g : Link) → Has (kept.trees f) g → Has tree g)
      (ends_of : (x i : ℕ) (p : Part) → PartEndsAt pe x ⊎ PartEndsAt pf x → IsLive r i p → PartEndsAt p x → i ≢ e → i ≢ f → PartEndsAt new x)
      (step : InParallel (part_link e pe) (part_link f pf) (part_link (length r.parts) new)
      ⊎ InSeries (live_links r) a b (part_link e pe) (part_link f pf) (part_link (length r.parts) new))
      (from : new.from < length r.at) (to : new.to < length r.at)
      (wide : new.width ≤ pe.width + pf.width) (high : new.height ≤ pe.height + pf.height) where
    abbrev joined : ReductionData
    joined = with_joined r e f new

    abbrev trees : ℕ → Tree Link
    trees i = pick (dec_nat i (length r.parts)) tree (kept.trees i)

    tree_new : trees (length r.parts) ≡ tree
    tree_new = pick_yes (dec_nat (length r.parts) (length r.parts)) refl tree (kept.trees (length r.parts))

    tree_old : (i : ℕ) (p : Part) → slice_get r.parts i ≡ Some p → trees i ≡ kept.trees i
    tree_old i p h = pick_no (dec_nat i (length r.parts)) (λ z. absurd (omega (arith, z, slice_get_within r.parts i p h))) tree (kept.trees i)

    tree_of : (i : ℕ) (p : Part) → slice_get (r.parts ++ new ∷ []) i ≡ Some p → IsTreeOf ends (r.parts ++ new ∷ []) i p (trees i)
    tree_of i p h = elim (slice_get-push_cases r.parts new i p h) [
      | inl y ↦ subst (IsTreeOf ends (r.parts ++ new ∷ []) i p) (sym (tree_old i p y)) (tree_more ends r.parts new i p (kept.trees i) (kept.tree_of i p y))
      | inr y ↦ subst (λ j. IsTreeOf ends (r.parts ++ new ∷ []) j p (trees j)) (sym y.0)
          (subst (λ q. IsTreeOf ends (r.parts ++ new ∷ []) (length r.parts) q (trees (length r.parts))) y.1
          (subst (IsTreeOf ends (r.parts ++ new ∷ []) (length r.parts) new) (sym tree_new) tree_is))
    ]

    apart_new : (j : ℕ) (q : Part) → IsLive r j q → j ≢ e → j ≢ f → AreApart new q tree (kept.trees j)
    apart_new j q l ne nf =
        let one = kept.apart e j pe q le l (λ z. ne (sym z)) in
        let two = kept.apart f j pf q lf l (λ z. nf (sym z)) in
        record {
          touch = λ x s t. elim (has s.0 s.1) [
            | inl c ↦ let y = one.touch x (s.0, c, s.2) t in (ends_of x j q (inl y.0) l y.1 ne nf, y.1)
            | inr c ↦ let y = two.touch x (s.0, c, s.2) t in (ends_of x j q (inr y.0) l y.1 ne nf, y.1)
          ];
          numbers = λ g i c d z. elim (has g c) [ inl y ↦ one.numbers g i y d z | inr y ↦ two.numbers g i y d z ];
        }

    new_apart : (i j : ℕ) (p q : Part) → (i ≡ length r.parts) × (p ≡ new) → IsLive r j q → j ≢ e → j ≢ f → AreApart p q (trees i) (trees j)
    new_apart i j p q y l ne nf =
        subst (λ n. AreApart p q (trees n) (trees j)) (sym y.0)
        (subst (λ t. AreApart p q t (trees j)) (sym tree_new)
        (subst (λ t. AreApart p q tree t) (sym (tree_old j q l.0))
        (subst (λ v. AreApart v q tree (kept.trees j)) (sym y.1) (apart_new j q l ne nf))))

    apart : (i j : ℕ) (p q : Part) → IsLive joined i p → IsLive joined j q → i ≢ j → AreApart p q (trees i) (trees j)
    apart i j p q l m other = by (live_cases r e f pe pf new kept.long i p l) (live_cases r e f pe pf new kept.long j q m)
      where
        by : ((i ≡ length r.parts) × (p ≡ new)) ⊎ (IsLive r i p × (i ≢ e) × (i ≢ f))
            → ((j ≡ length r.parts) × (q ≡ new)) ⊎ (IsLive r j q × (j ≢ e) × (j ≢ f)) → AreApart p q (trees i) (trees j)
        by (inl y) (inl z) = absurd (other (y.0 ∙ sym z.0))
        by (inl y) (inr z) = new_apart i j p q y z.0 z.1 z.2
        by (inr y) (inl z) = swap_apart q p (trees j) (trees i) (new_apart j i q p z y.0 y.1 y.2)
        by (inr y) (inr z) =
            subst (λ t. AreApart p q t (trees j)) (sym (tree_old i p y.0.0))
            (subst (λ t. AreApart p q (kept.trees i) t) (sym (tree_old j q z.0.0)) (kept.apart i j p q y.0 z.0 other))

    all : (g : Link) → Contains (links_of ends) g → (i : ℕ) × (p : Part) × IsLive joined i p × Has (trees i) g
    all g c =
        let y = kept.all g c in
        let here : Has tree g → (i : ℕ) × (p : Part) × IsLive joined i p × Has (trees i) g = λ h. (length r.parts, new, new_live r e f pe pf new kept.long, subst (λ t. Has t g) (sym tree_new) h) in
        elim (dec_nat y.0 e) [
          | inl z ↦ here (has_e g (subst (λ n. Has (kept.trees n) g) z y.3))
          | inr ne ↦ elim (dec_nat y.0 f) [
            | inl z ↦ here (has_f g (subst (λ n. Has (kept.trees n) g) z y.3))
            | inr nf ↦ (y.0, y.1, still_live r e f pe pf new kept.long y.0 y.1 y.2 ne nf, subst (λ t. Has t g) (sym (tree_old y.0 y.1 y.2.0)) y.3)
          ]
        ]

    room : length joined.at ≡ length r.at
    room =
        let one = listed r.at new.from ++ length r.parts ∷ [] in
        let lists = set r.at new.from one in
        length-set lists new.to (listed lists new.to ++ length r.parts ∷ []) ∙ length-set r.at new.from one

    inside : (i : ℕ) (p : Part) → slice_get (r.parts ++ new ∷ []) i ≡ Some p → (p.from < length joined.at) × (p.to < length joined.at)
    inside i p h = elim (slice_get-push_cases r.parts new i p h) [
      | inl y ↦ let z = kept.inside i p y in (omega (arith, z.0, room), omega (arith, z.1, room))
      | inr y ↦ (omega (arith, from, room, ap (λ (v : Part). v.from) y.1), omega (arith, to, room, ap (λ (v : Part). v.to) y.1))
    ]

    pub joined_kept : IsKept ends a b (with_joined r e f new)
    joined_kept = record {
      long = joined_long r e f pe pf new kept.long;
      inside = inside;
      keeps = λ w h n. (steps_keep (live_links r) (live_links joined) a b w h (live_once r)
          (part_link e pe, part_link f pf, part_link (length r.parts) new, merges r e f pe pf new kept.long le lf differ, step)).0 (kept.keeps w h n);
      trees = trees;
      tree_of = tree_of;
      apart = apart;
      all = all;
      wide = omega (arith, joined_total r e f pe pf new kept.long le lf differ (λ p. p.width), kept.wide, wide);
      high = omega (arith, joined_total r e f pe pf new kept.long le lf differ (λ p. p.height), kept.high, high);
      few = omega (arith, joined_total r e f pe pf new kept.long le lf differ (λ p. 1), kept.few, length-append r.parts (new ∷ []));
    }

  apart_pair : AreApart pe pf (kept.trees e) (kept.trees f)
  apart_pair = kept.apart e f pe pf le lf differ

  module _ (u m v : ℕ) (first : PartJoins pe u m) (second : PartJoins pf m v) (other : u ≢ v) (not_top : m ≢ a) (not_bottom : m ≢ b)
      (no_third : (i : ℕ) (p : Part) → IsLive r i p → PartEndsAt p m → (i ≡ e) ⊎ (i ≡ f)) (from : u < length r.at) (to : v < length r.at) where
    abbrev new_series : Part
    new_series = series_part e f pe pf u v

    pub series_kept : IsKept ends a b (with_joined r e f (series_part e f pe pf u v))
    series_kept =
        let l = read_tree ends r.parts e pe (kept.trees e) u m (kept.tree_of e pe le.0) first in
        let t = read_tree ends r.parts f pf (kept.trees f) m v (kept.tree_of f pf lf.0) second in
        joined_kept (series_part e f pe pf u v) (Series l.tree t.tree)
        (record {
          unfolds = series (series_part e f pe pf u v) (slice_get-push r.parts (series_part e f pe pf u v)) refl refl refl
              (unfolds_more r.parts (series_part e f pe pf u v) e u m l.tree l.unfolds) (unfolds_more r.parts (series_part e f pe pf u v) f m v t.tree t.unfolds);
          between = (
            m,
            l.between,
            t.between,
            (λ x s w.
                let y = apart_pair.touch x (s.0, l.from s.0 s.1, s.2) (w.0, t.from w.0 w.1, w.2) in
                elim (part_end_is pe u m x first y.0) [
                  | inr z ↦ z
                  | inl z ↦ elim (part_end_is pf m v x second y.1) [ inl o ↦ o | inr o ↦ absurd (other (sym z ∙ o)) ]
                ]),
            (λ g h c d z. apart_pair.numbers g h (l.from g c) (t.from h d) z),
          );
          given = λ g c. elim c [
            | inl y ↦ (kept.tree_of e pe le.0).given g (l.from g y)
            | inr y ↦ (kept.tree_of f pf lf.0).given g (t.from g y)
          ];
          width_is = omega (arith, l.width_is, t.width_is);
          height_is = omega (arith, l.height_is, t.height_is);
        })
        (λ g c. elim c [ inl y ↦ inl (l.from g y) | inr y ↦ inr (t.from g y) ])
        (λ g c. inl (l.to g c))
        (λ g c. inr (t.to g c))
        (λ x i p which live at ne nf. elim which [
          | inl y ↦ elim (part_end_is pe u m x first y) [
            | inl z ↦ inl (sym z)
            | inr z ↦ absurd (elim (no_third i p live (subst (PartEndsAt p) z at)) [ inl o ↦ ne o | inr o ↦ nf o ])
          ]
          | inr y ↦ elim (part_end_is pf m v x second y) [
            | inl z ↦ absurd (elim (no_third i p live (subst (PartEndsAt p) z at)) [ inl o ↦ ne o | inr o ↦ nf o ])
            | inr z ↦ inr (sym z)
          ]
        ])
        (inr (record {
          u = u;
          m = m;
          v = v;
          first = first;
          second = second;
          joined = inl (refl, refl);
          first_other = λ z. proper e pe u m le first z;
          second_other = λ z. proper f pf m v lf second (sym z);
          not_top = not_top;
          not_bottom = not_bottom;
          no_third = λ g c d.
              let y = (live_is r g).0 c in
              elim (no_third y.0 y.1 y.2 (subst (λ h. EndsAt h m) y.3 d)) [ inl z ↦ inl (one_of g e pe le y.0 y.1 y.2 y.3 z) | inr z ↦ inr (one_of g f pf lf y.0 y.1 y.2 y.3 z) ];
          wide = refl;
          high = refl;
        }))
        from to (omega arith) (omega arith)
      where
        proper : (i : ℕ) (p : Part) (x y : ℕ) → IsLive r i p → PartJoins p x y → x ≡ y → ⊥
        proper i p x y l j z =
            let t = read_tree ends r.parts i p (kept.trees i) x y (kept.tree_of i p l.0) j in
            ends_differ t.tree x y t.between z

        one_of : (g : Link) (i : ℕ) (p : Part) → IsLive r i p → (j : ℕ) (q : Part) → IsLive r j q → g ≡ part_link j q → j ≡ i → g ≡ part_link i p
        one_of g i p l j q k w z =
            w ∙ ap (λ n. part_link n q) z ∙ ap (part_link i) (one_part r.parts i q p (subst (λ n. slice_get r.parts n ≡ Some q) z k.0) l.0)

  module _ (u v : ℕ) (first : PartJoins pe u v) (second : PartJoins pf u v) (from : u < length r.at) (to : v < length r.at) where
    pub parallel_kept : IsKept ends a b (with_joined r e f (parallel_part e f pe pf u v))
    parallel_kept =
        let l = read_tree ends r.parts e pe (kept.trees e) u v (kept.tree_of e pe le.0) first in
        let t = read_tree ends r.parts f pf (kept.trees f) u v (kept.tree_of f pf lf.0) second in
        joined_kept (parallel_part e f pe pf u v) (Parallel l.tree t.tree)
        (record {
          unfolds = parallel (parallel_part e f pe pf u v) (slice_get-push r.parts (parallel_part e f pe pf u v)) refl (inl (refl, refl))
              (unfolds_more r.parts (parallel_part e f pe pf u v) e u v l.tree l.unfolds) (unfolds_more r.parts (parallel_part e f pe pf u v) f u v t.tree t.unfolds);
          between = (
            l.between,
            t.between,
            (λ x s w. part_end_is pe u v x first (apart_pair.touch x (s.0, l.from s.0 s.1, s.2) (w.0, t.from w.0 w.1, w.2)).0),
            (λ g h c d z. apart_pair.numbers g h (l.from g c) (t.from h d) z),
          );
          given = λ g c. elim c [
            | inl y ↦ (kept.tree_of e pe le.0).given g (l.from g y)
            | inr y ↦ (kept.tree_of f pf lf.0).given g (t.from g y)
          ];
          width_is = omega (arith, l.width_is, t.width_is);
          height_is = omega (arith, l.height_is, t.height_is);
        })
        (λ g c. elim c [ inl y ↦ inl (l.from g y) | inr y ↦ inr (t.from g y) ])
        (λ g c. inl (l.to g c))
        (λ g c. inr (t.to g c))
        (λ x i p which live at ne nf. elim which [
          | inl y ↦ new_end x (part_end_is pe u v x first y)
          | inr y ↦ new_end x (part_end_is pf u v x second y)
        ])
        (inl (record { x = u; y = v; first = first; second = second; joined = inl (refl, refl); wide = refl; high = refl }))
        from to (omega arith) (omega arith)
      where
        new_end : (x : ℕ) → (x ≡ u) ⊎ (x ≡ v) → PartEndsAt (parallel_part e f pe pf u v) x
        new_end x (inl z) = inl (sym z)
        new_end x (inr z) = inr (sym z)
