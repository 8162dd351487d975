-- Two links in series at a net of no third end become one: the tree stays one, as wide and as high.
use Rattle.std.specs.Prelude.{max, ◌≢◌, ◌⊎◌}
use Rattle.std.proofs.Common.{ap, arith, inl, inr, refl, subst, sym, ℕ, ◌+◌, ◌∙◌, ◌≡◌}
use Rattle.dom_base.proofs.Decided.{dec_nat}
use Rattle.sp_network.specs.Tree.{Leaf, Parallel, Series, Tree, leaves}
use Rattle.sp_reduction.specs.Networks.{Apart, Between, EndsAt, Has, Joins, Link, Touches, whole_height, whole_width}
use Rattle.sp_reduction.proofs.Facts.{bottom_touched, end_is, joins_first, joins_second, link_proper, same_number, swap_joins, top_touched}
use Rattle.sp_reduction.proofs.Merged.{Fresh, Merged, in_parallel_left, in_parallel_right, in_series_left, in_series_right, swap_merged}

-- no other link of the tree ends at the net
abbrev pub Only : Tree Link → Link → ℕ → Type 0
Only t e m = (g : Link) → Has t g → EndsAt g m → g ≡ e

-- the last link of a tree has gone: there is no other, or the others stand between the top and its other end
record Shortened (t : Tree Link) (a u m : ℕ) (e : Link) : Type 0 where
  tree : Tree Link
  between : Between tree a u
  from : (g : Link) → Has tree g → Has t g × (g.number ≢ e.number)
  to : (g : Link) → Has t g → g.number ≢ e.number → Has tree g
  width_is : max (whole_width tree) e.width ≡ whole_width t
  height_is : whole_height tree + e.height ≡ whole_height t
  leaves_is : leaves tree + 1 ≡ leaves t

record IsAlone (t : Tree Link) (a u : ℕ) (e : Link) : Type 0 where
  only : (g : Link) → Has t g → g ≡ e
  top : a ≡ u
  width_is : whole_width t ≡ e.width
  height_is : whole_height t ≡ e.height
  leaves_is : leaves t ≡ 1

touch_short : (t : Tree Link) (a u m : ℕ) (e : Link) → (d : Shortened t a u m e) → (x : ℕ) → Touches d.tree x → Touches t x
touch_short t a u m e d x (g, c, z) = (g, (d.from g c).0, z)

other_end : (e : Link) (a u m : ℕ) → a ≢ m → Joins e a m → Joins e u m → a ≡ u
other_end e a u m n (inl j) (inl z) = sym j.0 ∙ z.0
other_end e a u m n (inl j) (inr z) = absurd (n (sym j.0 ∙ z.1))
other_end e a u m n (inr j) (inl z) = absurd (n (sym j.0 ∙ z.1))
other_end e a u m n (inr j) (inr z) = sym j.0 ∙ z.0

shorten : (t : Tree Link) (a u m : ℕ) (e : Link) → Between t a m → Has t e → Joins e u m → Only t e m → IsAlone t a u e ⊎ Shortened t a u m e
shorten (Leaf g) a u m e h c j only =
    inl (record {
      only = λ d z. z ∙ sym c;
      top = other_end e a u m h.1 (rw c h.0) j;
      width_is = ap (λ (x : Link). x.width) (sym c);
      height_is = ap (λ (x : Link). x.height) (sym c);
      leaves_is = refl;
    })
shorten (Series l r) a u m e (n, p, q, s, k) c j only =
    let low = bottom_touched r n m q in
    let same : low.0 ≡ e = only low.0 (inr low.1) low.2 in
    let d : Has r e = rw (← same) low.1 in
    elim (shorten r n u m e q d j (λ g z. only g (inr z))) [
      | inl v ↦ inr (record {
        tree = l;
        between = rw (← v.top) p;
        from = λ g z. (inl z, (λ w. k g e z d w));
        to = λ g z w. elim z [ inl y ↦ y | inr y ↦ absurd (w (same_number e g (v.only g y))) ];
        width_is = omega (arith, v.width_is);
        height_is = omega (arith, v.height_is);
        leaves_is = omega (arith, v.leaves_is);
      })
      | inr v ↦ inr (record {
        tree = Series l v.tree;
        between = (n, p, v.between, (λ x t w. s x t (touch_short r n u m e v x w)), (λ g f y z. k g f y (v.from f z).0));
        from = λ g z. elim z [ inl y ↦ (inl y, (λ w. k g e y d w)) | inr y ↦ (inr (v.from g y).0, (v.from g y).1) ];
        to = λ g z w. elim z [ inl y ↦ inl y | inr y ↦ inr (v.to g y w) ];
        width_is = omega (arith, v.width_is);
        height_is = omega (arith, v.height_is);
        leaves_is = omega (arith, v.leaves_is);
      })
    ]
shorten (Parallel l r) a u m e (p, q, s, k) c j only =
    let low = bottom_touched l a m p in
    let other = bottom_touched r a m q in
    absurd (k low.0 other.0 low.1 other.1 (ap (λ (x : Link). x.number) (only low.0 (inl low.1) low.2 ∙ sym (only other.0 (inr other.1) other.2))))

-- the first link of a tree, at its top, has become one from another net
record Extended (t : Tree Link) (u b : ℕ) (f e new : Link) : Type 0 where
  tree : Tree Link
  between : Between tree u b
  from : (g : Link) → Has tree g → (g ≡ new) ⊎ (Has t g × (g.number ≢ f.number))
  to : (g : Link) → Has t g → g.number ≢ f.number → Has tree g
  there : Has tree new
  width_is : whole_width tree ≡ max (whole_width t) e.width
  height_is : whole_height tree ≡ whole_height t + e.height
  leaves_is : leaves tree ≡ leaves t

module _ (e f new : Link) (wide : new.width ≡ max e.width f.width) (high : new.height ≡ e.height + f.height) (u m v : ℕ)
    (j : Joins f m v) (i : Joins new u v) where
  touch_extended : (t : Tree Link) (b : ℕ) → Has t f → (w : Extended t u b f e new) → (x : ℕ) → Touches w.tree x → (x ≡ u) ⊎ Touches t x
  touch_extended t b d w x (g, c, z) =
      elim (w.from g c) [
        | inl same ↦ elim (end_is new u v x i (rw same at z)) [ inl y ↦ inl y | inr y ↦ inr (f, d, rw y (joins_second f m v j)) ]
        | inr y ↦ inr (g, y.0, z)
      ]

  extend : (t : Tree Link) (b : ℕ) → Between t m b → Has t f → Only t f m → (Touches t u → ⊥)
      → ((g : Link) → Has t g → g.number ≡ new.number → g.number ≡ f.number) → Extended t u b f e new
  extend (Leaf g) b h c only away fresh =
      let same : b ≡ v = far h.0 (rw c at j) in
      record {
        tree = Leaf new;
        between = (rw same i, (λ z. away (g, refl, joins_at z)));
        from = λ d z. inl z;
        to = λ d z n. absurd (n (same_number f d (z ∙ sym c)));
        there = refl;
        width_is = omega (arith, wide, ap (λ (x : Link). x.width) c);
        height_is = omega (arith, high, ap (λ (x : Link). x.height) c);
        leaves_is = refl;
      }
    where
      far : Joins g m b → Joins g m v → b ≡ v
      far (inl x) (inl y) = sym x.1 ∙ y.1
      far (inl x) (inr y) = absurd (h.1 (sym y.0 ∙ x.1))
      far (inr x) (inl y) = absurd (h.1 (sym y.0 ∙ x.1))
      far (inr x) (inr y) = sym x.1 ∙ y.1

      joins_at : u ≡ b → EndsAt g u
      joins_at z = rw z (joins_second g m b h.0)
  extend (Series l r) b (n, p, q, s, k) c only away fresh =
      let high_end = top_touched l m n p in
      let same : high_end.0 ≡ f = only high_end.0 (inl high_end.1) high_end.2 in
      let d : Has l f = rw (← same) high_end.1 in
      let w = extend l n p d (λ g z. only g (inl z)) (λ z. away (z.0, inl z.1, z.2)) (λ g z. fresh g (inl z)) in
      record {
        tree = Series w.tree r;
        between = (
          n,
          w.between,
          q,
          (λ x t y. elim (touch_extended l n d w x t) [ inl z ↦ absurd (away (y.0, inr y.1, rw (← z) y.2)) | inr z ↦ s x z y ]),
          (λ g h y z o. elim (w.from g y) [
            | inl x ↦ k f h d z (sym (fresh h (inr z) (sym o ∙ ap (λ (x : Link). x.number) x)))
            | inr x ↦ k g h x.0 z o
          ]),
        );
        from = λ g z. elim z [ inl y ↦ elim (w.from g y) [ inl x ↦ inl x | inr x ↦ inr (inl x.0, x.1) ] | inr y ↦ inr (inr y, (λ x. k f g d y (sym x))) ];
        to = λ g z x. elim z [ inl y ↦ inl (w.to g y x) | inr y ↦ inr y ];
        there = inl w.there;
        width_is = omega (arith, w.width_is);
        height_is = omega (arith, w.height_is);
        leaves_is = omega (arith, w.leaves_is);
      }
  extend (Parallel l r) b (p, q, s, k) c only away fresh =
      let one = top_touched l m b p in
      let other = top_touched r m b q in
      absurd (k one.0 other.0 one.1 other.1 (ap (λ (x : Link). x.number) (only one.0 (inl one.1) one.2 ∙ sym (only other.0 (inr other.1) other.2))))

  -- the two links meet at the net that two parts in series share
  pub meet : (l r : Tree Link) (a b : ℕ) → Joins e u m → Between l a m → Between r m b → ((x : ℕ) → Touches l x → Touches r x → x ≡ m) → Apart l r
      → Has l e → Has r f → Only l e m → Only r f m → Fresh (Series l r) e f new → Merged (Series l r) a b e f new
  meet l r a b j' p q s k c d only only' fresh =
      elim (shorten l a u m e p c j' only) [
        | inl y ↦ record {
          tree = w.tree;
          between = subst (λ x. Between w.tree x b) (sym y.top) w.between;
          from = λ g z. elim (w.from g z) [ inl x ↦ inl x | inr x ↦ inr (inr x.0, (λ o. k e g c x.0 (sym o)), x.1) ];
          to = λ g z n n'. elim z [ inl x ↦ absurd (n (same_number e g (y.only g x))) | inr x ↦ w.to g x n' ];
          there = w.there;
          touches = back w.tree (λ x t. touch_extended r b d w x t);
          width_is = omega (arith, w.width_is, y.width_is);
          height_is = omega (arith, w.height_is, y.height_is);
          leaves_is = omega (arith, w.leaves_is, y.leaves_is);
        }
        | inr y ↦ record {
          tree = Series y.tree w.tree;
          between = (
            u,
            y.between,
            w.between,
            (λ x t z. elim (touch_extended r b d w x z) [ inl o ↦ o | inr o ↦ absurd (not_there x (s x (touch_short l a u m e y x t) o) y t) ]),
            (λ g h o z n. elim (w.from h z) [
              | inl x ↦ elim (fresh g (inl (y.from g o).0) (n ∙ ap (λ (x : Link). x.number) x)) [ inl i ↦ (y.from g o).1 i | inr i ↦ k g f (y.from g o).0 d i ]
              | inr x ↦ k g h (y.from g o).0 x.0 n
            ]),
          );
          from = λ g z. elim z [
            | inl x ↦ inr (inl (y.from g x).0, (y.from g x).1, (λ o. k g f (y.from g x).0 d o))
            | inr x ↦ elim (w.from g x) [ inl o ↦ inl o | inr o ↦ inr (inr o.0, (λ i. k e g c o.0 (sym i)), o.1) ]
          ];
          to = λ g z n n'. elim z [ inl x ↦ inl (y.to g x n) | inr x ↦ inr (w.to g x n') ];
          there = inr w.there;
          touches = λ x t. elim t.1 [
            | inl o ↦ (t.0, inl (y.from t.0 o).0, t.2)
            | inr o ↦ back w.tree (λ x t. touch_extended r b d w x t) x (t.0, o, t.2)
          ];
          width_is = omega (arith, w.width_is, y.width_is);
          height_is = omega (arith, w.height_is, y.height_is);
          leaves_is = omega (arith, w.leaves_is, y.leaves_is);
        }
      ]
    where
      -- the other end of the first link is no net of the second part
      away : Touches r u → ⊥
      away t = link_proper l a m p e c u (rw (← s u (e, c, joins_first e u m j') t) at j')

      w : Extended r u b f e new
      w = extend r b q d only' away (λ g z o. elim (fresh g (inr z) o) [ inl x ↦ absurd (k e g c z (sym x)) | inr x ↦ x ])

      back : (t : Tree Link) → ((x : ℕ) → Touches t x → (x ≡ u) ⊎ Touches r x) → (x : ℕ) → Touches t x → (g : Link) × (Has l g ⊎ Has r g) × EndsAt g x
      back t h x y = elim (h x y) [ inl z ↦ (e, inl c, rw z (joins_first e u m j')) | inr z ↦ (z.0, inr z.1, z.2) ]

      not_there : (x : ℕ) → x ≡ m → (y : Shortened l a u m e) → Touches y.tree x → ⊥
      not_there x z y (g, o, t) = (y.from g o).1 (same_number e g (only g (y.from g o).0 (rw (← z) t)))

-- the links join u and v to m, at which no third link of the tree ends
abbrev pub NoThird : Tree Link → Link → Link → ℕ → Type 0
NoThird t e f m = (g : Link) → Has t g → EndsAt g m → (g ≡ e) ⊎ (g ≡ f)

pub merge_series : (e f new : Link) → e.number ≢ f.number → new.width ≡ max e.width f.width → new.height ≡ e.height + f.height
    → (u m v : ℕ) → Joins e u m → Joins f m v → Joins new u v
    → (t : Tree Link) (a b : ℕ) → Between t a b → Has t e → Has t f → NoThird t e f m → m ≢ a → m ≢ b → Fresh t e f new → Merged t a b e f new
merge_series e f new differ wide high u m v j j' i (Leaf g) a b h c d third na nb fresh = absurd (differ (ap (λ (z : Link). z.number) (c ∙ sym d)))
merge_series e f new differ wide high u m v j j' i (Series l r) a b (n, p, q, s, k) c d third na nb fresh =
    elim (dec_nat m n) [
      | inl same ↦ at_net same (bottom_touched l a n p) (top_touched r n b q)
      | inr other ↦ elim c [
        | inl x ↦ elim d [
          | inl y ↦ in_series_left l r a b n e f new x y p q s k fresh
              (merge_series e f new differ wide high u m v j j' i l a n p x y (λ g z. third g (inl z)) na other (λ g z. fresh g (inl z)))
          | inr y ↦ absurd (other (s m (e, x, joins_second e u m j) (f, y, joins_first f m v j')))
        ]
        | inr x ↦ elim d [
          | inl y ↦ absurd (other (s m (f, y, joins_first f m v j') (e, x, joins_second e u m j)))
          | inr y ↦ in_series_right l r a b n e f new x y p q s k fresh
              (merge_series e f new differ wide high u m v j j' i r n b q x y (λ g z. third g (inr z)) other nb (λ g z. fresh g (inr z)))
        ]
      ]
    ]
  where
    -- m is the net that the two parts share: one link ends the first part, the other begins the second
    at_net : m ≡ n → Touches l n → Touches r n → Merged (Series l r) a b e f new
    at_net same (g, x, t) (h, y, o) = sides (third g (inl x) (rw same t)) (third h (inr y) (rw same o))
      where
        only_left : (x : Link) → Has l x → (y : Link) → Has r y → (g : Link) → (g ≡ x) ⊎ (g ≡ y) → Has l g → g ≡ x
        only_left x cx y cy g (inl z) w = z
        only_left x cx y cy g (inr z) w = absurd (k g y w cy (ap (λ (z : Link). z.number) z))

        only_right : (x : Link) → Has l x → (y : Link) → Has r y → (g : Link) → (g ≡ x) ⊎ (g ≡ y) → Has r g → g ≡ y
        only_right x cx y cy g (inl z) w = absurd (k x g cx w (ap (λ (z : Link). z.number) (sym z)))
        only_right x cx y cy g (inr z) w = z

        turn : {A B : Type 0} → A ⊎ B → B ⊎ A
        turn (inl z) = inr z
        turn (inr z) = inl z

        sides : (g ≡ e) ⊎ (g ≡ f) → (h ≡ e) ⊎ (h ≡ f) → Merged (Series l r) a b e f new
        sides (inl z) (inl w) = absurd (k g h x y (ap (λ (z : Link). z.number) (z ∙ sym w)))
        sides (inl z) (inr w) =
            let ce : Has l e = rw (← z) x in
            let cf : Has r f = rw (← w) y in
            meet e f new wide high u m v j' i l r a b j (rw same p) (rw same q) (λ x t o. s x t o ∙ sym same) k ce cf
            (λ g c t. only_left e ce f cf g (third g (inl c) t) c) (λ g c t. only_right e ce f cf g (third g (inr c) t) c) fresh
        sides (inr z) (inl w) =
            let cf : Has l f = rw (← z) x in
            let ce : Has r e = rw (← w) y in
            swap_merged (Series l r) a b f e new
            (meet f e new (omega (arith, wide)) (omega (arith, high)) v m u (swap_joins e u m j) (swap_joins new u v i) l r a b (swap_joins f m v j') (rw same p) (rw same q) (λ x t o. s x t o ∙ sym same) k cf ce
            (λ g c t. only_left f cf e ce g (turn (third g (inl c) t)) c) (λ g c t. only_right f cf e ce g (turn (third g (inr c) t)) c) (λ g c z. turn (fresh g c z)))
        sides (inr z) (inr w) = absurd (k g h x y (ap (λ (z : Link). z.number) (z ∙ sym w)))
merge_series e f new differ wide high u m v j j' i (Parallel l r) a b (p, q, s, k) c d third na nb fresh =
    elim c [
      | inl x ↦ elim d [
        | inl y ↦ in_parallel_left l r a b e f new x y p q s k fresh
            (merge_series e f new differ wide high u m v j j' i l a b p x y (λ g z. third g (inl z)) na nb (λ g z. fresh g (inl z)))
        | inr y ↦ away (s m (e, x, joins_second e u m j) (f, y, joins_first f m v j'))
      ]
      | inr x ↦ elim d [
        | inl y ↦ away (s m (f, y, joins_first f m v j') (e, x, joins_second e u m j))
        | inr y ↦ in_parallel_right l r a b e f new x y p q s k fresh
            (merge_series e f new differ wide high u m v j j' i r a b q x y (λ g z. third g (inr z)) na nb (λ g z. fresh g (inr z)))
      ]
    ]
  where
    away : {X : Type 0} → (m ≡ a) ⊎ (m ≡ b) → X
    away (inl z) = absurd (na z)
    away (inr z) = absurd (nb z)
