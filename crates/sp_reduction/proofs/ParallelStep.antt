-- Two links in parallel become one: the tree stays one, as wide and as high.
use Rattle.std.specs.Prelude.{max, ◌≢◌, ◌⊎◌}
use Rattle.std.proofs.Common.{ap, arith, inl, inr, refl, sym, ℕ, ◌+◌, ◌∙◌, ◌≡◌}
use Rattle.sp_network.specs.Tree.{Leaf, Parallel, Series, Tree, leaves}
use Rattle.sp_reduction.specs.Networks.{Apart, Between, EndsAt, Has, Joins, Link, Touches, whole_height, whole_width}
use Rattle.sp_reduction.proofs.Facts.{bottom_touched, end_is, ends_differ, joins_first, joins_second, link_proper, same_number, swap_joins, top_touched}
use Rattle.sp_reduction.proofs.Merged.{Fresh, Merged, in_parallel_left, in_parallel_right, in_series_left, in_series_right, swap_apart, swap_merged}

number_of : Link → ℕ
number_of e = e.number

-- a link between the ends of a tree has become a wider one
record Widened (t : Tree Link) (a b : ℕ) (e f new : Link) : Type 0 where
  tree : Tree Link
  between : Between tree a b
  from : (g : Link) → Has tree g → (g ≡ new) ⊎ (Has t g × (g.number ≢ e.number))
  to : (g : Link) → Has t g → g.number ≢ e.number → Has tree g
  there : Has tree new
  width_is : whole_width tree ≡ whole_width t + f.width
  height_is : whole_height tree ≡ max (whole_height t) f.height
  leaves_is : leaves tree ≡ leaves t

module _ (e f new : Link) (wide : new.width ≡ e.width + f.width) (high : new.height ≡ max e.height f.height) where
  touch_widened : (t : Tree Link) (a b : ℕ) → Joins new a b → (w : Widened t a b e f new) → (x : ℕ) → Touches w.tree x → (x ≡ a) ⊎ ((x ≡ b) ⊎ Touches t x)
  touch_widened t a b j w x (g, c, z) =
      elim (w.from g c) [
        | inl same ↦ elim (end_is new a b x j (rw same at z)) [ inl y ↦ inl y | inr y ↦ inr (inl y) ]
        | inr u ↦ inr (inr (g, u.0, z))
      ]

  apart_widened : (t r : Tree Link) (a b : ℕ) → Has t e → Apart t r → ((g : Link) → Has r g → g.number ≡ new.number → g.number ≡ e.number)
      → (w : Widened t a b e f new) → Apart w.tree r
  apart_widened t r a b c k fresh w g h p q z =
      elim (w.from g p) [
        | inl same ↦ k e h c q (sym (fresh h q (sym z ∙ ap (λ (x : Link). x.number) same)))
        | inr u ↦ k g h u.0 q z
      ]

  widen : (t : Tree Link) (a b : ℕ) → Between t a b → Has t e → Joins e a b → Joins new a b
      → ((g : Link) → Has t g → g.number ≡ new.number → g.number ≡ e.number) → Widened t a b e f new
  widen (Leaf g) a b h c j j' fresh = record {
    tree = Leaf new;
    between = (j', h.1);
    from = λ d z. inl z;
    to = λ d z n. absurd (n (ap (λ (x : Link). x.number) (z ∙ sym c)));
    there = refl;
    width_is = wide ∙ ap (λ (x : Link). x.width + f.width) c;
    height_is = high ∙ ap (λ (x : Link). max x.height f.height) c;
    leaves_is = refl;
  }
  widen (Series l r) a b (m, p, q, s, k) (inl c) j j' fresh =
      absurd (ends_differ r m b q (sym (s b (e, c, joins_second e a b j) (bottom_touched r m b q))))
  widen (Series l r) a b (m, p, q, s, k) (inr c) j j' fresh =
      absurd (ends_differ l a m p (s a (top_touched l a m p) (e, c, joins_first e a b j)))
  widen (Parallel l r) a b (p, q, s, k) (inl c) j j' fresh =
      let w = widen l a b p c j j' (λ g d. fresh g (inl d)) in
      record {
        tree = Parallel w.tree r;
        between = (w.between, q, (λ x t u. elim (touch_widened l a b j' w x t) [ inl y ↦ inl y | inr y ↦ elim y [ inl z ↦ inr z | inr z ↦ s x z u ] ]), apart_widened l r a b c k (λ g d. fresh g (inr d)) w);
        from = λ g d. elim d [ inl y ↦ elim (w.from g y) [ inl z ↦ inl z | inr z ↦ inr (inl z.0, z.1) ] | inr y ↦ inr (inr y, (λ z. k e g c y (sym z))) ];
        to = λ g d n. elim d [ inl y ↦ inl (w.to g y n) | inr y ↦ inr y ];
        there = inl w.there;
        width_is = omega (arith, w.width_is);
        height_is = omega (arith, w.height_is);
        leaves_is = omega (arith, w.leaves_is);
      }
  widen (Parallel l r) a b (p, q, s, k) (inr c) j j' fresh =
      let w = widen r a b q c j j' (λ g d. fresh g (inr d)) in
      record {
        tree = Parallel l w.tree;
        between = (p, w.between, (λ x t u. elim (touch_widened r a b j' w x u) [ inl y ↦ inl y | inr y ↦ elim y [ inl z ↦ inr z | inr z ↦ s x t z ] ]), swap_apart w.tree l (apart_widened r l a b c (swap_apart l r k) (λ g d. fresh g (inl d)) w));
        from = λ g d. elim d [ inl y ↦ inr (inl y, (λ z. k g e y c z)) | inr y ↦ elim (w.from g y) [ inl z ↦ inl z | inr z ↦ inr (inr z.0, z.1) ] ];
        to = λ g d n. elim d [ inl y ↦ inl y | inr y ↦ inr (w.to g y n) ];
        there = inr w.there;
        width_is = omega (arith, w.width_is);
        height_is = omega (arith, w.height_is);
        leaves_is = omega (arith, w.leaves_is);
      }

-- a link between the ends of a tree has gone
record Dropped (t : Tree Link) (a b : ℕ) (f : Link) : Type 0 where
  tree : Tree Link
  between : Between tree a b
  from : (g : Link) → Has tree g → Has t g × (g.number ≢ f.number)
  to : (g : Link) → Has t g → g.number ≢ f.number → Has tree g
  width_is : whole_width tree + f.width ≡ whole_width t
  height_is : max (whole_height tree) f.height ≡ whole_height t
  leaves_is : leaves tree + 1 ≡ leaves t

-- or it is the only one
record IsAlone (t : Tree Link) (f : Link) : Type 0 where
  only : (g : Link) → Has t g → g ≡ f
  width_is : whole_width t ≡ f.width
  height_is : whole_height t ≡ f.height
  leaves_is : leaves t ≡ 1

touch_dropped : (t : Tree Link) (a b : ℕ) (f : Link) → (d : Dropped t a b f) → (x : ℕ) → Touches d.tree x → Touches t x
touch_dropped t a b f d x (g, c, z) = (g, (d.from g c).0, z)

drop_link : (t : Tree Link) (a b : ℕ) (f : Link) → Between t a b → Has t f → Joins f a b → IsAlone t f ⊎ Dropped t a b f
drop_link (Leaf g) a b f h c j =
    inl (record { only = λ d z. z ∙ sym c; width_is = ap (λ (x : Link). x.width) (sym c); height_is = ap (λ (x : Link). x.height) (sym c); leaves_is = refl })
drop_link (Series l r) a b f (m, p, q, s, k) (inl c) j =
    absurd (ends_differ r m b q (sym (s b (f, c, joins_second f a b j) (bottom_touched r m b q))))
drop_link (Series l r) a b f (m, p, q, s, k) (inr c) j =
    absurd (ends_differ l a m p (s a (top_touched l a m p) (f, c, joins_first f a b j)))
drop_link (Parallel l r) a b f (p, q, s, k) (inl c) j =
    elim (drop_link l a b f p c j) [
      | inl u ↦ inr (record {
        tree = r;
        between = q;
        from = λ g d. (inr d, (λ z. k f g c d (sym z)));
        to = λ g d n. elim d [ inl y ↦ absurd (n (same_number f g (u.only g y))) | inr y ↦ y ];
        width_is = omega (arith, u.width_is);
        height_is = omega (arith, u.height_is);
        leaves_is = omega (arith, u.leaves_is);
      })
      | inr u ↦ inr (record {
        tree = Parallel u.tree r;
        between = (u.between, q, (λ x t v. s x (touch_dropped l a b f u x t) v), (λ g h d y. k g h (u.from g d).0 y));
        from = λ g d. elim d [ inl y ↦ let z = u.from g y in (inl z.0, z.1) | inr y ↦ (inr y, (λ z. k f g c y (sym z))) ];
        to = λ g d n. elim d [ inl y ↦ inl (u.to g y n) | inr y ↦ inr y ];
        width_is = omega (arith, u.width_is);
        height_is = omega (arith, u.height_is);
        leaves_is = omega (arith, u.leaves_is);
      })
    ]
drop_link (Parallel l r) a b f (p, q, s, k) (inr c) j =
    elim (drop_link r a b f q c j) [
      | inl u ↦ inr (record {
        tree = l;
        between = p;
        from = λ g d. (inl d, (λ z. k g f d c z));
        to = λ g d n. elim d [ inl y ↦ y | inr y ↦ absurd (n (same_number f g (u.only g y))) ];
        width_is = omega (arith, u.width_is);
        height_is = omega (arith, u.height_is);
        leaves_is = omega (arith, u.leaves_is);
      })
      | inr u ↦ inr (record {
        tree = Parallel l u.tree;
        between = (p, u.between, (λ x t v. s x t (touch_dropped r a b f u x v)), (λ g h d y. k g h d (u.from h y).0));
        from = λ g d. elim d [ inl y ↦ (inl y, (λ z. k g f y c z)) | inr y ↦ let z = u.from g y in (inr z.0, z.1) ];
        to = λ g d n. elim d [ inl y ↦ inl y | inr y ↦ inr (u.to g y n) ];
        width_is = omega (arith, u.width_is);
        height_is = omega (arith, u.height_is);
        leaves_is = omega (arith, u.leaves_is);
      })
    ]

-- the two links stand in the two parts of a parallel, whose ends they join
split : (l r : Tree Link) (a b : ℕ) (e f new : Link) → new.width ≡ e.width + f.width → new.height ≡ max e.height f.height
    → Between l a b → Between r a b → ((x : ℕ) → Touches l x → Touches r x → (x ≡ a) ⊎ (x ≡ b)) → Apart l r
    → Has l e → Has r f → Joins e a b → Joins f a b → Joins new a b → Fresh (Parallel l r) e f new → Merged (Parallel l r) a b e f new
split l r a b e f new wide high p q s k c d j j' i fresh =
    elim (drop_link r a b f q d j') [
      | inl u ↦ record {
        tree = w.tree;
        between = w.between;
        from = λ g y. elim (w.from g y) [ inl z ↦ inl z | inr z ↦ inr (inl z.0, z.1, (λ x. k g f z.0 d x)) ];
        to = λ g y n n'. elim y [ inl z ↦ w.to g z n | inr z ↦ absurd (n' (same_number f g (u.only g z))) ];
        there = w.there;
        touches = λ x t. back x (touch_widened e f new wide high l a b i w x t);
        width_is = omega (arith, w.width_is, u.width_is);
        height_is = omega (arith, w.height_is, u.height_is);
        leaves_is = omega (arith, w.leaves_is, u.leaves_is);
      }
      | inr u ↦ record {
        tree = Parallel w.tree u.tree;
        between = (
          w.between,
          u.between,
          (λ x t v. elim (touch_widened e f new wide high l a b i w x t) [ inl y ↦ inl y | inr y ↦ elim y [ inl z ↦ inr z | inr z ↦ s x z (touch_dropped r a b f u x v) ] ]),
          (λ g h y z. apart g h y (u.from h z)),
        );
        from = λ g y. elim y [
          | inl z ↦ elim (w.from g z) [ inl x ↦ inl x | inr x ↦ inr (inl x.0, x.1, (λ v. k g f x.0 d v)) ]
          | inr z ↦ inr (inr (u.from g z).0, (λ v. k e g c (u.from g z).0 (sym v)), (u.from g z).1)
        ];
        to = λ g y n n'. elim y [ inl z ↦ inl (w.to g z n) | inr z ↦ inr (u.to g z n') ];
        there = inl w.there;
        touches = λ x t. elim t.1 [ inl y ↦ back x (touch_widened e f new wide high l a b i w x (t.0, y, t.2)) | inr y ↦ (t.0, inr (u.from t.0 y).0, t.2) ];
        width_is = omega (arith, w.width_is, u.width_is);
        height_is = omega (arith, w.height_is, u.height_is);
        leaves_is = omega (arith, w.leaves_is, u.leaves_is);
      }
    ]
  where
    fresh_left : (g : Link) → Has l g → g.number ≡ new.number → g.number ≡ e.number
    fresh_left g y z = elim (fresh g (inl y) z) [ inl v ↦ v | inr v ↦ absurd (k g f y d v) ]

    w : Widened l a b e f new
    w = widen e f new wide high l a b p c j i fresh_left

    apart : (g h : Link) → Has w.tree g → Has r h × (h.number ≢ f.number) → g.number ≢ h.number
    apart g h y z v =
        elim (w.from g y) [
          | inl same ↦ elim (fresh h (inr z.0) (sym v ∙ ap (λ (x : Link). x.number) same)) [ inl i ↦ k e h c z.0 (sym i) | inr i ↦ z.1 i ]
          | inr i ↦ k g h i.0 z.0 v
        ]

    back : (x : ℕ) → (x ≡ a) ⊎ ((x ≡ b) ⊎ Touches l x) → (g : Link) × (Has l g ⊎ Has r g) × EndsAt g x
    back x (inl z) = (e, inl c, rw z (joins_first e a b j))
    back x (inr (inl z)) = (e, inl c, rw z (joins_second e a b j))
    back x (inr (inr z)) = (z.0, inl z.1, z.2)

same_ends : (e : Link) (x y : ℕ) → x ≡ y → Joins e x y → Joins e x x
same_ends e x y z j = rw z (rw z at j)

-- two different nets that are ends of both parts are their ends
to_ends : (t : Tree Link) (a b x y : ℕ) → Between t a b → (e : Link) → Has t e → Joins e x y → (x ≡ a) ⊎ (x ≡ b) → (y ≡ a) ⊎ (y ≡ b)
    → (g : Link) → Joins g x y → Joins g a b
to_ends t a b x y h e c j (inl u) (inl v) g z = absurd (link_proper t a b h e c x (same_ends e x y (u ∙ sym v) j))
to_ends t a b x y h e c j (inl u) (inr v) g z = rw (← u, ← v) z
to_ends t a b x y h e c j (inr u) (inl v) g z = swap_joins g b a (rw (← u, ← v) z)
to_ends t a b x y h e c j (inr u) (inr v) g z = absurd (link_proper t a b h e c x (same_ends e x y (u ∙ sym v) j))

-- both links join x and y
pub merge_parallel : (e f new : Link) → e.number ≢ f.number → new.width ≡ e.width + f.width → new.height ≡ max e.height f.height
    → (x y : ℕ) → Joins e x y → Joins f x y → Joins new x y
    → (t : Tree Link) (a b : ℕ) → Between t a b → Has t e → Has t f → Fresh t e f new → Merged t a b e f new
merge_parallel e f new differ wide high x y j j' i (Leaf g) a b h c d fresh = absurd (differ (ap (λ (z : Link). z.number) (c ∙ sym d)))
merge_parallel e f new differ wide high x y j j' i (Series l r) a b (m, p, q, s, k) (inl c) (inl d) fresh =
    in_series_left l r a b m e f new c d p q s k fresh (merge_parallel e f new differ wide high x y j j' i l a m p c d (λ g z. fresh g (inl z)))
merge_parallel e f new differ wide high x y j j' i (Series l r) a b (m, p, q, s, k) (inr c) (inr d) fresh =
    in_series_right l r a b m e f new c d p q s k fresh (merge_parallel e f new differ wide high x y j j' i r m b q c d (λ g z. fresh g (inr z)))
merge_parallel e f new differ wide high x y j j' i (Series l r) a b (m, p, q, s, k) (inl c) (inr d) fresh =
    let u = s x (e, c, joins_first e x y j) (f, d, joins_first f x y j') in
    let v = s y (e, c, joins_second e x y j) (f, d, joins_second f x y j') in
    absurd (link_proper l a m p e c x (same_ends e x y (u ∙ sym v) j))
merge_parallel e f new differ wide high x y j j' i (Series l r) a b (m, p, q, s, k) (inr c) (inl d) fresh =
    let u = s x (f, d, joins_first f x y j') (e, c, joins_first e x y j) in
    let v = s y (f, d, joins_second f x y j') (e, c, joins_second e x y j) in
    absurd (link_proper r m b q e c x (same_ends e x y (u ∙ sym v) j))
merge_parallel e f new differ wide high x y j j' i (Parallel l r) a b (p, q, s, k) (inl c) (inl d) fresh =
    in_parallel_left l r a b e f new c d p q s k fresh (merge_parallel e f new differ wide high x y j j' i l a b p c d (λ g z. fresh g (inl z)))
merge_parallel e f new differ wide high x y j j' i (Parallel l r) a b (p, q, s, k) (inr c) (inr d) fresh =
    in_parallel_right l r a b e f new c d p q s k fresh (merge_parallel e f new differ wide high x y j j' i r a b q c d (λ g z. fresh g (inr z)))
merge_parallel e f new differ wide high x y j j' i (Parallel l r) a b (p, q, s, k) (inl c) (inr d) fresh =
    let u = s x (e, c, joins_first e x y j) (f, d, joins_first f x y j') in
    let v = s y (e, c, joins_second e x y j) (f, d, joins_second f x y j') in
    let at : (g : Link) → Joins g x y → Joins g a b = λ g z. to_ends l a b x y p e c j u v g z in
    split l r a b e f new wide high p q s k c d (at e j) (at f j') (at new i) fresh
merge_parallel e f new differ wide high x y j j' i (Parallel l r) a b (p, q, s, k) (inr c) (inl d) fresh =
    let u = s x (f, d, joins_first f x y j') (e, c, joins_first e x y j) in
    let v = s y (f, d, joins_second f x y j') (e, c, joins_second e x y j) in
    let at : (g : Link) → Joins g x y → Joins g a b = λ g z. to_ends r a b x y q e c j u v g z in
    swap_merged (Parallel l r) a b f e new
    (split l r a b f e new (omega (arith, wide)) (omega (arith, high)) p q s k d c (at f j') (at e j) (at new i) (λ g z w. elim (fresh g z w) [ inl o ↦ inr o | inr o ↦ inl o ]))
