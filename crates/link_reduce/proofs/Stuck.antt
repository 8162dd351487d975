-- A network at whose nets no step is left is one link.
use Rattle.std.specs.Prelude.{◌≢◌, ◌⊎◌}
use Rattle.std.proofs.Common.{inl, inr, sym, ℕ, ◌∙◌, ◌≡◌}
use Rattle.sp_network.specs.Tree.{Leaf, Parallel, Series, Tree}
use Rattle.sp_reduction.specs.Networks.{Between, EndsAt, Has, Joins, Link}
use Rattle.sp_reduction.proofs.Facts.{bottom_touched, ends_differ, joins_first, link_proper, swap_joins, top_touched}
use Rattle.link_reduce.specs.Reductions.{IsSettled, LeadsToTwo, LeadsToThree}

-- an inner net of a tree whose links lead to two nets
record Inner (t : Tree Link) (a b : ℕ) : Type 0 where
  m : ℕ
  u : ℕ
  v : ℕ
  e : Link
  f : Link
  has_e : Has t e
  has_f : Has t f
  first : Joins e m u
  second : Joins f m v
  differ : u ≢ v
  not_top : m ≢ a
  not_bottom : m ≢ b
  only : (g : Link) → Has t g → EndsAt g m → Joins g m u ⊎ Joins g m v

-- all links of a tree join its ends, or it has such a net
two_of : (t : Tree Link) (a b : ℕ) → Between t a b → ((e : Link) → Has t e → Joins e a b) ⊎ Inner t a b
two_of (Leaf e) a b h = inl (λ f c. rw c h.0)
two_of (Series l r) a b (m, p, q, s, k) = elim (two_of l a m p) [
  | inr y ↦ inr (record {
    m = y.m;
    u = y.u;
    v = y.v;
    e = y.e;
    f = y.f;
    has_e = inl y.has_e;
    has_f = inl y.has_f;
    first = y.first;
    second = y.second;
    differ = y.differ;
    not_top = y.not_top;
    not_bottom = λ z. y.not_bottom (z ∙ s b (y.e, y.has_e, rw z at (joins_first y.e y.m y.u y.first)) (bottom_touched r m b q));
    only = λ g c d. elim c [ inl i ↦ y.only g i d | inr i ↦ absurd (y.not_bottom (s y.m (y.e, y.has_e, joins_first y.e y.m y.u y.first) (g, i, d))) ];
  })
  | inl al ↦ elim (two_of r m b q) [
    | inr y ↦ inr (record {
      m = y.m;
      u = y.u;
      v = y.v;
      e = y.e;
      f = y.f;
      has_e = inr y.has_e;
      has_f = inr y.has_f;
      first = y.first;
      second = y.second;
      differ = y.differ;
      not_top = λ z. y.not_top (z ∙ s a (top_touched l a m p) (y.e, y.has_e, rw z at (joins_first y.e y.m y.u y.first)));
      not_bottom = y.not_bottom;
      only = λ g c d. elim c [ inl i ↦ absurd (y.not_top (s y.m (g, i, d) (y.e, y.has_e, joins_first y.e y.m y.u y.first))) | inr i ↦ y.only g i d ];
    })
    | inl ar ↦
        let e = top_touched l a m p in
        let f = bottom_touched r m b q in
        inr (record {
          m = m;
          u = a;
          v = b;
          e = e.0;
          f = f.0;
          has_e = inl e.1;
          has_f = inr f.1;
          first = swap_joins e.0 a m (al e.0 e.1);
          second = ar f.0 f.1;
          differ = ends_differ (Series l r) a b (m, p, q, s, k);
          not_top = λ z. ends_differ l a m p (sym z);
          not_bottom = ends_differ r m b q;
          only = λ g c d. elim c [ inl i ↦ inl (swap_joins g a m (al g i)) | inr i ↦ inr (ar g i) ];
        })
  ]
]
two_of (Parallel l r) a b (p, q, s, k) = elim (two_of l a b p) [
  | inr y ↦ inr (record {
    m = y.m;
    u = y.u;
    v = y.v;
    e = y.e;
    f = y.f;
    has_e = inl y.has_e;
    has_f = inl y.has_f;
    first = y.first;
    second = y.second;
    differ = y.differ;
    not_top = y.not_top;
    not_bottom = y.not_bottom;
    only = λ g c d. elim c [
      | inl i ↦ y.only g i d
      | inr i ↦ absurd (elim (s y.m (y.e, y.has_e, joins_first y.e y.m y.u y.first) (g, i, d)) [ inl z ↦ y.not_top z | inr z ↦ y.not_bottom z ])
    ];
  })
  | inl al ↦ elim (two_of r a b q) [
    | inr y ↦ inr (record {
      m = y.m;
      u = y.u;
      v = y.v;
      e = y.e;
      f = y.f;
      has_e = inr y.has_e;
      has_f = inr y.has_f;
      first = y.first;
      second = y.second;
      differ = y.differ;
      not_top = y.not_top;
      not_bottom = y.not_bottom;
      only = λ g c d. elim c [
        | inl i ↦ absurd (elim (s y.m (g, i, d) (y.e, y.has_e, joins_first y.e y.m y.u y.first)) [ inl z ↦ y.not_top z | inr z ↦ y.not_bottom z ])
        | inr i ↦ y.only g i d
      ];
    })
    | inl ar ↦ inl (λ e c. elim c [ inl i ↦ al e i | inr i ↦ ar e i ])
  ]
]

-- the other end of a link is one net
pub other_is : (e : Link) (n u v : ℕ) → n ≢ v → Joins e n u → Joins e n v → u ≡ v
other_is e n u v differ (inl i) (inl j) = sym i.1 ∙ j.1
other_is e n u v differ (inl i) (inr j) = absurd (differ (sym i.0 ∙ j.1))
other_is e n u v differ (inr i) (inl j) = absurd (differ (sym i.0 ∙ j.1))
other_is e n u v differ (inr i) (inr j) = sym i.1 ∙ j.1

module _ (P : Link → Type 0) (t : Tree Link) (a b : ℕ) (h : Between t a b) (from : (e : Link) → P e → Has t e) (to : (e : Link) → Has t e → P e) where
  module _ (all : (e : Link) → Has t e → Joins e a b) where
    not_two : LeadsToTwo P a → ⊥
    not_two y =
        let far = λ (e : Link) (u : ℕ) (c : P e) (j : Joins e a u). other_is e a u b (ends_differ t a b h) j (all e (from e c)) in
        y.differ (far y.e y.u y.has_e y.first ∙ sym (far y.f y.v y.has_f y.second))

    one_of : ((n : ℕ) → IsSettled P a b n) → (e f : Link) → Has t e → Has t f → e ≡ f
    one_of settled e f c d = elim (settled a) [
      | inl one ↦ one e f (to e c) (to f d) (joins_first e a b (all e c)) (joins_first f a b (all f d))
      | inr more ↦ absurd (elim more [ inl y ↦ not_two y.1 | inr y ↦ not_two y.two ])
    ]

  module _ (y : Inner t a b) where
    far_is : (g : Link) (w : ℕ) → P g → Joins g y.m w → (w ≡ y.u) ⊎ (w ≡ y.v)
    far_is g w c j = elim (y.only g (from g c) (joins_first g y.m w j)) [
      | inl i ↦ inl (other_is g y.m w y.u (λ z. link_proper t a b h g (from g c) y.m (rw (← z) at i)) j i)
      | inr i ↦ inr (other_is g y.m w y.v (λ z. link_proper t a b h g (from g c) y.m (rw (← z) at i)) j i)
    ]

    not_one : ((e f : Link) → P e → P f → EndsAt e y.m → EndsAt f y.m → e ≡ f) → ⊥
    not_one one =
        let same = one y.e y.f (to y.e y.has_e) (to y.f y.has_f) (joins_first y.e y.m y.u y.first) (joins_first y.f y.m y.v y.second) in
        y.differ (other_is y.f y.m y.u y.v (λ z. link_proper t a b h y.f y.has_f y.m (rw (← z) at y.second)) (rw same at y.first) y.second)

    not_three : LeadsToThree P y.m → ⊥
    not_three z =
        by (far_is z.two.e z.two.u z.two.has_e z.two.first) (far_is z.two.f z.two.v z.two.has_f z.two.second) (far_is z.g z.w z.has_g z.third)
      where
        by : (z.two.u ≡ y.u) ⊎ (z.two.u ≡ y.v) → (z.two.v ≡ y.u) ⊎ (z.two.v ≡ y.v) → (z.w ≡ y.u) ⊎ (z.w ≡ y.v) → ⊥
        by (inl i) (inl j) k = z.two.differ (i ∙ sym j)
        by (inr i) (inr j) k = z.two.differ (i ∙ sym j)
        by (inl i) (inr j) (inl k) = z.not_first (k ∙ sym i)
        by (inl i) (inr j) (inr k) = z.not_second (k ∙ sym j)
        by (inr i) (inl j) (inl k) = z.not_second (k ∙ sym j)
        by (inr i) (inl j) (inr k) = z.not_first (k ∙ sym i)

    not_settled : IsSettled P a b y.m → ⊥
    not_settled (inl one) = not_one one
    not_settled (inr (inl z)) = elim z.0 [ inl i ↦ y.not_top i | inr i ↦ y.not_bottom i ]
    not_settled (inr (inr z)) = not_three z

  -- a tree has one link alone where each net is settled, and that joins its ends
  pub settled_is_one : ((n : ℕ) → IsSettled P a b n) → (e : Link) × Has t e × Joins e a b × ((g : Link) → Has t g → g ≡ e)
  settled_is_one settled = elim (two_of t a b h) [
    | inl all ↦ let e = top_touched t a b h in (e.0, e.1, all e.0 e.1, (λ g c. one_of all settled g e.0 c e.1))
    | inr y ↦ absurd (not_settled y (settled y.m))
  ]
