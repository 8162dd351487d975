-- What holds of a tree between two nets.
use Rattle.std.specs.Prelude.{◌≢◌, ◌⊎◌}
use Rattle.std.proofs.Common.{ap, inl, inr, refl, sym, ℕ, ◌∙◌, ◌≡◌}
use Rattle.sp_network.specs.Tree.{Leaf, Parallel, Series, Tree}
use Rattle.sp_reduction.specs.Networks.{Between, EndsAt, Has, Joins, Link, Touches}

pub joins_first : (e : Link) (a b : ℕ) → Joins e a b → EndsAt e a
joins_first e a b (inl j) = inl j.0
joins_first e a b (inr j) = inr j.0

pub joins_second : (e : Link) (a b : ℕ) → Joins e a b → EndsAt e b
joins_second e a b (inl j) = inr j.1
joins_second e a b (inr j) = inl j.1

pub swap_joins : (e : Link) (a b : ℕ) → Joins e a b → Joins e b a
swap_joins e a b (inl j) = inr (j.1, j.0)
swap_joins e a b (inr j) = inl (j.1, j.0)

-- an end is one of the two
pub end_is : (e : Link) (a b x : ℕ) → Joins e a b → EndsAt e x → (x ≡ a) ⊎ (x ≡ b)
end_is e a b x (inl j) (inl z) = inl (sym z ∙ j.0)
end_is e a b x (inl j) (inr z) = inr (sym z ∙ j.1)
end_is e a b x (inr j) (inl z) = inr (sym z ∙ j.1)
end_is e a b x (inr j) (inr z) = inl (sym z ∙ j.0)

-- the ends of a tree are ends of links, and they differ
pub top_touched : (t : Tree Link) (a b : ℕ) → Between t a b → Touches t a
top_touched (Leaf e) a b h = (e, refl, joins_first e a b h.0)
top_touched (Series l r) a b (m, p, q, s, k) = let u = top_touched l a m p in (u.0, inl u.1, u.2)
top_touched (Parallel l r) a b (p, q, s, k) = let u = top_touched l a b p in (u.0, inl u.1, u.2)

pub bottom_touched : (t : Tree Link) (a b : ℕ) → Between t a b → Touches t b
bottom_touched (Leaf e) a b h = (e, refl, joins_second e a b h.0)
bottom_touched (Series l r) a b (m, p, q, s, k) = let u = bottom_touched r m b q in (u.0, inr u.1, u.2)
bottom_touched (Parallel l r) a b (p, q, s, k) = let u = bottom_touched l a b p in (u.0, inl u.1, u.2)

pub ends_differ : (t : Tree Link) (a b : ℕ) → Between t a b → a ≢ b
ends_differ (Leaf e) a b h z = h.1 z
ends_differ (Series l r) a b (m, p, q, s, k) z =
    ends_differ l a m p (s a (top_touched l a m p) (rw z (bottom_touched r m b q)))
ends_differ (Parallel l r) a b (p, q, s, k) z = ends_differ l a b p z

-- a link of a tree has two ends
pub link_proper : (t : Tree Link) (a b : ℕ) → Between t a b → (e : Link) → Has t e → (x : ℕ) → Joins e x x → ⊥
link_proper (Leaf f) a b h e c x j = proper h.0 (rw c at j)
  where
    proper : Joins f a b → Joins f x x → ⊥
    proper (inl u) (inl v) = h.1 (sym u.0 ∙ v.0 ∙ sym v.1 ∙ u.1)
    proper (inl u) (inr v) = h.1 (sym u.0 ∙ v.1 ∙ sym v.0 ∙ u.1)
    proper (inr u) (inl v) = h.1 (sym u.0 ∙ v.1 ∙ sym v.0 ∙ u.1)
    proper (inr u) (inr v) = h.1 (sym u.0 ∙ v.0 ∙ sym v.1 ∙ u.1)
link_proper (Series l r) a b (m, p, q, s, k) e (inl c) x j = link_proper l a m p e c x j
link_proper (Series l r) a b (m, p, q, s, k) e (inr c) x j = link_proper r m b q e c x j
link_proper (Parallel l r) a b (p, q, s, k) e (inl c) x j = link_proper l a b p e c x j
link_proper (Parallel l r) a b (p, q, s, k) e (inr c) x j = link_proper r a b q e c x j

-- one link has one number
pub same_number : (e f : Link) → f ≡ e → f.number ≡ e.number
same_number e f z = ap (λ (x : Link). x.number) z

-- two links of a tree with one number are one
pub one_link : (t : Tree Link) (a b : ℕ) → Between t a b → (e f : Link) → Has t e → Has t f → e.number ≡ f.number → e ≡ f
one_link (Leaf g) a b h e f c d z = c ∙ sym d
one_link (Series l r) a b (m, p, q, s, k) e f (inl c) (inl d) z = one_link l a m p e f c d z
one_link (Series l r) a b (m, p, q, s, k) e f (inl c) (inr d) z = absurd (k e f c d z)
one_link (Series l r) a b (m, p, q, s, k) e f (inr c) (inl d) z = absurd (k f e d c (sym z))
one_link (Series l r) a b (m, p, q, s, k) e f (inr c) (inr d) z = one_link r m b q e f c d z
one_link (Parallel l r) a b (p, q, s, k) e f (inl c) (inl d) z = one_link l a b p e f c d z
one_link (Parallel l r) a b (p, q, s, k) e f (inl c) (inr d) z = absurd (k e f c d z)
one_link (Parallel l r) a b (p, q, s, k) e f (inr c) (inl d) z = absurd (k f e d c (sym z))
one_link (Parallel l r) a b (p, q, s, k) e f (inr c) (inr d) z = one_link r a b q e f c d z
