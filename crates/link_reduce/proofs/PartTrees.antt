-- The trees of parts, read from either end.
use Rattle.std.proofs.Common.{List, [], arith, inl, inr, refl, subst, sym, ℕ, ◌++◌, ◌∙◌, ◌∷◌, ◌≡◌}
use Rattle.dom_base.proofs.Lists.{slice_get-append}
use Rattle.sp_network.specs.Tree.{Leaf, Parallel, Series, Tree}
use Rattle.sp_reduction.specs.Networks.{Between, Has, Link, Touches, whole_height, whole_width}
use Rattle.sp_reduction.proofs.Facts.{swap_joins}
use Rattle.link_reduce.specs.Parts.{PartJoins}
use Rattle.link_reduce.specs.Reductions.{IsTreeOf, Unfolds, given, parallel, series, turned}
use Rattle.link_reduce.specs.declared.part.Ends.{Ends}
use Rattle.link_reduce.specs.declared.part.Part.{Part}

abbrev pub turn : Tree Link → Tree Link
turn (Leaf e) = Leaf e
turn (Series l r) = Series (turn r) (turn l)
turn (Parallel l r) = Parallel (turn l) (turn r)

pub has_turned : (t : Tree Link) (e : Link) → Has t e → Has (turn t) e
has_turned (Leaf f) e c = c
has_turned (Series l r) e (inl c) = inr (has_turned l e c)
has_turned (Series l r) e (inr c) = inl (has_turned r e c)
has_turned (Parallel l r) e (inl c) = inl (has_turned l e c)
has_turned (Parallel l r) e (inr c) = inr (has_turned r e c)

pub has_turned_back : (t : Tree Link) (e : Link) → Has (turn t) e → Has t e
has_turned_back (Leaf f) e c = c
has_turned_back (Series l r) e (inl c) = inr (has_turned_back r e c)
has_turned_back (Series l r) e (inr c) = inl (has_turned_back l e c)
has_turned_back (Parallel l r) e (inl c) = inl (has_turned_back l e c)
has_turned_back (Parallel l r) e (inr c) = inr (has_turned_back r e c)

touches_back : (t : Tree Link) (x : ℕ) → Touches (turn t) x → Touches t x
touches_back t x (e, c, d) = (e, has_turned_back t e c, d)

pub between_turned : (t : Tree Link) (a b : ℕ) → Between t a b → Between (turn t) b a
between_turned (Leaf e) a b h = (swap_joins e a b h.0, (λ z. h.1 (sym z)))
between_turned (Series l r) a b (m, p, q, s, k) = (
  m,
  between_turned r m b q,
  between_turned l a m p,
  (λ x u v. s x (touches_back l x v) (touches_back r x u)),
  (λ e f c d z. k f e (has_turned_back l f d) (has_turned_back r e c) (sym z)),
)
between_turned (Parallel l r) a b (p, q, s, k) = (
  between_turned l a b p,
  between_turned r a b q,
  (λ x u v. elim (s x (touches_back l x u) (touches_back r x v)) [ inl z ↦ inr z | inr z ↦ inl z ]),
  (λ e f c d z. k e f (has_turned_back l e c) (has_turned_back r f d) z),
)

pub width_turned : (t : Tree Link) → whole_width (turn t) ≡ whole_width t
width_turned (Leaf e) = refl
width_turned (Series l r) = omega (arith, width_turned l, width_turned r)
width_turned (Parallel l r) = omega (arith, width_turned l, width_turned r)

pub height_turned : (t : Tree Link) → whole_height (turn t) ≡ whole_height t
height_turned (Leaf e) = refl
height_turned (Series l r) = omega (arith, height_turned l, height_turned r)
height_turned (Parallel l r) = omega (arith, height_turned l, height_turned r)

pub swap_part : (p : Part) (a b : ℕ) → PartJoins p a b → PartJoins p b a
swap_part p a b (inl j) = inr (j.1, j.0)
swap_part p a b (inr j) = inl (j.1, j.0)

pub unfolds_turned : (parts : List Part) (i a b : ℕ) (t : Tree Link) → Unfolds parts i a b t → Unfolds parts i b a (turn t)
unfolds_turned parts i a b _ (given p e g j) = given p e g (swap_part p a b j)
unfolds_turned parts i a b _ (series {e = x} {f = y} {m = m} {l = l} {r = r} p e g s t u v) =
    turned p e g t s (unfolds_turned parts y m b r v) (unfolds_turned parts x a m l u)
unfolds_turned parts i a b _ (turned {e = x} {f = y} {m = m} {l = l} {r = r} p e g s t u v) =
    series p e g t s (unfolds_turned parts x m b r v) (unfolds_turned parts y a m l u)
unfolds_turned parts i a b _ (parallel {e = x} {f = y} {l = l} {r = r} p e g j u v) =
    parallel p e g (swap_part p a b j) (unfolds_turned parts x a b l u) (unfolds_turned parts y a b r v)

pub unfolds_more : (parts : List Part) (q : Part) (i a b : ℕ) (t : Tree Link) → Unfolds parts i a b t → Unfolds (parts ++ q ∷ []) i a b t
unfolds_more parts q i a b _ (given p e g j) = given p (slice_get-append parts (q ∷ []) i p e) g j
unfolds_more parts q i a b _ (series {e = x} {f = y} {m = m} {l = l} {r = r} p e g s t u v) =
    series p (slice_get-append parts (q ∷ []) i p e) g s t (unfolds_more parts q x a m l u) (unfolds_more parts q y m b r v)
unfolds_more parts q i a b _ (turned {e = x} {f = y} {m = m} {l = l} {r = r} p e g s t u v) =
    turned p (slice_get-append parts (q ∷ []) i p e) g s t (unfolds_more parts q y a m l u) (unfolds_more parts q x m b r v)
unfolds_more parts q i a b _ (parallel {e = x} {f = y} {l = l} {r = r} p e g j u v) =
    parallel p (slice_get-append parts (q ∷ []) i p e) g j (unfolds_more parts q x a b l u) (unfolds_more parts q y a b r v)

-- the tree of a part, read from one of its ends
pub record IsReading (parts : List Part) (i : ℕ) (p : Part) (t : Tree Link) (a b : ℕ) : Type 0 where
  pub tree : Tree Link
  pub unfolds : Unfolds parts i a b tree
  pub between : Between tree a b
  pub from : (e : Link) → Has tree e → Has t e
  pub to : (e : Link) → Has t e → Has tree e
  pub width_is : whole_width tree ≡ p.width
  pub height_is : whole_height tree ≡ p.height

pub read_tree : (ends : List Ends) (parts : List Part) (i : ℕ) (p : Part) (t : Tree Link) (a b : ℕ) → IsTreeOf ends parts i p t → PartJoins p a b
    → IsReading parts i p t a b
read_tree ends parts i p t a b is (inl j) = record {
  tree = t;
  unfolds = subst (λ y. Unfolds parts i a y t) j.1 (subst (λ x. Unfolds parts i x p.to t) j.0 is.unfolds);
  between = subst (λ y. Between t a y) j.1 (subst (λ x. Between t x p.to) j.0 is.between);
  from = λ e c. c;
  to = λ e c. c;
  width_is = is.width_is;
  height_is = is.height_is;
}
read_tree ends parts i p t a b is (inr j) =
    let u = unfolds_turned parts i p.from p.to t is.unfolds in
    let h = between_turned t p.from p.to is.between in
    record {
      tree = turn t;
      unfolds = subst (λ y. Unfolds parts i a y (turn t)) j.1 (subst (λ x. Unfolds parts i x p.from (turn t)) j.0 u);
      between = subst (λ y. Between (turn t) a y) j.1 (subst (λ x. Between (turn t) x p.from) j.0 h);
      from = has_turned_back t;
      to = has_turned t;
      width_is = width_turned t ∙ is.width_is;
      height_is = height_turned t ∙ is.height_is;
    }
