-- Trees of links whose nets and numbers are renamed one to one.
use Rattle.std.proofs.lemmas.List.{map-append}
use Rattle.std.proofs.Common.{[], ap, ap₂, inl, inr, map, max, refl, subst, sym, ℕ, ◌++◌, ◌+◌, ◌∙◌, ◌∷◌, ◌≡◌}
use Rattle.sp_network.specs.Tree.{Leaf, Parallel, Series, Tree}
use Rattle.sp_reduction.specs.Networks.{Apart, Between, EndsAt, Has, Joins, Link, Touches, whole_height, whole_width}
use Rattle.link_reduce.specs.Parts.{numbers_of}
use Rattle.sp_reduction.proofs.Facts.{bottom_touched}

both : (g : ℕ → ℕ) (l r m n : Tree Link) → numbers_of m ≡ map g (numbers_of l) → numbers_of n ≡ map g (numbers_of r)
    → numbers_of m ++ numbers_of n ≡ map g (numbers_of l ++ numbers_of r)
both g l r m n x y = ap₂ ◌++◌ x y ∙ sym (map-append g (numbers_of l) (numbers_of r))

-- a relation that is one to one
pub record IsOneToOne (N : ℕ → ℕ → Type 0) : Type 0 where
  pub to : (a b c : ℕ) → N a b → N a c → b ≡ c
  pub from : (a b c : ℕ) → N a c → N b c → a ≡ b

module _ (N Q : ℕ → ℕ → Type 0) where
  -- the number and the ends of a link are renamed
  pub record IsRenamed (e f : Link) : Type 0 where
    pub number : Q e.number f.number
    pub from : N e.from f.from
    pub to : N e.to f.to
    pub width : e.width ≡ f.width
    pub height : e.height ≡ f.height

  pub data Renames : Tree Link → Tree Link → Type 0 where
    leaf : {e f : Link} → IsRenamed e f → Renames (Leaf e) (Leaf f)
    series : {l r m n : Tree Link} → Renames l m → Renames r n → Renames (Series l r) (Series m n)
    parallel : {l r m n : Tree Link} → Renames l m → Renames r n → Renames (Parallel l r) (Parallel m n)

  -- a tree each of whose links has a renamed one has a renamed tree
  pub rename : (t : Tree Link) → ((e : Link) → Has t e → (f : Link) × IsRenamed e f) → (u : Tree Link) × Renames t u
  rename (Leaf e) h = let y = h e refl in (Leaf y.0, leaf y.1)
  rename (Series l r) h =
      let y = rename l (λ e c. h e (inl c)) in let z = rename r (λ e c. h e (inr c)) in (Series y.0 z.0, series y.1 z.1)
  rename (Parallel l r) h =
      let y = rename l (λ e c. h e (inl c)) in let z = rename r (λ e c. h e (inr c)) in (Parallel y.0 z.0, parallel y.1 z.1)

  pub renamed_width : (t u : Tree Link) → Renames t u → whole_width t ≡ whole_width u
  renamed_width t u (leaf x) = x.width
  renamed_width t u (series {l} {r} {m} {n} x y) = ap₂ max (renamed_width l m x) (renamed_width r n y)
  renamed_width t u (parallel {l} {r} {m} {n} x y) = ap₂ ◌+◌ (renamed_width l m x) (renamed_width r n y)

  pub renamed_height : (t u : Tree Link) → Renames t u → whole_height t ≡ whole_height u
  renamed_height t u (leaf x) = x.height
  renamed_height t u (series {l} {r} {m} {n} x y) = ap₂ ◌+◌ (renamed_height l m x) (renamed_height r n y)
  renamed_height t u (parallel {l} {r} {m} {n} x y) = ap₂ max (renamed_height l m x) (renamed_height r n y)

  pub renamed_has : (t u : Tree Link) → Renames t u → (f : Link) → Has u f → (e : Link) × Has t e × IsRenamed e f
  renamed_has t u (leaf {e} {f} x) g c = (e, refl, subst (IsRenamed e) (sym c) x)
  renamed_has t u (series {l} {r} {m} {n} x y) f (inl c) = let z = renamed_has l m x f c in (z.0, inl z.1, z.2)
  renamed_has t u (series {l} {r} {m} {n} x y) f (inr c) = let z = renamed_has r n y f c in (z.0, inr z.1, z.2)
  renamed_has t u (parallel {l} {r} {m} {n} x y) f (inl c) = let z = renamed_has l m x f c in (z.0, inl z.1, z.2)
  renamed_has t u (parallel {l} {r} {m} {n} x y) f (inr c) = let z = renamed_has r n y f c in (z.0, inr z.1, z.2)

  pub has_renamed : (t u : Tree Link) → Renames t u → (e : Link) → Has t e → (f : Link) × Has u f × IsRenamed e f
  has_renamed t u (leaf {e} {f} x) g c = (f, refl, subst (λ h. IsRenamed h f) (sym c) x)
  has_renamed t u (series {l} {r} {m} {n} x y) e (inl c) = let z = has_renamed l m x e c in (z.0, inl z.1, z.2)
  has_renamed t u (series {l} {r} {m} {n} x y) e (inr c) = let z = has_renamed r n y e c in (z.0, inr z.1, z.2)
  has_renamed t u (parallel {l} {r} {m} {n} x y) e (inl c) = let z = has_renamed l m x e c in (z.0, inl z.1, z.2)
  has_renamed t u (parallel {l} {r} {m} {n} x y) e (inr c) = let z = has_renamed r n y e c in (z.0, inr z.1, z.2)

  -- the numbers of a renamed tree, where a function renames them
  pub renamed_numbers : (g : ℕ → ℕ) → ((i n : ℕ) → Q i n → n ≡ g i) → (t u : Tree Link) → Renames t u → numbers_of u ≡ map g (numbers_of t)
  renamed_numbers g is t u (leaf {e} {f} x) = ap (λ n. n ∷ []) (is e.number f.number x.number)
  renamed_numbers g is t u (series {l} {r} {m} {n} x y) = both g l r m n (renamed_numbers g is l m x) (renamed_numbers g is r n y)
  renamed_numbers g is t u (parallel {l} {r} {m} {n} x y) = both g l r m n (renamed_numbers g is l m x) (renamed_numbers g is r n y)

  -- a net that a renamed tree touches is a renamed one that the tree touches, and the other way round
  renamed_touched : (t u : Tree Link) → Renames t u → (y : ℕ) → Touches u y → (x : ℕ) × N x y × Touches t x
  renamed_touched t u h y (f, c, ends) = by (renamed_has t u h f c) ends
    where
      by : (e : Link) × Has t e × IsRenamed e f → EndsAt f y → (x : ℕ) × N x y × Touches t x
      by (e, d, is) (inl z) = (e.from, subst (N e.from) z is.from, (e, d, inl refl))
      by (e, d, is) (inr z) = (e.to, subst (N e.to) z is.to, (e, d, inr refl))

  touched_renamed : (t u : Tree Link) → Renames t u → (x : ℕ) → Touches t x → (y : ℕ) × N x y
  touched_renamed t u h x (e, c, ends) = by (has_renamed t u h e c) ends
    where
      by : (f : Link) × Has u f × IsRenamed e f → EndsAt e x → (y : ℕ) × N x y
      by (f, d, is) (inl z) = (f.from, subst (λ w. N w f.from) z is.from)
      by (f, d, is) (inr z) = (f.to, subst (λ w. N w f.to) z is.to)

  -- the renamed tree stands between the renamed ends
  module _ (nets : IsOneToOne N) (numbers : IsOneToOne Q) where
    joins_renamed : (e f : Link) → IsRenamed e f → (a b c d : ℕ) → N a c → N b d → Joins e a b → Joins f c d
    joins_renamed e f is a b c d p q (inl j) =
        inl (nets.to a f.from c (subst (λ w. N w f.from) j.0 is.from) p, nets.to b f.to d (subst (λ w. N w f.to) j.1 is.to) q)
    joins_renamed e f is a b c d p q (inr j) =
        inr (nets.to a f.to c (subst (λ w. N w f.to) j.0 is.to) p, nets.to b f.from d (subst (λ w. N w f.from) j.1 is.from) q)

    apart_renamed : (l r m n : Tree Link) → Renames l m → Renames r n → Apart l r → Apart m n
    apart_renamed l r m n x y apart e f c d same =
        let u = renamed_has l m x e c in
        let v = renamed_has r n y f d in
        apart u.0 v.0 u.1 v.1 (numbers.from u.0.number v.0.number f.number (subst (Q u.0.number) same u.2.number) v.2.number)

    pub between_renamed : (t u : Tree Link) → Renames t u → (a b c d : ℕ) → N a c → N b d → Between t a b → Between u c d
    between_renamed t u (leaf {e} {f} is) a b c d p q h =
        (joins_renamed e f is a b c d p q h.0, (λ z. h.1 (nets.from a b d (subst (N a) z p) q)))
    between_renamed t u (series {l} {r} {m} {n} x y) a b c d p q (mid, up, down, shared, apart) =
        let w = touched_renamed l m x mid (bottom_touched l a mid up) in (
          w.0,
          between_renamed l m x a mid c w.0 p w.1 up,
          between_renamed r n y mid b w.0 d w.1 q down,
          (λ z s t.
              let i = renamed_touched l m x z s in
              let j = renamed_touched r n y z t in
              let same : i.0 ≡ j.0 = nets.from i.0 j.0 z i.1 j.1 in
              let is : i.0 ≡ mid = shared i.0 i.2 (subst (Touches r) (sym same) j.2) in
              nets.to mid z w.0 (subst (λ v. N v z) is i.1) w.1),
          apart_renamed l r m n x y apart,
        )
    between_renamed t u (parallel {l} {r} {m} {n} x y) a b c d p q (one, other, shared, apart) = (
      between_renamed l m x a b c d p q one,
      between_renamed r n y a b c d p q other,
      (λ z s t.
          let i = renamed_touched l m x z s in
          let j = renamed_touched r n y z t in
          let same : i.0 ≡ j.0 = nets.from i.0 j.0 z i.1 j.1 in
          elim (shared i.0 i.2 (subst (Touches r) (sym same) j.2)) [
            | inl is ↦ inl (nets.to a z c (subst (λ v. N v z) is i.1) p)
            | inr is ↦ inr (nets.to b z d (subst (λ v. N v z) is i.1) q)
          ]),
      apart_renamed l r m n x y apart,
    )
