-- The orders of choices and of shapes.
use Rattle.std.proofs.Common.{◌≡◌, ◌⊎◌, inl, inr, refl, sym, ap, subst, ◌∙◌, Bool, true, false, cond, List, [], ◌∷◌, filter, arith, le_antisymm}
use Rattle.std.proofs.lemmas.Bool.{cases_eq, cases_lt}
use Rattle.gate_decompose.specs.Items.{Among}
use Rattle.cover_plan.specs.Parts.{Choice, Comes, CoverPart, CutOff, Earlier, End, Join, Keep, Lower, Nothing, TreeShape}

pub shapes_are : (a b : TreeShape) → a.height ≡ b.height → a.width ≡ b.width → a ≡ b
shapes_are a b h w = λ i. record { height = h i; width = w i }

pub lower_one : (a b : TreeShape) → Lower a b → Lower b a → a ≡ b
lower_one a b (inl x) (inl y) = absurd (omega arith)
lower_one a b (inl x) (inr y) = absurd (omega (arith, y.0))
lower_one a b (inr x) (inl y) = absurd (omega (arith, x.0))
lower_one a b (inr x) (inr y) = shapes_are a b x.0 (le_antisymm x.1 y.1)

pub earlier_once : (a b : Choice) → Earlier a b → Earlier b a → ⊥
earlier_once (Keep a) (Keep b) (inl x) (inl y) = omega arith
earlier_once (Keep a) (Keep b) (inl x) (inr y) = omega (arith, y.0)
earlier_once (Keep a) (Keep b) (inr x) (inl y) = omega (arith, x.0)
earlier_once (Keep a) (Keep b) (inr x) (inr y) = omega (arith, x.1, y.1)
earlier_once (Keep a) CutOff x y = y
earlier_once (Keep a) Nothing x y = x
earlier_once CutOff b x y = x
earlier_once Nothing b x y = x

pub earlier_other : (a b : Choice) → Earlier a b → a ≡ b → ⊥
earlier_other a b x e = earlier_once a b x (subst (λ c. Earlier c a) e (subst (Earlier a) (sym e) x))

pub comes_one : (a b c d : Choice) → Comes a b c d → Comes c d a b → (a ≡ c) × (b ≡ d)
comes_one a b c d (inl x) (inl y) = absurd (earlier_once a c x y)
comes_one a b c d (inl x) (inr y) = absurd (earlier_other a c x (sym y.0))
comes_one a b c d (inr x) (inl y) = absurd (earlier_other c a y (sym x.0))
comes_one a b c d (inr (e, inl x)) (inr (f, inl y)) = absurd (earlier_once b d x y)
comes_one a b c d (inr (e, inl x)) (inr (f, inr y)) = absurd (earlier_other b d x (sym y))
comes_one a b c d (inr (e, inr x)) (inr y) = (e, x)

-- among some items that a relation orders one comes first
pub first_among : {X : Type 0} (R : X → X → Type 0) (P : X → Type 0) → ((x : X) → R x x) → ((x y z : X) → R x y → R y z → R x z) → ((x y : X) → P x → P y → R x y ⊎ R y x)
    → (xs : List X) → ((x : X) → Among x xs → P x) → (a : X) → Among a xs → (m : X) × Among m xs × ((y : X) → Among y xs → R m y)
first_among R P self trans total [] has a at = absurd at
first_among {X} R P self trans total (x ∷ []) has a at = (x, inl refl, only)
  where
    only : (y : X) → Among y (x ∷ []) → R x y
    only y (inl e) = subst (R x) e (self x)
    only y (inr at) = absurd at
first_among {X} R P self trans total (x ∷ z ∷ xs) has a at =
    by (first_among R P self trans total (z ∷ xs) (λ u g. has u (inr g)) z (inl refl))
  where
    by : (m : X) × Among m (z ∷ xs) × ((y : X) → Among y (z ∷ xs) → R m y) → (m : X) × Among m (x ∷ z ∷ xs) × ((y : X) → Among y (x ∷ z ∷ xs) → R m y)
    by (m, g, low) = which (total x m (has x (inl refl)) (has m (inr g)))
      where
        mine : R x m → (y : X) → Among y (x ∷ z ∷ xs) → R x y
        mine r y (inl e) = subst (R x) e (self x)
        mine r y (inr k) = trans x m y r (low y k)

        theirs : R m x → (y : X) → Among y (x ∷ z ∷ xs) → R m y
        theirs r y (inl e) = subst (R m) e r
        theirs r y (inr k) = low y k

        which : R x m ⊎ R m x → (n : X) × Among n (x ∷ z ∷ xs) × ((y : X) → Among y (x ∷ z ∷ xs) → R n y)
        which (inl r) = (x, inl refl, mine r)
        which (inr r) = (m, inr g, theirs r)

pub among_filter : {X : Type 0} (test : X → Bool) (x : X) (xs : List X) → Among x xs → test x ≡ true → Among x (filter test xs)
among_filter test x [] at e = absurd at
among_filter test x (y ∷ xs) (inl same) e = rw (same, e) (inl refl)
among_filter test x (y ∷ xs) (inr at) e = by (test y) (among_filter test x xs at e)
  where
    by : (b : Bool) → Among x (filter test xs) → Among x (cond b (y ∷ filter test xs) (filter test xs))
    by true g = inr g
    by false g = g

pub filter_among : {X : Type 0} (test : X → Bool) (x : X) (xs : List X) → Among x (filter test xs) → Among x xs × (test x ≡ true)
filter_among test x [] at = absurd at
filter_among test x (y ∷ xs) at = by (test y) refl at (λ g. filter_among test x xs g)
  where
    by : (b : Bool) → test y ≡ b → Among x (cond b (y ∷ filter test xs) (filter test xs)) → (Among x (filter test xs) → Among x xs × (test x ≡ true)) → Among x (y ∷ xs) × (test x ≡ true)
    by true e (inl same) more = (inl same, subst (λ z. test z ≡ true) same e)
    by true e (inr g) more = let r = more g in (inr r.0, r.1)
    by false e g more = let r = more g in (inr r.0, r.1)

pub lower_self : (a : TreeShape) → Lower a a
lower_self a = inr (refl, omega arith)

pub lower_trans : (a b c : TreeShape) → Lower a b → Lower b c → Lower a c
lower_trans a b c (inl x) (inl y) = inl (omega arith)
lower_trans a b c (inl x) (inr y) = inl (omega (arith, y.0))
lower_trans a b c (inr x) (inl y) = inl (omega (arith, x.0))
lower_trans a b c (inr x) (inr y) = inr (x.0 ∙ y.0, omega (arith, x.1, y.1))

pub lower_total : (a b : TreeShape) → Lower a b ⊎ Lower b a
lower_total a b =
    elim (cases_lt a.height b.height) [
      | inl lt ↦ inl (inl lt)
      | inr le ↦ elim (cases_eq a.height b.height) [
        | inl same ↦ elim (cases_lt a.width b.width) [ inl lt ↦ inl (inr (same, omega arith)) | inr ge ↦ inr (inr (sym same, ge)) ]
        | inr other ↦ inr (inl (omega arith))
      ]
    ]

-- a choice that an arm may have
unfoldable pub IsOption : CoverPart → Choice → Type 0
IsOption End Nothing = Unit {0}
IsOption (Join op l r) (Keep s) = Unit {0}
IsOption (Join op l r) CutOff = Unit {0}
IsOption _ _ = ⊥

pub earlier_trans : (a b c : Choice) → Earlier a b → Earlier b c → Earlier a c
earlier_trans (Keep a) (Keep b) (Keep c) (inl x) (inl y) = inl (omega arith)
earlier_trans (Keep a) (Keep b) (Keep c) (inl x) (inr y) = inl (omega (arith, y.0))
earlier_trans (Keep a) (Keep b) (Keep c) (inr x) (inl y) = inl (omega (arith, x.0))
earlier_trans (Keep a) (Keep b) (Keep c) (inr x) (inr y) = inr (x.0 ∙ y.0, omega (arith, x.1, y.1))
earlier_trans (Keep a) (Keep b) CutOff x y = tt
earlier_trans (Keep a) (Keep b) Nothing x y = absurd y
earlier_trans (Keep a) CutOff c x y = absurd y
earlier_trans (Keep a) Nothing c x y = absurd x
earlier_trans CutOff b c x y = absurd x
earlier_trans Nothing b c x y = absurd x

-- of two choices for an arm one is earlier, or they are one
pub choices_ordered : (t : CoverPart) (a b : Choice) → IsOption t a → IsOption t b → Earlier a b ⊎ ((a ≡ b) ⊎ Earlier b a)
unfolding IsOption
choices_ordered End Nothing Nothing x y = inr (inl refl)
choices_ordered End Nothing (Keep b) x y = absurd y
choices_ordered End Nothing CutOff x y = absurd y
choices_ordered End (Keep a) b x y = absurd x
choices_ordered End CutOff b x y = absurd x
choices_ordered (Join op l r) Nothing b x y = absurd x
choices_ordered (Join op l r) (Keep a) Nothing x y = absurd y
choices_ordered (Join op l r) CutOff Nothing x y = absurd y
choices_ordered (Join op l r) (Keep a) CutOff x y = inl tt
choices_ordered (Join op l r) CutOff (Keep b) x y = inr (inr tt)
choices_ordered (Join op l r) CutOff CutOff x y = inr (inl refl)
choices_ordered (Join op l r) (Keep a) (Keep b) x y =
    elim (cases_lt a.height b.height) [
      | inl lt ↦ inl (inl lt)
      | inr le ↦ elim (cases_lt b.height a.height) [
        | inl lt ↦ inr (inr (inl lt))
        | inr ge ↦ elim (cases_lt a.width b.width) [
          | inl lt ↦ inl (inr (omega arith, lt))
          | inr wle ↦ elim (cases_lt b.width a.width) [
            | inl lt ↦ inr (inr (inr (omega arith, lt)))
            | inr wge ↦ inr (inl (ap Keep (shapes_are a b (omega arith) (omega arith))))
          ]
        ]
      ]
    ]

pub comes_self : (a b : Choice) → Comes a b a b
comes_self a b = inr (refl, inr refl)

pub comes_trans : (a b c d e f : Choice) → Comes a b c d → Comes c d e f → Comes a b e f
comes_trans a b c d e f (inl x) (inl y) = inl (earlier_trans a c e x y)
comes_trans a b c d e f (inl x) (inr y) = inl (subst (Earlier a) y.0 x)
comes_trans a b c d e f (inr x) (inl y) = inl (subst (λ z. Earlier z e) (sym x.0) y)
comes_trans a b c d e f (inr (x, inl u)) (inr (y, inl v)) = inr (x ∙ y, inl (earlier_trans b d f u v))
comes_trans a b c d e f (inr (x, inl u)) (inr (y, inr v)) = inr (x ∙ y, inl (subst (Earlier b) v u))
comes_trans a b c d e f (inr (x, inr u)) (inr (y, inl v)) = inr (x ∙ y, inl (subst (λ z. Earlier z f) (sym u) v))
comes_trans a b c d e f (inr (x, inr u)) (inr (y, inr v)) = inr (x ∙ y, inr (u ∙ v))

pub comes_total : (l r : CoverPart) (a b c d : Choice) → IsOption l a → IsOption r b → IsOption l c → IsOption r d → Comes a b c d ⊎ Comes c d a b
comes_total l r a b c d oa ob oc od =
    elim (choices_ordered l a c oa oc) [
      | inl x ↦ inl (inl x)
      | inr (inr x) ↦ inr (inl x)
      | inr (inl same) ↦ elim (choices_ordered r b d ob od) [
        | inl y ↦ inl (inr (same, inl y))
        | inr (inr y) ↦ inr (inr (sym same, inl y))
        | inr (inl also) ↦ inl (inr (same, inr also))
      ]
    ]
