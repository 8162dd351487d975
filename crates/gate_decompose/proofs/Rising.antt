-- Lists in which each item precedes those behind it.
use Rattle.std.proofs.Common.{◌≡◌, inl, inr, refl, sym, subst, ◌∙◌, ℕ, zero, suc, ◌<◌, List, [], ◌∷◌, ◌++◌, length, get_or, AllPairs, arith}
use Rattle.gate_decompose.specs.Items.{Among, Rises}
use Rattle.gate_decompose.proofs.Among.{among_either, among-contains}

pub rises_of : {X : Type 0} (R : X → X → Type 0) (xs : List X) → AllPairs R xs → Rises R xs
rises_of R [] h = tt
rises_of R (x ∷ xs) h = (
  (λ y at. let c = among-contains xs y at in subst (R x) c.2 (h 0 (suc c.0) y (omega arith) (omega (arith, c.1)))),
  rises_of R xs (λ i j d lt high. h (suc i) (suc j) d (omega arith) (omega arith)),
)

pub among_get : {X : Type 0} (xs : List X) (k : ℕ) (d : X) → k < length xs → Among (get_or xs k d) xs
among_get [] k d lt = absurd (omega arith)
among_get (x ∷ xs) zero d lt = inl refl
among_get (x ∷ xs) (suc k) d lt = inr (among_get xs k d (omega arith))

pub rises_at : {X : Type 0} (R : X → X → Type 0) (xs : List X) → Rises R xs → (i j : ℕ) (d : X) → i < j → j < length xs → R (get_or xs i d) (get_or xs j d)
rises_at R [] h i j d lt high = absurd (omega arith)
rises_at R (x ∷ xs) h i zero d lt high = absurd (omega arith)
rises_at R (x ∷ xs) h zero (suc j) d lt high = h.0 (get_or xs j d) (among_get xs j d (omega arith))
rises_at R (x ∷ xs) h (suc i) (suc j) d lt high = rises_at R xs h.1 i j d (omega arith) (omega arith)

-- such lists with the same items are one, where no two items precede each other
pub rising_one : {X : Type 0} (R : X → X → Type 0) → ((x y : X) → R x y → R y x → ⊥) → (xs ys : List X) → Rises R xs → Rises R ys
    → ((x : X) → Among x xs → Among x ys) → ((x : X) → Among x ys → Among x xs) → xs ≡ ys
rising_one R apart [] [] a b to from = refl
rising_one R apart [] (y ∷ ys) a b to from = absurd (from y (inl refl))
rising_one R apart (x ∷ xs) [] a b to from = absurd (to x (inl refl))
rising_one {X} R apart (x ∷ xs) (y ∷ ys) a b to from =
    let e : x ≡ y = heads (to x (inl refl)) (from y (inl refl)) in
    let rest = rising_one R apart xs ys a.1 b.1
    (λ z at. tail y ys z (λ same. let r : R x x = subst (R x) (sym (e ∙ same)) (a.0 z at) in apart x x r r) (to z (inr at)))
    (λ z at. tail x xs z (λ same. let r : R y y = subst (R y) (sym (sym e ∙ same)) (b.0 z at) in apart y y r r) (from z (inr at))) in
    λ i. e i ∷ rest i
  where
    heads : Among x (y ∷ ys) → Among y (x ∷ xs) → x ≡ y
    heads (inl e) at = sym e
    heads (inr more) (inl e) = e
    heads (inr more) (inr again) = absurd (apart y x (b.0 x more) (a.0 y again))

    tail : (u : X) (us : List X) (z : X) → (u ≡ z → ⊥) → Among z (u ∷ us) → Among z us
    tail u us z other (inl same) = absurd (other same)
    tail u us z other (inr at) = at

pub rises_append : {X : Type 0} (R : X → X → Type 0) (xs ys : List X) → Rises R xs → Rises R ys → ((x y : X) → Among x xs → Among y ys → R x y) → Rises R (xs ++ ys)
rises_append R [] ys a b h = b
rises_append R (x ∷ xs) ys a b h =
    ((λ y at. elim (among_either y xs ys at) [ inl z ↦ a.0 y z | inr z ↦ h x y (inl refl) z ]), rises_append R xs ys a.1 b (λ u v p q. h u v (inr p) q))
