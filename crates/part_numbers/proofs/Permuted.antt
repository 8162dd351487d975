-- Lists with the same elements in another order.
use Rattle.std.proofs.Common.{◌≡◌, ℕ, suc, inl, inr, Bool, true, false, List, [], ◌∷◌, ◌++◌, length, refl, ap, sym, ◌∙◌, subst}
use Rattle.std.specs.Prelude.{◌≢◌, Contains, nat_lt, if◌then◌else◌}
use Rattle.std.specs.List.{AllByRecursion, flat_map}
use Rattle.dom_base.proofs.Lists.{Contains-first, Contains-later}
use Rattle.model_calls.specs.Ordered.{in_order, with_element}
use Rattle.model_calls.proofs.Apart.{ApartBy}
use Rattle.model_calls.proofs.Fitting.{contains_cons}

-- one list is another by exchanges of neighbours
pub data Permuted {X : Type 0} : List X → List X → Type 0 where
  none : Permuted [] []
  keep : {x : X} {xs ys : List X} → Permuted xs ys → Permuted (x ∷ xs) (x ∷ ys)
  swap : {x y : X} {xs : List X} → Permuted (x ∷ y ∷ xs) (y ∷ x ∷ xs)
  both : {xs ys zs : List X} → Permuted xs ys → Permuted ys zs → Permuted xs zs

module _ {X : Type 0} where
  pub permuted_same : (xs : List X) → Permuted xs xs
  permuted_same [] = none
  permuted_same (x ∷ xs) = keep (permuted_same xs)

  permuted_front : (xs : List X) {ys zs : List X} → Permuted ys zs → Permuted (xs ++ ys) (xs ++ zs)
  permuted_front [] p = p
  permuted_front (x ∷ xs) p = keep (permuted_front xs p)

  pub permuted_append : {xs zs : List X} (ys ws : List X) → Permuted xs zs → Permuted ys ws → Permuted (xs ++ ys) (zs ++ ws)
  permuted_append ys ws none p = p
  permuted_append ys ws (keep h) p = keep (permuted_append ys ws h p)
  permuted_append ys ws (swap {x} {y} {xs}) p = both swap (keep (keep (permuted_front xs p)))
  permuted_append ys ws (both h k) p = both (permuted_append ys ys h (permuted_same ys)) (permuted_append ys ws k p)

  permuted_move : (x : X) (bs cs : List X) → Permuted (x ∷ (bs ++ cs)) (bs ++ (x ∷ cs))
  permuted_move x [] cs = permuted_same (x ∷ cs)
  permuted_move x (b ∷ bs) cs = both swap (keep (permuted_move x bs cs))

  permuted_blocks : (fs bs cs : List X) → Permuted (fs ++ (bs ++ cs)) (bs ++ (fs ++ cs))
  permuted_blocks [] bs cs = permuted_same (bs ++ cs)
  permuted_blocks (f ∷ fs) bs cs = both (keep (permuted_blocks fs bs cs)) (permuted_move f bs (fs ++ cs))

  permuted_with : (number : X → ℕ) (e : X) (xs : List X) → Permuted (with_element number e xs) (e ∷ xs)
  permuted_with number e [] = permuted_same (e ∷ [])
  permuted_with number e (x ∷ xs) = by (permuted_with number e xs) (nat_lt (number x) (number e))
    where
      by : Permuted (with_element number e xs) (e ∷ xs) → (b : Bool) → Permuted (if b then x ∷ with_element number e xs else e ∷ x ∷ xs) (e ∷ x ∷ xs)
      by rest true = both (keep rest) swap
      by rest false = permuted_same (e ∷ x ∷ xs)

  pub permuted_order : (number : X → ℕ) (xs : List X) → Permuted (in_order number xs) xs
  permuted_order number [] = none
  permuted_order number (x ∷ xs) = both (permuted_with number x (in_order number xs)) (keep (permuted_order number xs))

  pub permuted_length : {xs ys : List X} → Permuted xs ys → length xs ≡ length ys
  permuted_length none = refl
  permuted_length (keep h) = ap suc (permuted_length h)
  permuted_length swap = refl
  permuted_length (both h k) = permuted_length h ∙ permuted_length k

  permuted_every : (P : X → Type 0) {xs ys : List X} → Permuted xs ys → AllByRecursion P ys → AllByRecursion P xs
  permuted_every P none h = h
  permuted_every P (keep p) h = (h.0, permuted_every P p h.1)
  permuted_every P swap h = (h.1.0, (h.0, h.1.1))
  permuted_every P (both p q) h = permuted_every P p (permuted_every P q h)

  pub permuted_contains : {xs ys : List X} (z : X) → Permuted xs ys → Contains ys z → Contains xs z
  permuted_contains z none c = c
  permuted_contains z (keep {x} {xs} {ys} p) c = elim (contains_cons x ys z c) [
    | inl is ↦ subst (Contains (x ∷ xs)) is (Contains-first x xs)
    | inr later ↦ Contains-later x xs z (permuted_contains z p later)
  ]
  permuted_contains z (swap {x} {y} {xs}) c = elim (contains_cons y (x ∷ xs) z c) [
    | inl is ↦ Contains-later x (y ∷ xs) z (subst (Contains (y ∷ xs)) is (Contains-first y xs))
    | inr later ↦ elim (contains_cons x xs z later) [
      | inl is ↦ subst (Contains (x ∷ y ∷ xs)) is (Contains-first x (y ∷ xs))
      | inr last ↦ Contains-later x (y ∷ xs) z (Contains-later y xs z last)
    ]
  ]
  permuted_contains z (both p q) c = permuted_contains z p (permuted_contains z q c)

  pub permuted_apart : {Y : Type 0} (g : X → Y) {xs ys : List X} → Permuted xs ys → ApartBy g ys → ApartBy g xs
  permuted_apart g none h = h
  permuted_apart g (keep {x} {xs} {ys} p) h = (permuted_every (λ y. g x ≢ g y) p h.0, permuted_apart g p h.1)
  permuted_apart g swap h = (((λ e. h.0.0 (sym e)), h.1.0), (h.0.1, h.1.1))
  permuted_apart g (both p q) h = permuted_apart g p (permuted_apart g q h)

pub permuted_flat : {X Y : Type 0} (g : X → List Y) {xs ys : List X} → Permuted xs ys → Permuted (flat_map g xs) (flat_map g ys)
permuted_flat g none = none
permuted_flat g (keep {x} {xs} {ys} h) = permuted_front (g x) (permuted_flat g h)
permuted_flat g (swap {x} {y} {xs}) = permuted_blocks (g x) (g y) (flat_map g xs)
permuted_flat g (both h k) = both (permuted_flat g h) (permuted_flat g k)

pub permuted_each : {X Y : Type 0} (g h : X → List Y) (xs : List X) → ((x : X) → Permuted (g x) (h x)) → Permuted (flat_map g xs) (flat_map h xs)
permuted_each g h [] same = none
permuted_each g h (x ∷ xs) same = permuted_append (flat_map g xs) (flat_map h xs) (same x) (permuted_each g h xs same)
