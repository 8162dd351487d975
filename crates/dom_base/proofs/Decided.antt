-- Facts that are decided: from decided parts, numbers, Booleans, kinds of devices and ternary values.
use Rattle.std.proofs.Common.{◌≡◌, ◌<◌, ◌≤◌, ℕ, Bool, true, false, List, [], ◌∷◌, refl, inl, inr, arith}
use Rattle.std.specs.Prelude.{◌⊎◌, Contains}
use Rattle.std.specs.List.{AllByRecursion}
use Rattle.std.proofs.lemmas.Bool.Decides.{eqb_tells}
use Rattle.dom_base.specs.declared.kind.Kind.{Kind}
use Rattle.dom_base.specs.declared.kind.Kind.TheVariants.{N as nch, P as pch, Keep}
use Rattle.dom_base.specs.declared.tri.Tri.{Tri}
use Rattle.dom_base.specs.declared.tri.Tri.TheVariants.{Zero, One, Unknown}
use Rattle.dom_base.specs.Decided.{Decided}
use Rattle.dom_base.proofs.Lists.{AllByRecursion-contains, Contains-first, Contains-later}

pub dec_and : {A B : Type 0} → Decided A → Decided B → Decided (A × B)
dec_and (inl a) (inl b) = inl (a, b)
dec_and (inl a) (inr b) = inr (λ z. b z.1)
dec_and (inr a) b = inr (λ z. a z.0)

pub dec_or : {A B : Type 0} → Decided A → Decided B → Decided (A ⊎ B)
dec_or (inl a) b = inl (inl a)
dec_or (inr a) (inl b) = inl (inr b)
dec_or (inr a) (inr b) = inr (λ z. elim z [ inl x ↦ a x | inr y ↦ b y ])

pub dec_not : {A : Type 0} → Decided A → Decided (A → ⊥)
dec_not (inl a) = inr (λ f. f a)
dec_not (inr f) = inl f

pub dec_map : {A B : Type 0} → (A → B) → (B → A) → Decided A → Decided B
dec_map f g (inl a) = inl (f a)
dec_map f g (inr h) = inr (λ b. h (g b))

pub dec_nat : (a b : ℕ) → Decided (a ≡ b)
dec_nat a b = elim (eqb_tells a b) [ inl h ↦ inl h.1 | inr h ↦ inr h.1 ]

pub lt_or_ge : (a b : ℕ) → (a < b) ⊎ (b ≤ a)
lt_or_ge a b = grind arith

pub dec_less : (a b : ℕ) → Decided (a < b)
dec_less a b = elim (lt_or_ge a b) [ inl less ↦ inl less | inr more ↦ inr (λ less. omega (arith, less, more)) ]

pub dec_bool : (a b : Bool) → Decided (a ≡ b)
dec_bool true true = inl refl
dec_bool true false = inr (λ e. cc)
dec_bool false true = inr (λ e. cc)
dec_bool false false = inl refl

-- some element has P, or none
any_or_none : {X : Type 0} (P : X → Type 0) → ((x : X) → Decided (P x)) → (xs : List X) → ((x : X) × Contains xs x × P x) ⊎ AllByRecursion (λ x. P x → ⊥) xs
any_or_none P dec [] = inr tt
any_or_none P dec (x ∷ xs) =
    elim (dec x) [
      | inl p ↦ inl (x, Contains-first x xs, p)
      | inr n ↦ elim (any_or_none P dec xs) [
        | inl z ↦ inl (z.0, Contains-later x xs z.0 z.1, z.2)
        | inr h ↦ inr (n, h)
      ]
    ]

pub dec_any : {X : Type 0} (P : X → Type 0) → ((x : X) → Decided (P x)) → (xs : List X) → Decided ((x : X) × Contains xs x × P x)
dec_any P dec xs =
    elim (any_or_none P dec xs) [
      | inl z ↦ inl z
      | inr h ↦ inr (λ z. AllByRecursion-contains (λ x. P x → ⊥) xs z.0 h z.1 z.2)
    ]

pub dec_keeper : (k : Kind) → Decided (k ≡ Keep)
dec_keeper nch = inr (λ e. cc)
dec_keeper pch = inr (λ e. cc)
dec_keeper Keep = inl refl

pub dec_tri : (v w : Tri) → Decided (v ≡ w)
dec_tri Zero Zero = inl refl
dec_tri Zero One = inr (λ e. cc)
dec_tri Zero Unknown = inr (λ e. cc)
dec_tri One Zero = inr (λ e. cc)
dec_tri One One = inl refl
dec_tri One Unknown = inr (λ e. cc)
dec_tri Unknown Zero = inr (λ e. cc)
dec_tri Unknown One = inr (λ e. cc)
dec_tri Unknown Unknown = inl refl
