-- Nets that devices connect, and the numbers of their components.
use Rattle.std.proofs.Common.{◌≡◌, ℕ, zero, suc, ◌+◌, ◌<◌, Bool, true, false, List, [], ◌∷◌, ◌++◌, ◌⊎◌, inl, inr, get_or, refl, sym, ap, subst, ◌∙◌, arith}
use Rattle.std.specs.Prelude.{◌&&◌, not, Contains}
use Rattle.std.proofs.lemmas.List.{append-nil}
use Rattle.std.proofs.lemmas.List.Elements.{Contains-append_cases, Contains-append_left, Contains-append_right, Contains-get_or}
use Rattle.std.proofs.lemmas.Bool.{eq-eqb, eqb-true, or_left, or_right}
use Rattle.dom_base.proofs.Bools.{or_one}
use Rattle.dom_base.proofs.Decided.{dec_nat}
use Rattle.deck.specs.Paths.{Ends, one}
use Rattle.deck.specs.declared.device.Device.{Device}
use Rattle.dom_base.proofs.Lists.{AllByRecursion-append}
use Rattle.switch_model.specs.ComponentLists.{IsNumbering, has_end_in, RisesTo, listed_below, one_where}
use Rattle.switch_model.specs.Components.{AreConnected}
use Rattle.switch_model.specs.Laws.{EndsAt}
use Rattle.switch_model.proofs.ComponentLists.{rises-later, rises-push}
use Rattle.switch_model.proofs.Joined.{Path-append}

module _ (devices : List Device) (is_source : ℕ → Bool) where
  pub AreConnected-trans : {a m b : ℕ} → AreConnected devices is_source a m → is_source m ≡ false → AreConnected devices is_source m b → AreConnected devices is_source a b
  AreConnected-trans (p, path, all) free (q, path', all') = (p ++ q, Path-append path free path', AllByRecursion-append (Contains devices) p q all all')

  AreConnected-by : (d : Device) (a b : ℕ) → Contains devices d → Ends d a b → AreConnected devices is_source a b
  AreConnected-by d a b c e = (d ∷ [], one e, (c, tt))

  -- a device joins what is joined to its ends
  module _ (d : Device) (c : Contains devices d) (drain : is_source d.drain ≡ false) (source : is_source d.source ≡ false) where
    before : (x a b y : ℕ) → is_source a ≡ false → (x ≡ a) ⊎ AreConnected devices is_source x a → AreConnected devices is_source a y → AreConnected devices is_source x y
    before x a b y f (inl e) w = subst (λ n. AreConnected devices is_source n y) (sym e) w
    before x a b y f (inr v) w = AreConnected-trans v f w

    after : (a b y : ℕ) → Ends d a b → is_source b ≡ false → (b ≡ y) ⊎ AreConnected devices is_source b y → AreConnected devices is_source a y
    after a b y e f (inl s) = subst (λ n. AreConnected devices is_source a n) s (AreConnected-by d a b c e)
    after a b y e f (inr v) = AreConnected-trans (AreConnected-by d a b c e) f v

    pub connected-more : (R : ℕ → ℕ → Type 0) → ((a b : ℕ) → R a b → (a ≡ b) ⊎ AreConnected devices is_source a b) → (x y : ℕ)
        → R x y ⊎ ((R x d.drain × R d.source y) ⊎ (R x d.source × R d.drain y)) → (x ≡ y) ⊎ AreConnected devices is_source x y
    connected-more R old x y (inl r) = old x y r
    connected-more R old x y (inr (inl z)) = inr (before x d.drain d.source y drain (old x d.drain z.0) (after d.drain d.source y (inl (refl, refl)) source (old d.source y z.1)))
    connected-more R old x y (inr (inr z)) = inr (before x d.source d.drain y source (old x d.source z.0) (after d.source d.drain y (inr (refl, refl)) drain (old d.drain y z.1)))

never : true ≡ false → ⊥
never e = cc

free-both : (s e : Bool) → s ≡ false → e ≡ true → (not s && e) ≡ true
free-both false e f g = g
free-both true e f g = absurd (never f)

both-free : (s e : Bool) → (not s && e) ≡ true → (s ≡ false) × (e ≡ true)
both-free false e h = (refl, h)
both-free true e h = absurd (never (sym h))

module _ (number : ℕ → ℕ) (is_source : ℕ → Bool) (k : ℕ) (d : Device) where
  pub has_end : (n : ℕ) → EndsAt d n → is_source n ≡ false → number n ≡ k → has_end_in number is_source k d ≡ true
  has_end n (inl e) f at = or_left _ _ (free-both (is_source d.drain) _ (ap is_source e ∙ f) (eq-eqb (number d.drain) k (ap number e ∙ at)))
  has_end n (inr e) f at = or_right _ _ (free-both (is_source d.source) _ (ap is_source e ∙ f) (eq-eqb (number d.source) k (ap number e ∙ at)))

  pub end_of : has_end_in number is_source k d ≡ true → (n : ℕ) × EndsAt d n × (is_source n ≡ false) × (number n ≡ k)
  end_of h = elim (or_one _ _ h) [
    | inl a ↦ let z = both-free (is_source d.drain) _ a in (d.drain, inl refl, z.0, eqb-true (number d.drain) k z.1)
    | inr a ↦ let z = both-free (is_source d.source) _ a in (d.source, inr refl, z.0, eqb-true (number d.source) k z.1)
  ]

-- both ends of a device have one number
pub one_number : (devices : List Device) (is_source : ℕ → Bool) (number : ℕ → ℕ) → IsNumbering devices is_source number → (d : Device) (n m : ℕ) → Contains devices d
    → EndsAt d n → is_source n ≡ false → EndsAt d m → is_source m ≡ false → number n ≡ number m
one_number devices is_source number h d n m c (inl e) f (inl g) k = ap number (sym e ∙ g)
one_number devices is_source number h d n m c (inl e) f (inr g) k = ap number (sym e) ∙ h.joint d c (ap is_source e ∙ f) (ap is_source g ∙ k) ∙ ap number g
one_number devices is_source number h d n m c (inr e) f (inl g) k = ap number (sym e) ∙ sym (h.joint d c (ap is_source g ∙ k) (ap is_source e ∙ f)) ∙ ap number g
one_number devices is_source number h d n m c (inr e) f (inr g) k = ap number (sym e ∙ g)

pub listed-more : (test : ℕ → Bool) (n : ℕ) → listed_below test (n + 1) ≡ listed_below test n ++ one_where (test n) n
listed-more test n = ap (listed_below test) {x = n + 1} {y = suc n} (omega arith)

pub listed-yes : (test : ℕ → Bool) (n : ℕ) → test n ≡ true → listed_below test (n + 1) ≡ listed_below test n ++ n ∷ []
listed-yes test n e = listed-more test n ∙ ap (λ b. listed_below test n ++ one_where b n) e

pub listed-no : (test : ℕ → Bool) (n : ℕ) → test n ≡ false → listed_below test (n + 1) ≡ listed_below test n
listed-no test n e = listed-more test n ∙ ap (λ b. listed_below test n ++ one_where b n) e ∙ append-nil (listed_below test n)

module _ (test : ℕ → Bool) where
  one_in : (b : Bool) (n p : ℕ) → Contains (one_where b n) p → (n ≡ p) × (b ≡ true)
  one_in false n p (k, lt, e) = absurd (omega (arith, lt))
  one_in true n p (zero, lt, e) = (e, refl)
  one_in true n p (suc k, lt, e) = absurd (omega (arith, lt))

  in_one : (b : Bool) (n : ℕ) → b ≡ true → Contains (one_where b n) n
  in_one true n e = (0, omega arith, refl)
  in_one false n e = absurd (never (sym e))

  -- what is listed below a bound
  pub listed_in : (n p : ℕ) → Contains (listed_below test n) p → (p < n) × (test p ≡ true)
  listed_in zero p c = absurd (omega (arith, c.1))
  listed_in (suc n) p c = elim (Contains-append_cases (listed_below test n) (one_where (test n) n) p c) [
    | inl l ↦ let z = listed_in n p l in (omega (arith, z.0), z.1)
    | inr r ↦ let z = one_in (test n) n p r in (omega (arith, z.0), ap test (sym z.0) ∙ z.1)
  ]

  pub in_listed : (n p : ℕ) → p < n → test p ≡ true → Contains (listed_below test n) p
  in_listed zero p lt e = absurd (omega (arith, lt))
  in_listed (suc n) p lt e = elim (dec_nat p n) [
    | inl same ↦ Contains-append_right (listed_below test n) (one_where (test n) n) p (subst (λ m. Contains (one_where (test n) n) m) (sym same) (in_one (test n) n (ap test (sym same) ∙ e)))
    | inr ne ↦ Contains-append_left (listed_below test n) (one_where (test n) n) p (in_listed n p (omega (arith, lt, ne)) e)
  ]

  -- the numbers that are listed rise
  pub listed_rises : (n : ℕ) → RisesTo n (listed_below test n)
  listed_rises zero = record { rising = λ k lt. absurd (omega (arith, lt)); before = λ k lt. absurd (omega (arith, lt)); within = λ k lt. absurd (omega (arith, lt)) }
  listed_rises (suc n) = by (test n) (listed_rises n)
    where
      xs : List ℕ
      xs = listed_below test n

      by : (b : Bool) → RisesTo n xs → RisesTo (suc n) (xs ++ one_where b n)
      by true r = rises-later n (suc n) (xs ++ n ∷ []) (omega arith) (rises-push n xs r
          (λ k e same. let z = listed_in n (get_or xs k 0) (Contains-get_or xs k 0 (omega (arith, e))) in omega (arith, z.0, same)))
      by false r = subst (RisesTo (suc n)) (sym (append-nil xs)) (rises-later n (suc n) xs (omega arith) r)
