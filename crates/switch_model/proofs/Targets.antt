-- Each net that is no source has exactly one target.
use Rattle.std.proofs.Common.{◌≡◌, ℕ, Bool, true, false, List, refl, sym, ◌∙◌, inl, inr}
use Rattle.std.specs.Prelude.{◌≢◌, Contains}
use Rattle.std.specs.List.{AllByRecursion}
use Rattle.deck.specs.declared.device.Device.{Device}
use Rattle.dom_base.specs.declared.kind.Kind.TheVariants.{Keep}
use Rattle.dom_base.specs.declared.tri.Tri.{Tri}
use Rattle.dom_base.specs.declared.tri.Tri.TheVariants.{Zero, One, Unknown}
use Rattle.dom_base.specs.Conduction.{conduction}
use Rattle.deck.specs.Paths.{Path, IsWeak, IsStrong, DefiniteStrong, PossibleStrong, DefiniteWeak, PossibleWeak}
use Rattle.deck.specs.Switches.{IsOn, IsNotOff, value_of}
use Rattle.switch_model.specs.Targets.{AtMostOne, Pulls, Disputes, Else, Holds, IsTarget}
use Rattle.deck.proofs.Reach.{Reach-from_path, path_from_Reach, strong_each, strong_from_each}
use Rattle.dom_base.proofs.Lists.{AllByRecursion-both, AllByRecursion-weaker}
use Rattle.dom_base.specs.Decided.{Decided}
use Rattle.dom_base.proofs.Decided.{dec_and, dec_not, dec_map, dec_bool, dec_keeper, dec_tri}
use Rattle.switch_model.proofs.Joined.{dec_reaches, dec_weak, Reaches, WeakPath}

Else-at_most_one : (R S : Tri → Type 0) → AtMostOne R → AtMostOne S → AtMostOne (Else R S)
Else-at_most_one R S f g v w (inl a) (inl b) = f v w a b
Else-at_most_one R S f g v w (inl a) (inr b) = absurd (b.0 v a)
Else-at_most_one R S f g v w (inr a) (inl b) = absurd (a.0 w b)
Else-at_most_one R S f g v w (inr a) (inr b) = g v w a.1 b.1

-- the rule is decided, or the rest gives a value
Else-some : (R S : Tri → Type 0) → Decided ((v : Tri) × R v) → (v : Tri) × S v → (v : Tri) × Else R S v
Else-some R S (inl a) b = (a.0, inl a.1)
Else-some R S (inr a) b = (b.0, inr ((λ w r. a (w, r)), b.1))

pub Pulls-at_most_one : (definite possible : ℕ → Type 0) (is_source : ℕ → Bool) (values : List Tri) → ((n : ℕ) → definite n → possible n) → AtMostOne (Pulls definite possible is_source values)
Pulls-at_most_one definite possible is_source values f v w a b = sym (a.0.3) ∙ b.1 a.0.0 (f a.0.0 a.0.1) a.0.2

pub Disputes-at_most_one : (possible : ℕ → Type 0) (is_source : ℕ → Bool) → AtMostOne (Disputes possible is_source)
Disputes-at_most_one possible is_source v w a b = a.1 ∙ sym b.1

pub on-not_off : (values : List Tri) (d : Device) → IsOn values d → IsNotOff values d
on-not_off values d h e = let h' = h in cc

pub definite-possible_strong : (devices : List Device) (is_source : ℕ → Bool) (values : List Tri) (a b : ℕ) → DefiniteStrong devices is_source values a b → PossibleStrong devices is_source values a b
definite-possible_strong devices is_source values a b h = (h.0, h.1, h.2, AllByRecursion-weaker _ (IsNotOff values) (on-not_off values) h.0 h.3, h.4)

pub definite-possible_weak : (devices : List Device) (is_source : ℕ → Bool) (values : List Tri) (a b : ℕ) → DefiniteWeak devices is_source values a b → PossibleWeak devices is_source values a b
definite-possible_weak devices is_source values a b h = (h.0, h.1, h.2, AllByRecursion-weaker _ (IsNotOff values) (on-not_off values) h.0 h.3, h.4)

pub target_unique : (devices : List Device) (is_source : ℕ → Bool) (values : List Tri) (net : ℕ) → (v w : Tri) → IsTarget devices is_source values net v → IsTarget devices is_source values net w → v ≡ w
target_unique devices is_source values net =
    Else-at_most_one _ _ (Pulls-at_most_one (DefiniteStrong devices is_source values net) (PossibleStrong devices is_source values net) is_source values (definite-possible_strong devices is_source values net))
    (Else-at_most_one _ _ (Disputes-at_most_one (PossibleStrong devices is_source values net) is_source)
    (Else-at_most_one _ _ (Pulls-at_most_one (DefiniteWeak devices is_source values net) (PossibleWeak devices is_source values net) is_source values (definite-possible_weak devices is_source values net))
    (Else-at_most_one _ _ (Disputes-at_most_one (PossibleWeak devices is_source values net) is_source)
    (Else-at_most_one _ _ (λ v w a b. a.1 ∙ sym b.1) (λ v w a b. a ∙ sym b)))))

-- whether R leads to a net with any property can be decided
abbrev pub Searchable : (ℕ → Type 0) → Type 1
Searchable R = (P : ℕ → Type 0) → ((n : ℕ) → Decided (P n)) → Decided ((n : ℕ) × R n × P n)

dec_pulls : (definite possible : ℕ → Type 0) (is_source : ℕ → Bool) (values : List Tri) → Searchable definite → Searchable possible → Decided ((v : Tri) × Pulls definite possible is_source values v)
dec_pulls definite possible is_source values sd sp = join (one_of Zero) (one_of One) (one_of Unknown)
  where
    stable : (v w : Tri) → ((v ≢ w) → ⊥) → v ≡ w
    stable v w h = elim (dec_tri v w) [ inl e ↦ e | inr n ↦ absurd (h n) ]

    one_of : (v : Tri) → Decided (Pulls definite possible is_source values v)
    one_of v =
        dec_map (λ z. ((z.0.0, z.0.1, z.0.2.0, z.0.2.1), (λ s p q. stable (value_of values s) v (λ ne. z.1 (s, p, (q, ne))))))
        (λ z. ((z.0.0, z.0.1, (z.0.2, z.0.3)), (λ t. t.2.1 (z.1 t.0 t.1 t.2.0))))
        (dec_and (sd (λ s. (is_source s ≡ true) × (value_of values s ≡ v)) (λ s. dec_and (dec_bool (is_source s) true) (dec_tri (value_of values s) v)))
        (dec_not (sp (λ s. (is_source s ≡ true) × (value_of values s ≢ v)) (λ s. dec_and (dec_bool (is_source s) true) (dec_not (dec_tri (value_of values s) v))))))

    join : Decided (Pulls definite possible is_source values Zero) → Decided (Pulls definite possible is_source values One) → Decided (Pulls definite possible is_source values Unknown) → Decided ((v : Tri) × Pulls definite possible is_source values v)
    join (inl a) b c = inl (Zero, a)
    join (inr a) (inl b) c = inl (One, b)
    join (inr a) (inr b) (inl c) = inl (Unknown, c)
    join (inr a) (inr b) (inr c) = inr (λ z. none z.0 z.1 a b c)
      where
        none : (v : Tri) → Pulls definite possible is_source values v → (Pulls definite possible is_source values Zero → ⊥) → (Pulls definite possible is_source values One → ⊥) → (Pulls definite possible is_source values Unknown → ⊥) → ⊥
        none Zero p a b c = a p
        none One p a b c = b p
        none Unknown p a b c = c p

dec_disputes : (possible : ℕ → Type 0) (is_source : ℕ → Bool) → Searchable possible → Decided ((v : Tri) × Disputes possible is_source v)
dec_disputes possible is_source sp =
    dec_map (λ z. (Unknown, ((z.0, z.1, z.2), refl))) (λ z. (z.1.0.0, z.1.0.1, z.1.0.2)) (sp (λ s. is_source s ≡ true) (λ s. dec_bool (is_source s) true))

dec_holds : (possible : ℕ → Type 0) (values : List Tri) (net : ℕ) → Searchable possible → Decided ((v : Tri) × Holds possible values net v)
dec_holds possible values net sp =
    dec_map (λ z. (value_of values net, ((λ n p. stable (value_of values n) (value_of values net) (λ ne. z (n, p, ne))), refl)))
    (λ z t. t.2 (z.1.0 t.0 t.1))
    (dec_not (sp (λ n. value_of values n ≢ value_of values net) (λ n. dec_not (dec_tri (value_of values n) (value_of values net)))))
  where
    stable : (v w : Tri) → ((v ≢ w) → ⊥) → v ≡ w
    stable v w h = elim (dec_tri v w) [ inl e ↦ e | inr n ↦ absurd (h n) ]

-- each of the five kinds of paths can be searched
search_map : (R S : ℕ → Type 0) → ((n : ℕ) → R n → S n) → ((n : ℕ) → S n → R n) → Searchable R → Searchable S
search_map R S f g s P dec = dec_map (λ z. (z.0, f z.0 z.1, z.2)) (λ z. (z.0, g z.0 z.1, z.2)) (s P dec)

module _ (devices : List Device) (is_source : ℕ → Bool) (net : ℕ) (free : is_source net ≡ false) (F : Device → Type 0) (dec : (d : Device) → Decided (F d)) where
  pub search_any : Searchable (λ b. (p : List Device) × Path is_source net p b × AllByRecursion (Contains devices) p × AllByRecursion F p)
  search_any =
      search_map (λ b. Reaches F is_source devices net b) _
      (λ b r. let w = path_from_Reach _ is_source r in (w.0, w.1, AllByRecursion-weaker _ (Contains devices) (λ d k. k.0) w.0 w.2, AllByRecursion-weaker _ F (λ d k. k.1) w.0 w.2))
      (λ b h. Reach-from_path _ is_source h.1 (AllByRecursion-both (Contains devices) F h.0 h.2 h.3))
      (λ P dp. dec_reaches F is_source dec P dp devices net free)

  search_strong : Searchable (λ b. (p : List Device) × Path is_source net p b × AllByRecursion (Contains devices) p × AllByRecursion F p × IsStrong p)
  search_strong =
      search_map (λ b. Reaches (λ d. F d × (d.kind ≢ Keep)) is_source devices net b) _
      (λ b r. let w = path_from_Reach _ is_source r in (w.0, w.1, AllByRecursion-weaker _ (Contains devices) (λ d k. k.0) w.0 w.2, AllByRecursion-weaker _ F (λ d k. k.1.0) w.0 w.2, strong_from_each w.0 (AllByRecursion-weaker _ (λ d. d.kind ≢ Keep) (λ d k. k.1.1) w.0 w.2)))
      (λ b h. Reach-from_path _ is_source h.1 (AllByRecursion-both (Contains devices) (λ d. F d × (d.kind ≢ Keep)) h.0 h.2 (AllByRecursion-both F (λ d. d.kind ≢ Keep) h.0 h.3 (strong_each h.0 h.4))))
      (λ P dp. dec_reaches (λ d. F d × (d.kind ≢ Keep)) is_source (λ d. dec_and (dec d) (dec_not (dec_keeper d.kind))) P dp devices net free)

  search_weak : Searchable (λ b. (p : List Device) × Path is_source net p b × AllByRecursion (Contains devices) p × AllByRecursion F p × IsWeak p)
  search_weak =
      search_map (λ b. WeakPath F is_source devices net b) _
      (λ b w. (w.0, w.1, AllByRecursion-weaker _ (Contains devices) (λ d k. k.0) w.0 w.2, AllByRecursion-weaker _ F (λ d k. k.1) w.0 w.2, w.3))
      (λ b h. (h.0, h.1, AllByRecursion-both (Contains devices) F h.0 h.2 h.3, h.4))
      (λ P dp. dec_weak F is_source dec P dp devices net free)

pub target_exists : (devices : List Device) (is_source : ℕ → Bool) (values : List Tri) (net : ℕ) → is_source net ≡ false → (v : Tri) × IsTarget devices is_source values net v
target_exists devices is_source values net free =
    let on : (d : Device) → Decided (IsOn values d) = λ d. dec_tri (conduction d.kind (value_of values d.gate)) One in
    let open' : (d : Device) → Decided (IsNotOff values d) = λ d. dec_not (dec_tri (conduction d.kind (value_of values d.gate)) Zero) in
    Else-some _ _ (dec_pulls _ _ is_source values (search_strong devices is_source net free (IsOn values) on) (search_strong devices is_source net free (IsNotOff values) open'))
    (Else-some _ _ (dec_disputes _ is_source (search_strong devices is_source net free (IsNotOff values) open'))
    (Else-some _ _ (dec_pulls _ _ is_source values (search_weak devices is_source net free (IsOn values) on) (search_weak devices is_source net free (IsNotOff values) open'))
    (Else-some _ _ (dec_disputes _ is_source (search_weak devices is_source net free (IsNotOff values) open'))
    (Else-some _ _ (dec_holds _ values net (search_any devices is_source net free (IsNotOff values) open'))
    (Unknown, refl)))))
