-- One more device of a walk.
use Rattle.std.proofs.Common.{◌≡◌, ℕ, Bool, true, false, zero, suc, ◌+◌, ◌<◌, ◌≤◌, List, [], ◌∷◌, length, get_or, sym, ap, subst, ◌∙◌, inl, inr, arith}
use Rattle.std.specs.Prelude.{◌⊎◌, ◌↔◌, Contains, Some, slice_get}
use Rattle.std.proofs.lemmas.Bool.{cases_eq}
use Rattle.std.proofs.lemmas.List.{get_or_default}
use Rattle.std.proofs.lemmas.List.Elements.{Contains-get_or}
use Rattle.deck.specs.declared.device.Device.{Device}
use Rattle.dom_base.proofs.Lists.{Contains-first, Contains-later}
use Rattle.dom_base.specs.declared.tri.Tri.{Tri}
use Rattle.deck.specs.Paths.{Ends}
use Rattle.switch_model.specs.Found.{IsWith}
use Rattle.switch_model.specs.FourDrives.{IsTold}
use Rattle.switch_model.specs.SourceDrives.{Drive, IsDrive, Mixed, Nothing, Only}
use Rattle.switch_model.specs.declared.drives.Drives.{Drives}
use Rattle.switch_model.proofs.Told.{told_same, told_with}
use Rattle.switch_model.specs.Joins.{AreJoined, top_of}
use Rattle.switch_model.specs.Walks.{AreAt, IsJoint, IsLed, Linked}

-- the devices at the first so many places
abbrev pub AreWalked : List Device → List ℕ → ℕ → List Device → Type 0
AreWalked devices places count ds = (d : Device) → Contains ds d ↔ ((k : ℕ) × (k < count) × (slice_get devices (get_or places k 0) ≡ Some d))

first_or_later : (d : Device) (ds : List Device) (e : Device) → Contains (d ∷ ds) e → (d ≡ e) ⊎ Contains ds e
first_or_later d ds e (k, lt, at) = by k lt at
  where
    by : (k : ℕ) → k < length (d ∷ ds) → get_or (d ∷ ds) k e ≡ e → (d ≡ e) ⊎ Contains ds e
    by zero lt at = inl at
    by (suc k) lt at = inr (k, omega (arith, lt), at)

pub walked-none : (devices : List Device) (places : List ℕ) → AreWalked devices places 0 []
walked-none devices places d = (λ c. absurd (omega (arith, c.1)), λ z. absurd (omega (arith, z.1)))

pub the_same : (d e : Device) → Some d ≡ Some e → d ≡ e
the_same d e h = cc

pub walked-more : (devices : List Device) (places : List ℕ) (count : ℕ) (ds : List Device) (d : Device) → AreWalked devices places count ds
    → slice_get devices (get_or places count 0) ≡ Some d → AreWalked devices places (count + 1) (d ∷ ds)
walked-more devices places count ds d h at e = (to, from)
  where
    to : Contains (d ∷ ds) e → (k : ℕ) × (k < count + 1) × (slice_get devices (get_or places k 0) ≡ Some e)
    to c = elim (first_or_later d ds e c) [
      | inl same ↦ (count, omega arith, at ∙ ap Some same)
      | inr later ↦ let z = (h e).0 later in (z.0, omega (arith, z.1), z.2)
    ]

    from : (k : ℕ) × (k < count + 1) × (slice_get devices (get_or places k 0) ≡ Some e) → Contains (d ∷ ds) e
    from (k, lt, is) = elim (cases_eq k count) [
      | inl same ↦ subst (Contains (d ∷ ds)) (the_same d e (sym at ∙ ap (λ j. slice_get devices (get_or places j 0)) (sym same) ∙ is)) (Contains-first d ds)
      | inr ne ↦ Contains-later d ds e ((h e).1 (k, omega (arith, lt, ne), is))
    ]

pub walked-all : (devices : List Device) (places : List ℕ) (count : ℕ) (ds : List Device) → AreWalked devices places count ds → length places ≤ count → count ≤ length places → AreAt devices places ds
walked-all devices places count ds h le ge d = (
  λ c. let z = (h d).0 c in (get_or places z.0 0, Contains-get_or places z.0 0 (omega (arith, z.1, ge)), z.2),
  λ z. (h d).1 (z.1.0, omega (arith, z.1.1, le), ap (slice_get devices) (get_or_default places z.1.0 0 z.0 z.1.1 ∙ z.1.2) ∙ z.2),
)

module _ (R : ℕ → ℕ → Type 0) (Q : Device → Type 0) (is_source : ℕ → Bool) (before after : List ℕ) (ds : List Device) (d : Device)
    (same : (x y : ℕ) → AreJoined before x y ↔ Linked R Q is_source ds x y) where
  -- the device joins its two ends
  pub linked-more : IsJoint Q is_source d
      → ((x y : ℕ) → AreJoined after x y ↔ AreJoined before x y ⊎ ((AreJoined before x d.drain × AreJoined before d.source y) ⊎ (AreJoined before x d.source × AreJoined before d.drain y)))
      → (x y : ℕ) → AreJoined after x y ↔ Linked R Q is_source (d ∷ ds) x y
  linked-more joint joined x y = (to, from)
    where
      to : AreJoined after x y → Linked R Q is_source (d ∷ ds) x y
      to j = elim ((joined x y).0 j) [
        | inl e ↦ inl ((same x y).0 e)
        | inr z ↦ elim z [
          | inl u ↦ inr (joint, inl ((same x d.drain).0 u.0, (same d.source y).0 u.1))
          | inr u ↦ inr (joint, inr ((same x d.source).0 u.0, (same d.drain y).0 u.1))
        ]
      ]

      from : Linked R Q is_source (d ∷ ds) x y → AreJoined after x y
      from (inl e) = (joined x y).1 (inl ((same x y).1 e))
      from (inr (u, inl z)) = (joined x y).1 (inr (inl ((same x d.drain).1 z.0, (same d.source y).1 z.1)))
      from (inr (u, inr z)) = (joined x y).1 (inr (inr ((same x d.source).1 z.0, (same d.drain y).1 z.1)))

  -- paths don't go through the device
  pub linked-skip : (IsJoint Q is_source d → ⊥) → (x y : ℕ) → AreJoined before x y ↔ Linked R Q is_source (d ∷ ds) x y
  linked-skip none x y = (to, from)
    where
      to : AreJoined before x y → Linked R Q is_source (d ∷ ds) x y
      to j = inl ((same x y).0 j)

      from : Linked R Q is_source (d ∷ ds) x y → AreJoined before x y
      from (inl e) = (same x y).1 e
      from (inr z) = absurd (none z.0)

-- drives of sources that are the same
pub drive_same : (S T : ℕ → Type 0) (values : List Tri) (d : Drive) → ((s : ℕ) → S s → T s) → ((s : ℕ) → T s → S s) → IsDrive S values d → IsDrive T values d
drive_same S T values Nothing f g h = λ s t. h s (g s t)
drive_same S T values (Only v) f g h = ((h.0.0, f h.0.0 h.0.1, h.0.2), (λ s t. h.1 s (g s t)))
drive_same S T values Mixed f g h = (h.0, h.1, f h.0 h.2, f h.1 h.3, h.4)

module _ (parents : List ℕ) (Q : Device → Type 0) (is_source : ℕ → Bool) (ds : List Device) (d : Device) (t : ℕ) where
  pub led_later : (s : ℕ) → IsLed parents Q is_source ds t s → IsLed parents Q is_source (d ∷ ds) t s
  led_later s h = (h.0, Contains-later d ds h.0 h.1, h.2, h.3, h.4)

  -- from the new device or from an older one
  led_cases : (s : ℕ) → IsLed parents Q is_source (d ∷ ds) t s
      → IsLed parents Q is_source ds t s ⊎ (Q d × ((m : ℕ) × Ends d m s × (is_source m ≡ false) × (top_of parents m ≡ t)) × (is_source s ≡ true))
  led_cases s (e, c, q, m, f) = elim (first_or_later d ds e c) [
    | inl same ↦ inr (subst (λ x. Q x × ((m : ℕ) × Ends x m s × (is_source m ≡ false) × (top_of parents m ≡ t)) × (is_source s ≡ true)) (sym same) (q, m, f))
    | inr later ↦ inl (e, later, q, m, f)
  ]

  -- the device leads to no source
  pub told_skip : (values : List Tri) (drives : Drives) (definite keepers : Bool) → ((m s : ℕ) → Q d → Ends d m s → is_source m ≡ false → is_source s ≡ true → top_of parents m ≡ t → ⊥)
      → IsTold drives definite keepers (IsLed parents Q is_source ds t) values → IsTold drives definite keepers (IsLed parents Q is_source (d ∷ ds) t) values
  told_skip values drives definite keepers none h =
      told_same drives definite keepers _ _ values led_later (λ s l. elim (led_cases s l) [ inl x ↦ x | inr z ↦ absurd (none z.1.0 s z.0 z.1.1 z.1.2 z.2 z.1.3) ]) h

  -- the device leads from below the top to a source
  pub told_more : (values : List Tri) (before more after : Drives) (definite keepers : Bool) (m s : ℕ) → Ends d m s → is_source m ≡ false → is_source s ≡ true → top_of parents m ≡ t
      → ((m' s' : ℕ) → Q d → Ends d m' s' → is_source m' ≡ false → is_source s' ≡ true → s' ≡ s)
      → IsWith before more after → IsTold more definite keepers (λ s'. Q d × (s' ≡ s)) values
      → IsTold before definite keepers (IsLed parents Q is_source ds t) values → IsTold after definite keepers (IsLed parents Q is_source (d ∷ ds) t) values
  told_more values before more after definite keepers m s e f g at only both here h =
      told_with before more after definite keepers (IsLed parents Q is_source ds t) (λ s'. Q d × (s' ≡ s)) (IsLed parents Q is_source (d ∷ ds) t) values both led_later
      (λ s' z. subst (IsLed parents Q is_source (d ∷ ds) t) (sym z.1) (d, Contains-first d ds, z.0, (m, e, f, at), g))
      (λ s' l. elim (led_cases s' l) [ inl x ↦ inl x | inr z ↦ inr (z.0, only z.1.0 s' z.0 z.1.1 z.1.2 z.2) ]) h here
