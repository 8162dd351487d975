-- What drives tell of the sources at the ends of paths.
use Rattle.std.proofs.Common.{◌≡◌, ◌≢◌, ◌∙◌, ℕ, Bool, true, false, List, refl, sym, ap, inl, inr}
use Rattle.std.specs.Prelude.{◌⊎◌, ◌||◌}
use Rattle.dom_base.specs.Decided.{Decided}
use Rattle.dom_base.specs.declared.tri.Tri.{Tri}
use Rattle.dom_base.specs.declared.tri.Tri.TheVariants.{One, Unknown, Zero}
use Rattle.dom_base.proofs.Bools.{not_true}
use Rattle.dom_base.proofs.Decided.{dec_tri}
use Rattle.deck.specs.Switches.{value_of}
use Rattle.switch_model.specs.Found.{IsCharge, IsMixed, IsWith}
use Rattle.switch_model.specs.FourDrives.{IsTold, pull_by, pull_where, side, tells}
use Rattle.switch_model.specs.SourceDrives.{Drive, IsDrive, Mixed, Nothing, Only, pull_of}
use Rattle.switch_model.specs.declared.drives.Drives.{Drives}

-- sources that are the same
pub told_same : (drives : Drives) (definite keepers : Bool) (S T : ℕ → Type 0) (values : List Tri) → ((s : ℕ) → S s → T s) → ((s : ℕ) → T s → S s)
    → IsTold drives definite keepers S values → IsTold drives definite keepers T values
told_same drives definite keepers S T values f g h high = (
  λ e. let w = (h high).0 e in (w.0, f w.0 w.1, w.2),
  λ w. (h high).1 (w.0, g w.0 w.1, w.2),
)

-- sources of one kind or another
pub told_with : (a b c : Drives) (definite keepers : Bool) (S T U : ℕ → Type 0) (values : List Tri) → IsWith a b c
    → ((s : ℕ) → S s → U s) → ((s : ℕ) → T s → U s) → ((s : ℕ) → U s → S s ⊎ T s)
    → IsTold a definite keepers S values → IsTold b definite keepers T values → IsTold c definite keepers U values
told_with a b c definite keepers S T U values both f g from h k high = (
  λ e. elim ((both definite keepers high).0 e) [
    | inl x ↦ let w = (h high).0 x in (w.0, f w.0 w.1, w.2)
    | inr y ↦ let w = (k high).0 y in (w.0, g w.0 w.1, w.2)
  ],
  λ w. (both definite keepers high).1 (elim (from w.0 w.1) [
    | inl x ↦ inl ((h high).1 (w.0, x, w.2))
    | inr y ↦ inr ((k high).1 (w.0, y, w.2))
  ]),
)

-- the charge of nets of one kind or another, of which there are some of both
pub charge_with : (S T U : ℕ → Type 0) (values : List Tri) (a b c : Tri) → ((s : ℕ) → S s → U s) → ((s : ℕ) → T s → U s) → ((s : ℕ) → U s → S s ⊎ T s)
    → (m n : ℕ) → S m → T n → IsMixed a b c → IsCharge S values a → IsCharge T values b → IsCharge U values c
charge_with S T U values a b c f g from m n hm hn mixed h k = by h k (dec_tri a b)
  where
    by : IsCharge S values a → IsCharge T values b → (a ≡ b) ⊎ (a ≡ b → ⊥) → IsCharge U values c
    by (inl h) (inl k) (inl e) = inl (λ s u. elim (from s u) [ inl x ↦ h s x ∙ sym (mixed.same e) | inr y ↦ k s y ∙ sym e ∙ sym (mixed.same e) ])
    by (inl h) (inl k) (inr ne) = inr (mixed.apart ne, (m, n, f m hm, g n hn, λ e. ne (sym (h m hm) ∙ e ∙ k n hn)))
    by (inr h) k (inl e) = inr (mixed.same e ∙ h.0, (h.1.0, h.1.1, f h.1.0 h.1.2, f h.1.1 h.1.3, h.1.4))
    by (inr h) k (inr ne) = inr (mixed.apart ne, (h.1.0, h.1.1, f h.1.0 h.1.2, f h.1.1 h.1.3, h.1.4))
    by (inl h) (inr k) (inl e) = inr (mixed.same e ∙ e ∙ k.0, (k.1.0, k.1.1, g k.1.0 k.1.2, g k.1.1 k.1.3, k.1.4))
    by (inl h) (inr k) (inr ne) = inr (mixed.apart ne, (k.1.0, k.1.1, g k.1.0 k.1.2, g k.1.1 k.1.3, k.1.4))

pub charge_same : (S T : ℕ → Type 0) (values : List Tri) (c : Tri) → ((s : ℕ) → S s → T s) → ((s : ℕ) → T s → S s) → IsCharge S values c → IsCharge T values c
charge_same S T values c f g (inl h) = inl (λ m t. h m (g m t))
charge_same S T values c f g (inr h) = inr (h.0, (h.1.0, h.1.1, f h.1.0 h.1.2, f h.1.1 h.1.3, h.1.4))

-- what the drive of sources shows of a side
abbrev shows : Bool → Drive → Bool
shows high Nothing = false
shows false (Only Zero) = true
shows false (Only One) = false
shows false (Only Unknown) = true
shows true (Only Zero) = false
shows true (Only One) = true
shows true (Only Unknown) = true
shows high Mixed = true

shows_no : (high : Bool) (v : Tri) → v ≡ side high → shows high (Only v) ≡ false
shows_no false One e = refl
shows_no true Zero e = refl
shows_no false Zero e = absurd (cc)
shows_no false Unknown e = absurd (cc)
shows_no true One e = absurd (cc)
shows_no true Unknown e = absurd (cc)

shows_yes : (high : Bool) (v : Tri) → v ≢ side high → shows high (Only v) ≡ true
shows_yes false One ne = absurd (ne refl)
shows_yes true Zero ne = absurd (ne refl)
shows_yes false Zero ne = refl
shows_yes false Unknown ne = refl
shows_yes true One ne = refl
shows_yes true Unknown ne = refl

told_shows : (drives : Drives) (definite keepers : Bool) (S : ℕ → Type 0) (values : List Tri) → IsTold drives definite keepers S values
    → (high : Bool) (x : Drive) → IsDrive S values x → tells drives definite keepers high ≡ shows high x
told_shows drives definite keepers S values t high Nothing h = not_true _ (λ e. let w = (t high).0 e in h w.0 w.1)
told_shows drives definite keepers S values t high (Only v) h = elim (dec_tri v (side high)) [
  | inl e ↦ not_true _ (λ yes. let w = (t high).0 yes in w.2 (h.1 w.0 w.1 ∙ e)) ∙ sym (shows_no high v e)
  | inr ne ↦ (t high).1 (h.0.0, h.0.1, λ e. ne (sym h.0.2 ∙ e)) ∙ sym (shows_yes high v ne)
]
told_shows drives definite keepers S values t high Mixed h = elim (dec_tri (value_of values h.0) (side high)) [
  | inl e ↦ (t high).1 (h.1, h.3, λ f. h.4 (e ∙ sym f))
  | inr ne ↦ (t high).1 (h.0, h.2, ne)
]

pull_is : (d p : Drive) → pull_where (shows false d || shows true d) (shows false p) (shows true p) ≡ pull_of d p
pull_is Nothing Nothing = refl
pull_is Nothing (Only Zero) = refl
pull_is Nothing (Only One) = refl
pull_is Nothing (Only Unknown) = refl
pull_is Nothing Mixed = refl
pull_is (Only Zero) Nothing = refl
pull_is (Only Zero) (Only Zero) = refl
pull_is (Only Zero) (Only One) = refl
pull_is (Only Zero) (Only Unknown) = refl
pull_is (Only Zero) Mixed = refl
pull_is (Only One) Nothing = refl
pull_is (Only One) (Only Zero) = refl
pull_is (Only One) (Only One) = refl
pull_is (Only One) (Only Unknown) = refl
pull_is (Only One) Mixed = refl
pull_is (Only Unknown) Nothing = refl
pull_is (Only Unknown) (Only Zero) = refl
pull_is (Only Unknown) (Only One) = refl
pull_is (Only Unknown) (Only Unknown) = refl
pull_is (Only Unknown) Mixed = refl
pull_is Mixed Nothing = refl
pull_is Mixed (Only Zero) = refl
pull_is Mixed (Only One) = refl
pull_is Mixed (Only Unknown) = refl
pull_is Mixed Mixed = refl

-- the drives pull as the drives of the sources do
pub told_pull : (drives : Drives) (keepers : Bool) (D P : ℕ → Type 0) (values : List Tri) → IsTold drives true keepers D values → IsTold drives false keepers P values
    → (d p : Drive) → IsDrive D values d → IsDrive P values p → pull_by drives keepers ≡ pull_of d p
told_pull drives keepers D P values td tp d p hd hp =
    ap (λ (b : Bool). pull_where (b || tells drives true keepers true) (tells drives false keepers false) (tells drives false keepers true)) (told_shows drives true keepers D values td false d hd)
    ∙ ap (λ (b : Bool). pull_where (shows false d || b) (tells drives false keepers false) (tells drives false keepers true)) (told_shows drives true keepers D values td true d hd)
    ∙ ap (λ (b : Bool). pull_where (shows false d || shows true d) b (tells drives false keepers true)) (told_shows drives false keepers P values tp false p hp)
    ∙ ap (λ (b : Bool). pull_where (shows false d || shows true d) (shows false p) b) (told_shows drives false keepers P values tp true p hp)
    ∙ pull_is d p

-- all values are one where no other is there
the_only : (S : ℕ → Type 0) (values : List Tri) (v : Tri) → ((w : Tri) → w ≢ v → (s : ℕ) × S s × (value_of values s ≡ w) → ⊥) → (s : ℕ) → S s → value_of values s ≡ v
the_only S values v none s h = elim (dec_tri (value_of values s) v) [ inl e ↦ e | inr ne ↦ absurd (none (value_of values s) ne (s, h, refl)) ]

module _ (S : ℕ → Type 0) (values : List Tri) where
  abbrev There : Tri → Type 0
  There v = (s : ℕ) × S s × (value_of values s ≡ v)

  two : (v w : Tri) → v ≢ w → There v → There w → (x : Drive) × IsDrive S values x
  two v w ne a b = (Mixed, (a.0, b.0, a.1, b.1, λ e. ne (sym a.2 ∙ e ∙ b.2)))

  zero_one : Zero ≢ One
  zero_one e = cc

  zero_unknown : Zero ≢ Unknown
  zero_unknown e = cc

  one_unknown : One ≢ Unknown
  one_unknown e = cc

  drive_by : Decided (There Zero) → Decided (There One) → Decided (There Unknown) → (x : Drive) × IsDrive S values x
  drive_by (inl z) (inl o) u = two Zero One zero_one z o
  drive_by (inl z) (inr not_one) (inl u) = two Zero Unknown zero_unknown z u
  drive_by (inl z) (inr not_one) (inr not_unknown) = (Only Zero, (z, the_only S values Zero none))
    where
      none : (w : Tri) → w ≢ Zero → There w → ⊥
      none Zero ne t = ne refl
      none One ne t = not_one t
      none Unknown ne t = not_unknown t
  drive_by (inr not_zero) (inl o) (inl u) = two One Unknown one_unknown o u
  drive_by (inr not_zero) (inl o) (inr not_unknown) = (Only One, (o, the_only S values One none))
    where
      none : (w : Tri) → w ≢ One → There w → ⊥
      none Zero ne t = not_zero t
      none One ne t = ne refl
      none Unknown ne t = not_unknown t
  drive_by (inr not_zero) (inr not_one) (inl u) = (Only Unknown, (u, the_only S values Unknown none))
    where
      none : (w : Tri) → w ≢ Unknown → There w → ⊥
      none Zero ne t = not_zero t
      none One ne t = not_one t
      none Unknown ne t = ne refl
  drive_by (inr not_zero) (inr not_one) (inr not_unknown) = (Nothing, λ s h. none (value_of values s) (s, h, refl))
    where
      none : (w : Tri) → There w → ⊥
      none Zero t = not_zero t
      none One t = not_one t
      none Unknown t = not_unknown t

  -- sources that can be searched for a value have a drive
  pub drive_exists : ((v : Tri) → Decided ((s : ℕ) × S s × (value_of values s ≡ v))) → (x : Drive) × IsDrive S values x
  drive_exists dec = drive_by (dec Zero) (dec One) (dec Unknown)
