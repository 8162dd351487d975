-- The target of a net by the drives of four sorts of paths.
use Rattle.std.proofs.Common.{◌≡◌, ℕ, Bool, true, false, List, [], ◌∷◌, refl, sym, ◌∙◌, inl, inr}
use Rattle.std.specs.Prelude.{◌⊎◌, ◌↔◌, if◌then◌else◌, Option, Some, None}
use Rattle.dom_base.specs.declared.tri.Tri.{Tri}
use Rattle.dom_base.specs.declared.tri.Tri.TheVariants.{Unknown}
use Rattle.deck.specs.declared.device.Device.{Device}
use Rattle.deck.specs.Paths.{IsWeak, IsStrong, Possible, PossibleStrong, PossibleWeak, DefiniteStrong, DefiniteWeak}
use Rattle.deck.specs.Switches.{IsOn, IsNotOff, value_of}
use Rattle.deck.proofs.Reach.{strong_each, strong_from_each}
use Rattle.dom_base.proofs.Lists.{AllByRecursion-both, AllByRecursion-weaker}
use Rattle.switch_model.specs.SourceDrives.{Drive, IsDrive, Mixed, Nothing, Only, pull_of}
use Rattle.switch_model.specs.Targets.{Pulls, Disputes, Else, Holds, IsTarget}
use Rattle.dom_base.proofs.Decided.{dec_keeper}
use Rattle.switch_model.proofs.Rules.{none_pulls, rules-none, rules-some}
use Rattle.switch_model.proofs.Targets.{definite-possible_strong, definite-possible_weak}
use Rattle.switch_model.specs.Drives.{IsEndOf, first_value, target_by, TargetsByDrives}
use Rattle.switch_model.specs.Walks.{PassesSort}
use Rattle.switch_model.proofs.Walking.{drive_same}

-- a path has a keeper or has none
pub weak_or_strong : (p : List Device) → IsWeak p ⊎ IsStrong p
weak_or_strong [] = inr (λ w. w)
weak_or_strong (d ∷ p) = elim (dec_keeper d.kind) [
  | inl k ↦ inl (inl k)
  | inr n ↦ elim (weak_or_strong p) [ inl w ↦ inl (inr w) | inr s ↦ inr (λ w. elim w [ inl k ↦ n k | inr v ↦ s v ]) ]
]

-- what pulls to nothing is no drive by possible paths
none_pulled : (d p : Drive) → pull_of d p ≡ None → p ≡ Nothing
none_pulled d Nothing e = refl
none_pulled Nothing (Only v) e = absurd (cc)
none_pulled (Only u) (Only v) e = absurd (cc)
none_pulled Mixed (Only v) e = absurd (cc)
none_pulled Nothing Mixed e = absurd (cc)
none_pulled (Only u) Mixed e = absurd (cc)
none_pulled Mixed Mixed e = absurd (cc)

module _ (devices : List Device) (is_source : ℕ → Bool) (values : List Tri) (net : ℕ) where
  abbrev End : Bool → Bool → ℕ → Type 0
  End definite keepers = IsEndOf devices is_source values (record { definite = definite; keepers = keepers }) net

  abbrev Source : (ℕ → Type 0) → ℕ → Type 0
  Source D s = D s × (is_source s ≡ true)

  abbrev DS : ℕ → Type 0
  DS = DefiniteStrong devices is_source values net

  abbrev PS : ℕ → Type 0
  PS = PossibleStrong devices is_source values net

  abbrev DW : ℕ → Type 0
  DW = DefiniteWeak devices is_source values net

  abbrev PW : ℕ → Type 0
  PW = PossibleWeak devices is_source values net

  ds_to : (s : ℕ) → End true false s → Source DS s
  ds_to s ((p, path, c, f), e) = ((p, path, c, AllByRecursion-weaker _ _ (λ d h. h.0) p f, strong_from_each p (AllByRecursion-weaker _ _ (λ d h. h.1 refl) p f)), e)

  ds_from : (s : ℕ) → Source DS s → End true false s
  ds_from s ((p, path, c, f, st), e) = ((p, path, c, AllByRecursion-weaker _ _ (λ d h. (h.0, λ k. h.1)) p (AllByRecursion-both _ _ p f (strong_each p st))), e)

  ps_to : (s : ℕ) → End false false s → Source PS s
  ps_to s ((p, path, c, f), e) = ((p, path, c, AllByRecursion-weaker _ _ (λ d h. h.0) p f, strong_from_each p (AllByRecursion-weaker _ _ (λ d h. h.1 refl) p f)), e)

  ps_from : (s : ℕ) → Source PS s → End false false s
  ps_from s ((p, path, c, f, st), e) = ((p, path, c, AllByRecursion-weaker _ _ (λ d h. (h.0, λ k. h.1)) p (AllByRecursion-both _ _ p f (strong_each p st))), e)

  never : true ≡ false → ⊥
  never e = cc

  module _ (none : (s : ℕ) → PS s → is_source s ≡ true → ⊥) where
    -- where no strong path leads to a source, all paths to sources are weak
    dw_to : (s : ℕ) → End true true s → Source DW s
    dw_to s ((p, path, c, f), e) =
        let on = AllByRecursion-weaker (PassesSort (record { definite = true; keepers = true }) values) (IsOn values) (λ d h. h.0) p f in
        elim (weak_or_strong p) [
          | inl w ↦ ((p, path, c, on, w), e)
          | inr st ↦ absurd (none s (definite-possible_strong devices is_source values net s (p, path, c, on, st)) e)
        ]

    dw_from : (s : ℕ) → Source DW s → End true true s
    dw_from s ((p, path, c, f, w), e) = ((p, path, c, AllByRecursion-weaker _ _ (λ d h. (h, λ k. absurd (never k))) p f), e)

    pw_to : (s : ℕ) → End false true s → Source PW s
    pw_to s ((p, path, c, f), e) =
        let on = AllByRecursion-weaker (PassesSort (record { definite = false; keepers = true }) values) (IsNotOff values) (λ d h. h.0) p f in
        elim (weak_or_strong p) [
          | inl w ↦ ((p, path, c, on, w), e)
          | inr st ↦ absurd (none s (p, path, c, on, st) e)
        ]

    pw_from : (s : ℕ) → Source PW s → End false true s
    pw_from s ((p, path, c, f, w), e) = ((p, path, c, AllByRecursion-weaker _ _ (λ d h. (h, λ k. absurd (never k))) p f), e)

  abbrev by_charge : Tri → Type 0
  by_charge = Else (Holds (Possible devices is_source values net) values net) (λ v. v ≡ Unknown)

  abbrev by_weak : Tri → Type 0
  by_weak = Else (Pulls DW PW is_source values) (Else (Disputes PW is_source) by_charge)

  module _ (sd sp d p : Drive) (alike : Bool) (hsd : IsDrive (End true false) values sd) (hsp : IsDrive (End false false) values sp) (hd : IsDrive (End true true) values d) (hp : IsDrive (End false true) values p)
      (ha : p ≡ Nothing → (alike ≡ true) ↔ ((n : ℕ) → Possible devices is_source values net n → is_source n ≡ false → value_of values n ≡ value_of values net)) where
    sd_is : IsDrive (Source DS) values sd
    sd_is = drive_same _ _ values sd ds_to ds_from hsd

    sp_is : IsDrive (Source PS) values sp
    sp_is = drive_same _ _ values sp ps_to ps_from hsp

    by_pulls : (s w : Option Tri) → pull_of sd sp ≡ s → pull_of d p ≡ w → IsTarget devices is_source values net (first_value s (first_value w (if alike then (value_of values net) else Unknown)))
    by_pulls (Some v) w es ew = rules-some DS PS is_source values (definite-possible_strong devices is_source values net) sd sp sd_is sp_is v es by_weak
    by_pulls None w es ew = rules-none DS PS is_source values (definite-possible_strong devices is_source values net) sd sp sp_is es by_weak _ (weak w ew)
      where
        none : (s : ℕ) → PS s → is_source s ≡ true → ⊥
        none = none_pulls DS PS is_source values (definite-possible_strong devices is_source values net) sd sp sp_is es

        d_is : IsDrive (Source DW) values d
        d_is = drive_same _ _ values d (dw_to none) (dw_from none) hd

        p_is : IsDrive (Source PW) values p
        p_is = drive_same _ _ values p (pw_to none) (pw_from none) hp

        charge : pull_of d p ≡ None → (a : Bool) → alike ≡ a → by_charge (if a then (value_of values net) else Unknown)
        charge en true e = inl ((λ n h. at n h (is_source n) refl), refl)
          where
            at : (n : ℕ) → Possible devices is_source values net n → (b : Bool) → is_source n ≡ b → value_of values n ≡ value_of values net
            at n h false f = (ha (none_pulled d p en)).0 e n h f
            at n h true f = elim (weak_or_strong h.0) [
              | inl w ↦ absurd (none_pulls DW PW is_source values (definite-possible_weak devices is_source values net) d p p_is en n (h.0, h.1, h.2, h.3, w) f)
              | inr st ↦ absurd (none n (h.0, h.1, h.2, h.3, st) f)
            ]
        charge en false e = inr ((λ w h. never (sym ((ha (none_pulled d p en)).1 (λ n q f. h.0 n q)) ∙ e)), refl)

        weak : (w : Option Tri) → pull_of d p ≡ w → by_weak (first_value w (if alike then (value_of values net) else Unknown))
        weak (Some v) e = rules-some DW PW is_source values (definite-possible_weak devices is_source values net) d p d_is p_is v e by_charge
        weak None e = rules-none DW PW is_source values (definite-possible_weak devices is_source values net) d p p_is e by_charge _ (charge e alike refl)

    pub by_four : IsTarget devices is_source values net (target_by sd sp d p alike (value_of values net))
    by_four = by_pulls (pull_of sd sp) (pull_of d p) refl refl

pub by_drives : TargetsByDrives
by_drives devices is_source values net sd sp d p alike hsd hsp hd hp ha = by_four devices is_source values net sd sp d p alike hsd hsp hd hp (λ e. ha)
