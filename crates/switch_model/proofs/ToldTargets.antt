-- The target of a net by what drives tell of the sources at the ends of paths, and by its charge.
use Rattle.std.proofs.Common.{◌≡◌, ◌∙◌, ℕ, Bool, true, false, List, sym, subst, ap}
use Rattle.std.specs.Prelude.{◌↔◌, if◌then◌else◌, Option}
use Rattle.dom_base.specs.Decided.{Decided}
use Rattle.dom_base.specs.declared.tri.Tri.{Tri}
use Rattle.dom_base.specs.declared.tri.Tri.TheVariants.{Unknown}
use Rattle.dom_base.proofs.Decided.{dec_and, dec_bool, dec_map, dec_tri}
use Rattle.deck.specs.Paths.{Possible}
use Rattle.deck.specs.Switches.{value_of}
use Rattle.deck.specs.declared.device.Device.{Device}
use Rattle.switch_model.specs.Drives.{IsEndOf, first_value}
use Rattle.switch_model.specs.FourDrives.{IsTold, pull_by, sort_of, target_by_drives}
use Rattle.switch_model.specs.SourceDrives.{Drive, IsDrive, pull_of}
use Rattle.switch_model.specs.Targets.{IsTarget}
use Rattle.switch_model.specs.Walks.{PassesSort}
use Rattle.switch_model.specs.declared.drives.Drives.{Drives}
use Rattle.switch_model.proofs.ByDrives.{by_drives}
use Rattle.switch_model.proofs.PlainClasses.{dec_passes}
use Rattle.switch_model.proofs.Targets.{search_any}
use Rattle.switch_model.proofs.Told.{drive_exists, told_pull}

module _ (devices : List Device) (is_source : ℕ → Bool) (values : List Tri) (net : ℕ) (free : is_source net ≡ false) where
  abbrev pub End : Bool → Bool → ℕ → Type 0
  End definite keepers = IsEndOf devices is_source values (sort_of definite keepers) net

  -- the sources at the ends of paths of a sort can be searched for a value
  dec_end : (definite keepers : Bool) (v : Tri) → Decided ((s : ℕ) × End definite keepers s × (value_of values s ≡ v))
  dec_end definite keepers v =
      dec_map (λ z. (z.0, (z.1, z.2.0), z.2.1)) (λ z. (z.0, z.1.0, (z.1.1, z.2)))
      (search_any devices is_source net free (PassesSort (sort_of definite keepers) values) (dec_passes definite keepers values)
      (λ s. (is_source s ≡ true) × (value_of values s ≡ v)) (λ s. dec_and (dec_bool (is_source s) true) (dec_tri (value_of values s) v)))

  drive : (definite keepers : Bool) → (x : Drive) × IsDrive (End definite keepers) values x
  drive definite keepers = drive_exists (End definite keepers) values (dec_end definite keepers)

  same_target : (s s' w w' : Option Tri) (c c' : Tri) → s ≡ s' → w ≡ w' → c ≡ c' → first_value s (first_value w c) ≡ first_value s' (first_value w' c')
  same_target s s' w w' c c' e f g =
      ap (λ (x : Option Tri). first_value x (first_value w c)) e ∙ ap (λ (x : Option Tri). first_value s' (first_value x c)) f ∙ ap (λ (x : Tri). first_value s' (first_value w' x)) g

  pub by_told : (drives : Drives) → ((definite keepers : Bool) → IsTold drives definite keepers (End definite keepers) values)
      → (alike : Bool) → (alike ≡ true) ↔ ((n : ℕ) → Possible devices is_source values net n → is_source n ≡ false → value_of values n ≡ value_of values net)
      → (charge : Tri) → charge ≡ (if alike then (value_of values net) else Unknown) → IsTarget devices is_source values net (target_by_drives drives charge)
  by_told drives told alike iff charge is =
      let sd = drive true false in
      let sp = drive false false in
      let d = drive true true in
      let p = drive false true in
      subst (IsTarget devices is_source values net)
      (sym (same_target (pull_by drives false) (pull_of sd.0 sp.0) (pull_by drives true) (pull_of d.0 p.0) charge (if alike then (value_of values net) else Unknown)
      (told_pull drives false (End true false) (End false false) values (told true false) (told false false) sd.0 sp.0 sd.1 sp.1)
      (told_pull drives true (End true true) (End false true) values (told true true) (told false true) d.0 p.0 d.1 p.1) is))
      (by_drives devices is_source values net sd.0 sp.0 d.0 p.0 alike sd.1 sp.1 d.1 p.1 iff)
