-- The groups of devices that end at rising places.
use Rattle.std.proofs.Common.{◌≡◌, ℕ, ◌≤◌, ◌+◌, ◌-◌, List, [], ◌∷◌, ◌++◌, length, take, drop, refl, ap, sym, ◌∙◌, arith}
use Rattle.std.specs.List.{AllByRecursion, flat_map}
use Rattle.std.proofs.lemmas.List.{take-append-drop, length-take, length-drop}
use Rattle.dom_base.proofs.Lists.{length-none, AllByRecursion-weaker}
use Rattle.deck.specs.declared.device.Device.{Device}
use Rattle.spice_text.specs.Cells.{groups_from, PlacesRise}

-- each of the places is behind the one before it
pub rises_far : (start : ℕ) (places : List ℕ) (last : ℕ) → PlacesRise start places last → start + length places ≤ last
rises_far start [] last h = omega arith
rises_far start (place ∷ places) last h = omega (arith, rises_far place places last h.1)

-- the groups, one behind the other, are the devices
pub groups_all : (start : ℕ) (places : List ℕ) (last : ℕ) (devices : List Device) → PlacesRise start places last → start + length devices
    ≡ last
    → flat_map (λ group. group) (groups_from start places devices) ≡ devices
groups_all start [] last devices h count = sym (length-none devices (omega arith))
groups_all start (place ∷ places) last devices h count =
    let rest = groups_all place places last (drop (place - start) devices) h.1
    (omega (arith, length-drop (place - start) devices, rises_far place places last h.1)) in
    ap (λ l. take (place - start) devices ++ l) rest ∙ take-append-drop (place - start) devices

-- there are as many groups as places
pub groups_count : (start : ℕ) (places : List ℕ) (devices : List Device) → length (groups_from start places devices) ≡ length places
groups_count start [] devices = refl
groups_count start (place ∷ places) devices = omega (arith, groups_count place places (drop (place - start) devices))

-- no group is longer than the devices
pub groups_short : (start : ℕ) (places : List ℕ) (devices : List Device)
    → AllByRecursion (λ (group : List Device). length group ≤ length devices) (groups_from start places devices)
groups_short start [] devices = tt
groups_short start (place ∷ places) devices = (
  omega (arith, length-take (place - start) devices),
  AllByRecursion-weaker (λ (group : List Device). length group ≤ length (drop (place - start) devices))
      (λ (group : List Device). length group ≤ length devices)
      (λ group le. omega (arith, length-drop (place - start) devices)) (groups_from place places (drop (place - start) devices))
      (groups_short place places (drop (place - start) devices)),
)
