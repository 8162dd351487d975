-- A net that nothing drives stays so where devices that do not end at it are appended.
use Rattle.std.proofs.Common.{ℕ, ◌≤◌, List, [], length, map, ◌∙◌, subst, inl, inr, arith, append-nil}
use Rattle.std.specs.Prelude.{◌≢◌, Contains}
use Rattle.std.specs.List.{AllByRecursion}
use Rattle.std.proofs.lemmas.List.Elements.{Contains-append_cases}
use Rattle.std.proofs.lemmas.Option.{slice_get_within}
use Rattle.dom_base.proofs.Lists.{AllByRecursion-both, AllByRecursion-contains, AllByRecursion-map, AllByRecursion-weaker}
use Rattle.deck.specs.CircuitData.{CircuitData}
use Rattle.deck.specs.NamedDevices.{NamedDevice, device_of, map_device, with_devices}
use Rattle.deck.specs.Nets.{IsCircuit, net_number}
use Rattle.deck.specs.NumberedDevices.{HasNumber, IsNumberedDevice}
use Rattle.deck.specs.declared.device.Device.{Device}
use Rattle.deck.proofs.CircuitGrowth.{with_devices-numbered}
use Rattle.deck.proofs.NetNumbers.{net_number-behind, same_number}
use Rattle.domino_cell.specs.PushedNames.{IsUndriven}
use Rattle.domino_cell.proofs.AppendedNets.{behind_no_source, devices_behind, kept_or_new, new_behind, old_in_range, old_number, old_source}

module _ (c : CircuitData) (cards : List (NamedDevice (List ℕ))) (circuit : IsCircuit c.ports c.nets c.devices) (name : List ℕ) (free : IsUndriven c name)
    (apart : AllByRecursion (λ d. (d.drain ≢ name) × (d.source ≢ name)) cards) where
  abbrev e : CircuitData
  e = with_devices c cards

  abbrev number : List ℕ → ℕ
  number = net_number e.nets

  -- a device that does not end at the net
  IsApart : Device → Type 0
  IsApart d = (d.drain ≢ number name) × (d.source ≢ number name)

  out_of_range : (d : Device) → Contains c.devices d → length c.nets ≤ number name → IsApart d
  unfolding IsApart
  out_of_range d old behind = (
    (λ z. omega (arith, z, behind, (old_in_range c cards circuit d old).drain)),
    (λ z. omega (arith, z, behind, (old_in_range c cards circuit d old).source)),
  )

  old_apart : (d : Device) → Contains c.devices d → IsApart d
  unfolding IsApart
  old_apart d old =
      elim (kept_or_new c name) [
        | inl kept ↦
            let same = old_number c cards circuit name kept in
            let none = free.1 d old in
            ((λ z. none.0 (z ∙ same)), (λ z. none.1 (z ∙ same)))
        | inr new ↦ out_of_range d old (new_behind c cards circuit name new)
      ]

  -- another net that is there has another number
  number_apart : (other : List ℕ) → HasNumber e.nets other → other ≢ name → number other ≢ number name
  number_apart other at differs z =
      elim (kept_or_new e name) [
        | inl here ↦ differs (same_number e.nets other name at here z)
        | inr new ↦
            let behind : length e.nets ≤ number name = rw append-nil at (net_number-behind e.nets [] name new) in
            omega (arith, z, behind, slice_get_within e.nets (number other) other at)
      ]

  card_apart : (d : NamedDevice (List ℕ)) → IsNumberedDevice e.nets d × ((d.drain ≢ name) × (d.source ≢ name)) → IsApart (device_of (map_device number d))
  unfolding IsApart
  card_apart d h = (number_apart d.drain h.0.0 h.1.0, number_apart d.source h.0.2 h.1.1)

  cards_apart : AllByRecursion IsApart (map device_of (map (map_device number) cards))
  cards_apart =
      AllByRecursion-map IsApart device_of (map (map_device number) cards)
      (AllByRecursion-map (λ x. IsApart (device_of x)) (map_device number) cards
      (AllByRecursion-weaker (λ d. IsNumberedDevice e.nets d × ((d.drain ≢ name) × (d.source ≢ name))) (λ d. IsApart (device_of (map_device number d))) card_apart cards
      (AllByRecursion-both (IsNumberedDevice e.nets) (λ d. (d.drain ≢ name) × (d.source ≢ name)) cards (with_devices-numbered c cards) apart)))

  pub stays_undriven : IsUndriven e name
  unfolding IsApart
  stays_undriven = (
    elim (kept_or_new c name) [
      | inl kept ↦ old_source c cards circuit name kept ∙ free.0
      | inr new ↦ behind_no_source c cards circuit (number name) (new_behind c cards circuit name new)
    ],
    λ d has.
        elim (Contains-append_cases c.devices (map device_of (map (map_device number) cards)) d (subst (λ ds. Contains ds d) (devices_behind c cards circuit) has)) [
          | inl old ↦ old_apart d old
          | inr new ↦ AllByRecursion-contains IsApart (map device_of (map (map_device number) cards)) d cards_apart new
        ],
  )
