-- A call that is entered and left again: what was made in between are the devices of the call.
use Rattle.std.proofs.Common.{◌≡◌, ◌<◌, ℕ, suc, ◌+◌, ◌-◌, ◌*◌, ◌^◌, List, [], ◌∷◌, ◌++◌, length, map, take, refl, sym, ap, ◌∙◌, arith, length-append}
use Rattle.std.proofs.lemmas.List.{take_at}
use Rattle.deck.specs.CircuitData.{CircuitData}
use Rattle.deck.specs.NamedDevices.{NamedDevice, map_device, with_devices}
use Rattle.subckt_expand.specs.Definitions.{CallData}
use Rattle.subckt_expand.specs.Units.{UnitData, definitions, expansion_at}
use Rattle.subckt_expand.specs.Frames.{ExpandingData, IsSamePlace, made, name_at, unit_of}
use Rattle.subckt_expand.proofs.LevelNames.{call_at-push}

-- the same nets and devices, one call further in
pub record IsInside (before : ExpandingData) (call : CallData) (after : ExpandingData) : Type 0 where
  pub units : after.units ≡ before.units
  pub main : after.main ≡ before.main
  pub calls : after.calls ≡ before.calls ++ call ∷ []
  pub nets : after.nets ≡ before.nets
  pub devices : after.devices ≡ before.devices

-- the same nets and devices, one call further out
pub record IsOutside (before after : ExpandingData) : Type 0 where
  pub units : after.units ≡ before.units
  pub main : after.main ≡ before.main
  pub calls : after.calls ≡ take (length before.calls - 1) before.calls
  pub nets : after.nets ≡ before.nets
  pub devices : after.devices ≡ before.devices

-- the devices of a subcircuit, by the names that their nets have in the end of some calls
abbrev pub called_devices : List UnitData → ℕ → List CallData → ℕ → ℕ → List (NamedDevice (List ℕ))
called_devices units main calls level unit = map (map_device (name_at (definitions units) main calls level)) (expansion_at (definitions units) unit).devices

module _ (before : ExpandingData) (call : CallData) (inside : ExpandingData) (enters : IsInside before call inside) where
  long : length (before.calls ++ call ∷ []) ≡ length before.calls + 1
  long = length-append before.calls (call ∷ [])

  pub called_here : call.unit ≡ unit_of inside.main inside.calls (length inside.calls)
  called_here =
      let next : length (before.calls ++ call ∷ []) ≡ suc (length before.calls) = omega (arith, long) in
      sym ((λ i. unit_of (enters.main i) (enters.calls i) (length (enters.calls i)))
      ∙ ap (unit_of before.main (before.calls ++ call ∷ [])) next ∙ ap (λ (c : CallData). c.unit) (call_at-push before.calls call))

  pub called_room : length before.nets + 3 * length (expansion_at (definitions before.units) call.unit).devices < 2 ^ 32
      → length inside.nets + 3 * length (expansion_at (definitions inside.units) call.unit).devices < 2 ^ 32
  called_room few =
      let nets = ap length enters.nets in
      let devices = ap (λ (us : List UnitData). length (expansion_at (definitions us) call.unit).devices) enters.units in
      omega (arith, few, nets, devices)

  some_calls : (full : ExpandingData) → IsSamePlace inside full → full.calls ≡ before.calls ++ call ∷ []
  some_calls full place = place.calls ∙ enters.calls

  pub called_some : (full : ExpandingData) → IsSamePlace inside full → 0 < length full.calls
  called_some full place = let count = ap length (some_calls full place) in omega (arith, count, long)

  module _ (full after : ExpandingData) (place : IsSamePlace inside full) (leaves : IsOutside full after) where
    pub called_place : IsSamePlace before after
    called_place =
        let calls = some_calls full place in
        let count : length full.calls - 1 ≡ length before.calls = let all = ap length calls in omega (arith, all, long) in
        record {
          units = leaves.units ∙ place.units ∙ enters.units;
          main = leaves.main ∙ place.main ∙ enters.main;
          calls = leaves.calls ∙ ap (λ n. take n full.calls) count ∙ ap (take (length before.calls)) calls ∙ take_at before.calls (call ∷ []) (length before.calls) refl;
        }

    pub called_made : made full ≡ with_devices (made inside) (called_devices inside.units inside.main inside.calls (length inside.calls) call.unit)
        → made after ≡ with_devices (made before) (called_devices before.units before.main (before.calls ++ call ∷ []) (length before.calls + 1) call.unit)
    called_made made_is =
        let last : made after ≡ made full = (λ i. record { name = []; phases = []; ports = 0; nets = leaves.nets i; devices = leaves.devices i }) in
        let first : made inside ≡ made before = (λ i. record { name = []; phases = []; ports = 0; nets = enters.nets i; devices = enters.devices i }) in
        last ∙ made_is ∙ ap (λ (c : CircuitData). with_devices c (called_devices inside.units inside.main inside.calls (length inside.calls) call.unit)) first
        ∙ (λ i. with_devices (made before) (called_devices (enters.units i) (enters.main i) (enters.calls i) (length (enters.calls i)) call.unit))
        ∙ ap (λ n. with_devices (made before) (called_devices before.units before.main (before.calls ++ call ∷ []) n call.unit)) long
