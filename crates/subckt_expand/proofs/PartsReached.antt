-- The parts of a subcircuit that are expanded in turn: what was made after the first ones, and what the next one needs.
use Rattle.std.proofs.Common.{◌≡◌, ◌<◌, ◌≤◌, ℕ, ◌+◌, ◌*◌, ◌^◌, List, [], ◌∷◌, ◌++◌, length, map, take, Some, slice_get, slice_index_or, sym, ap, ◌∙◌, subst, arith}
use Rattle.std.proofs.lemmas.List.{length-map, take_all}
use Rattle.std.proofs.lemmas.Option.{get_or_from_slice_get, slice_get-get_or, slice_get_within}
use Rattle.deck.specs.CircuitData.{CircuitData}
use Rattle.deck.specs.NamedDevices.{NamedDevice, map_device, with_devices}
use Rattle.deck.specs.Subckts.{SubcktPart, expansions, part_devices}
use Rattle.subckt_expand.specs.declared.part.LocalDevice.{LocalDevice}
use Rattle.subckt_expand.specs.declared.part.Part.{Part}
use Rattle.subckt_expand.specs.declared.part.Part.TheVariants.{Own, Called as Calling}
use Rattle.subckt_expand.specs.Definitions.{CallData, DefinitionData, IsCallOf, IsLocal, IsPartOf, named_local, named_part, no_call}
use Rattle.subckt_expand.specs.Units.{IsCallBelow, IsClosed, UnitData, definition_at, definitions, expansion_at, names_of, subckts_before}
use Rattle.subckt_expand.specs.Frames.{ExpandingData, IsEntered, IsExpanding, IsSamePlace, definition_of, made, name_at, unit_of}
use Rattle.subckt_expand.proofs.CallsMade.{call-made}
use Rattle.subckt_expand.proofs.LevelNames.{call_at-push, unit_of-more}
use Rattle.subckt_expand.proofs.MoreClosed.{all_index}
use Rattle.subckt_expand.proofs.PartsMade.{devices_of, devices_of_part, made-more, nets-few, room-left}

-- the parts of a subcircuit
abbrev pub parts_at : ExpandingData → ℕ → List Part
parts_at e unit = (definition_at (definitions e.units) unit).parts

-- the name in the end of a net of the subcircuit of the last call
abbrev pub last_name : ExpandingData → List ℕ → List ℕ
last_name e = name_at (definitions e.units) e.main e.calls (length e.calls)

-- the devices of a part, by the names that their nets have in the end
abbrev pub part_made : ExpandingData → ℕ → Part → List (NamedDevice (List ℕ))
part_made e unit part = devices_of_part (last_name e) (expansions (subckts_before (definitions e.units) unit))
    (named_part (names_of (definitions e.units)) (definition_at (definitions e.units) unit)) part

-- the devices of the first parts
abbrev pub front_made : ExpandingData → ℕ → ℕ → List (NamedDevice (List ℕ))
front_made e unit index = devices_of (last_name e) (expansions (subckts_before (definitions e.units) unit))
    (named_part (names_of (definitions e.units)) (definition_at (definitions e.units) unit)) (take index (parts_at e unit))

-- the first parts were expanded
pub record IsReached (before : ExpandingData) (unit index : ℕ) (after : ExpandingData) : Type 0 where
  pub place : IsSamePlace before after
  pub made_is : made after ≡ with_devices (made before) (front_made before unit index)

pub same_place : (a b c : ExpandingData) → IsSamePlace a b → IsSamePlace b c → IsSamePlace a c
same_place a b c p q = record { units = q.units ∙ p.units; main = q.main ∙ p.main; calls = q.calls ∙ p.calls }

-- the part at a place, as it is read
pub at_item : (ps : List Part) (i : ℕ) (d p : Part) → i < length ps → slice_index_or ps i d ≡ p → slice_get ps i ≡ Some p
at_item ps i d p lt e = slice_get-get_or ps i d lt ∙ ap Some e

-- one part more
reached_more : (before : ExpandingData) (unit index : ℕ) (after next : ExpandingData) (part : Part) → slice_get (parts_at before unit) index ≡ Some part
    → IsReached before unit index after → IsSamePlace after next → made next ≡ with_devices (made after) (part_made before unit part) → IsReached before unit (index + 1) next
reached_more before unit index after next part at reached place made_is =
    let is : slice_index_or (parts_at before unit) index part ≡ part = get_or_from_slice_get (parts_at before unit) index part part at in
    record {
      place = same_place before after next reached.place place;
      made_is = made_is ∙ ap (λ (c : CircuitData). with_devices c (part_made before unit part)) reached.made_is
          ∙ sym (made-more (made before) (last_name before) (expansions (subckts_before (definitions before.units) unit))
          (named_part (names_of (definitions before.units)) (definition_at (definitions before.units) unit)) (parts_at before unit) index part
          (slice_get_within (parts_at before unit) index part at)
          ∙ ap (λ p. with_devices (with_devices (made before) (front_made before unit index)) (part_made before unit p)) is);
    }

-- all parts were expanded
pub reached_all : (before : ExpandingData) (unit index : ℕ) (after : ExpandingData) → length (parts_at before unit) ≤ index → IsReached before unit index after
    → made after ≡ with_devices (made before) (map (map_device (last_name before)) (expansion_at (definitions before.units) unit).devices)
reached_all before unit index after le reached =
    reached.made_is ∙ ap (λ ps. with_devices (made before) (devices_of (last_name before) (expansions (subckts_before (definitions before.units) unit))
    (named_part (names_of (definitions before.units)) (definition_at (definitions before.units) unit)) ps)) (take_all index (parts_at before unit) le)

-- the place of an expansion
pub record IsPlace (e : ExpandingData) (unit : ℕ) : Type 0 where
  pub is : IsExpanding e
  pub here : unit ≡ unit_of e.main e.calls (length e.calls)
  pub there : unit < length (definitions e.units)

closed_here : (e : ExpandingData) (unit : ℕ) → IsPlace e unit → IsClosed (definitions e.units) unit (definition_at (definitions e.units) unit)
closed_here e unit p = (p.is).units.closed.each unit p.there

part_there : (e : ExpandingData) (unit index : ℕ) (part : Part) → IsPlace e unit → slice_get (parts_at e unit) index ≡ Some part
    → IsPartOf (length (definition_at (definitions e.units) unit).nets) (length (definition_at (definitions e.units) unit).calls) part
part_there e unit index part p at =
    let d = definition_at (definitions e.units) unit in
    let is : slice_index_or (parts_at e unit) index part ≡ part = get_or_from_slice_get (parts_at e unit) index part part at in
    subst (IsPartOf (length d.nets) (length d.calls)) is
    (all_index (IsPartOf (length d.nets) (length d.calls)) d.parts index part ((closed_here e unit p).whole).parts_are (slice_get_within (parts_at e unit) index part at))

-- a call among the parts is there
pub called_there : (e : ExpandingData) (unit index number : ℕ) → slice_get (parts_at e unit) index ≡ Some (Calling number) → IsPlace e unit → number < length (definition_at (definitions e.units) unit).calls
called_there e unit index number at p = part_there e unit index (Calling number) p at

-- the nets so far and those of one part more are few enough
room : (before : ExpandingData) (unit index : ℕ) (after : ExpandingData) (part : Part) → slice_get (parts_at before unit) index ≡ Some part → IsReached before unit index after
    → length before.nets + 3 * length (expansion_at (definitions before.units) unit).devices < 2 ^ 32
    → length after.nets + 3 * length (part_devices (expansions (subckts_before (definitions before.units) unit)) (named_part (names_of (definitions before.units)) (definition_at (definitions before.units) unit) part)) < 2 ^ 32
room before unit index after part at reached few =
    let es = expansions (subckts_before (definitions before.units) unit) in
    let f = named_part (names_of (definitions before.units)) (definition_at (definitions before.units) unit) in
    let front = front_made before unit index in
    let is : slice_index_or (parts_at before unit) index part ≡ part = get_or_from_slice_get (parts_at before unit) index part part at in
    let one : length (part_devices es (f (slice_index_or (parts_at before unit) index part))) ≡ length (part_devices es (f part)) = ap (λ p. length (part_devices es (f p))) is in
    let left = room-left (last_name before) es f (parts_at before unit) index part (slice_get_within (parts_at before unit) index part at) in
    let nets : length after.nets ≡ length (with_devices (made before) front).nets = ap (λ (c : CircuitData). length c.nets) reached.made_is in
    omega (arith, left, one, nets, nets-few (made before) front, few)

module _ (before : ExpandingData) (unit index : ℕ) (after : ExpandingData) (device : LocalDevice) (at : slice_get (parts_at before unit) index ≡ Some (Own device)) (p : IsPlace before unit) (reached : IsReached before unit index after) where
  pub own_local : IsLocal (length (definition_of (definitions after.units) after.main after.calls (length after.calls)).nets) device
  own_local =
      let is : IsLocal (length (definition_at (definitions before.units) unit).nets) device = part_there before unit index (Own device) p at in
      let same : definition_of (definitions after.units) after.main after.calls (length after.calls) ≡ definition_at (definitions before.units) unit =
      (λ i. definition_of (definitions ((reached.place).units i)) ((reached.place).main i) ((reached.place).calls i) (length ((reached.place).calls i)))
      ∙ ap (definition_at (definitions before.units)) (sym p.here) in
      subst (λ (d : DefinitionData). IsLocal (length d.nets) device) (sym same) is

  pub own_room : length before.nets + 3 * length (expansion_at (definitions before.units) unit).devices < 2 ^ 32 → length after.nets + 3 < 2 ^ 32
  own_room few = let left = room before unit index after (Own device) at reached few in omega (arith, left)

  pub own_next : (next : ExpandingData) → IsSamePlace after next
      → made next ≡ with_devices (made after) (map_device (last_name after) (named_local (definition_of (definitions after.units) after.main after.calls (length after.calls)).nets device) ∷ [])
      → IsReached before unit (index + 1) next
  own_next next place made_is =
      let same : map_device (last_name after) (named_local (definition_of (definitions after.units) after.main after.calls (length after.calls)).nets device)
      ≡ map_device (last_name before) (named_local (definition_at (definitions before.units) unit).nets device) =
      (λ i. map_device (name_at (definitions ((reached.place).units i)) ((reached.place).main i) ((reached.place).calls i) (length ((reached.place).calls i)))
      (named_local (definition_of (definitions ((reached.place).units i)) ((reached.place).main i) ((reached.place).calls i) (length ((reached.place).calls i))).nets device))
      ∙ ap (λ n. map_device (last_name before) (named_local (definition_at (definitions before.units) n).nets device)) (sym p.here) in
      reached_more before unit index after next (Own device) at reached place (made_is ∙ ap (λ d. with_devices (made after) (d ∷ [])) same)

module _ (before : ExpandingData) (unit index : ℕ) (after : ExpandingData) (number : ℕ) (call : CallData) (at : slice_get (parts_at before unit) index ≡ Some (Calling number))
    (is_call : slice_index_or (definition_at (definitions before.units) unit).calls number no_call ≡ call) (p : IsPlace before unit) (reached : IsReached before unit index after) where
  number_there : number < length (definition_at (definitions before.units) unit).calls
  number_there = called_there before unit index number at p

  below : IsCallBelow (definitions before.units) unit call
  below = subst (IsCallBelow (definitions before.units) unit) is_call
      (all_index (IsCallBelow (definitions before.units) unit) (definition_at (definitions before.units) unit).calls number no_call (closed_here before unit p).calls number_there)

  nets_there : IsCallOf (length (definition_at (definitions before.units) unit).nets) call
  nets_there = subst (IsCallOf (length (definition_at (definitions before.units) unit).nets)) is_call
      (all_index (IsCallOf (length (definition_at (definitions before.units) unit).nets)) (definition_at (definitions before.units) unit).calls number no_call ((closed_here before unit p).whole).calls_are number_there)

  pub call_below : call.unit < unit
  call_below = below.below

  entered_before : IsEntered (definitions before.units) before.main (before.calls ++ call ∷ []) (length before.calls)
  entered_before =
      let last = call_at-push before.calls call in
      let caller : definition_of (definitions before.units) before.main (before.calls ++ call ∷ []) (length before.calls) ≡ definition_at (definitions before.units) unit =
      ap (definition_at (definitions before.units)) (unit_of-more before.main before.calls (call ∷ []) (length before.calls) (omega arith) ∙ sym p.here) in
      record {
        below = subst (IsCallBelow (definitions before.units) (length (definitions before.units))) (sym last) (record { below = omega (arith, below.below, p.there); passed = below.passed });
        nets = subst (IsCallOf (length (definition_of (definitions before.units) before.main (before.calls ++ call ∷ []) (length before.calls)).nets)) (sym last)
            (subst (λ (d : DefinitionData). IsCallOf (length d.nets) call) (sym caller) nets_there);
      }

  pub call_entered : IsEntered (definitions after.units) after.main (after.calls ++ call ∷ []) (length after.calls)
  call_entered =
      let Q : ExpandingData → Type 0 = λ e. IsEntered (definitions e.units) e.main (e.calls ++ call ∷ []) (length e.calls) in
      let same : record after { nets = []; devices = []; ways = []; numbers = [] } ≡ record before { nets = []; devices = []; ways = []; numbers = [] } =
      (λ i. record { units = (reached.place).units i; main = (reached.place).main i; calls = (reached.place).calls i; ways = []; nets = []; devices = []; numbers = [] }) in
      subst Q (sym same) entered_before

  call_devices : part_made before unit (Calling number)
      ≡ map (map_device (name_at (definitions before.units) before.main (before.calls ++ call ∷ []) (length before.calls + 1))) (expansion_at (definitions before.units) call.unit).devices
  call_devices = call-made (definitions before.units) before.main before.calls unit number call ((p.is).units.closed).names_differ p.here is_call call_below (omega (arith, p.there))

  pub call_room : length before.nets + 3 * length (expansion_at (definitions before.units) unit).devices < 2 ^ 32
      → length after.nets + 3 * length (expansion_at (definitions after.units) call.unit).devices < 2 ^ 32
  call_room few =
      let left = room before unit index after (Calling number) at reached few in
      let es = expansions (subckts_before (definitions before.units) unit) in
      let part : SubcktPart = named_part (names_of (definitions before.units)) (definition_at (definitions before.units) unit) (Calling number) in
      let called : List (NamedDevice (List ℕ)) = (expansion_at (definitions before.units) call.unit).devices in
      let inner = name_at (definitions before.units) before.main (before.calls ++ call ∷ []) (length before.calls + 1) in
      let one : length (part_devices es part) ≡ length called =
      sym (length-map (part_devices es part) (map_device (last_name before))) ∙ ap length call_devices ∙ length-map called (map_device inner) in
      let same : length (expansion_at (definitions after.units) call.unit).devices ≡ length called = ap (λ (us : List UnitData). length (expansion_at (definitions us) call.unit).devices) (reached.place).units in
      omega (arith, left, one, same)

  pub call_next : (next : ExpandingData) → IsSamePlace after next
      → made next ≡ with_devices (made after) (map (map_device (name_at (definitions after.units) after.main (after.calls ++ call ∷ []) (length after.calls + 1))) (expansion_at (definitions after.units) call.unit).devices)
      → IsReached before unit (index + 1) next
  call_next next place made_is =
      let same : map (map_device (name_at (definitions after.units) after.main (after.calls ++ call ∷ []) (length after.calls + 1))) (expansion_at (definitions after.units) call.unit).devices
      ≡ map (map_device (name_at (definitions before.units) before.main (before.calls ++ call ∷ []) (length before.calls + 1))) (expansion_at (definitions before.units) call.unit).devices =
      (λ i. map (map_device (name_at (definitions ((reached.place).units i)) ((reached.place).main i) ((reached.place).calls i ++ call ∷ []) (length ((reached.place).calls i) + 1)))
      (expansion_at (definitions ((reached.place).units i)) call.unit).devices) in
      reached_more before unit index after next (Calling number) at reached place (made_is ∙ ap (with_devices (made after)) (same ∙ sym call_devices))
