-- Subcircuits without calls, which are held as circuits, by numbers.
use Rattle.std.proofs.Common.{◌≡◌, ℕ, List, [], ◌∷◌, ◌++◌, length, map, None, refl, sym, ap, ◌∙◌, subst, arith, length-append}
use Rattle.std.specs.List.{AllByRecursion, flat_map}
use Rattle.std.proofs.lemmas.List.{map-append}
use Rattle.dom_base.specs.declared.kind.Kind.{Kind}
use Rattle.dom_base.proofs.Lists.{slice_index_or-push}
use Rattle.deck.specs.declared.device.Device.{Device}
use Rattle.deck.specs.declared.phase.Phase.{Phase}
use Rattle.deck.specs.CircuitData.{CircuitData}
use Rattle.deck.specs.DeckText.{bare_circuit}
use Rattle.deck.specs.NamedDevices.{named_device, with_devices}
use Rattle.deck.specs.Nets.{IsCircuit, IsInRange, ends}
use Rattle.deck.specs.Pushes.{added_device, pushed}
use Rattle.deck.specs.Subckts.{Expansion, expansions, part_devices}
use Rattle.deck.proofs.DeviceNumbers.{devices_in_range, numbers_used-ge}
use Rattle.spice_text.proofs.ReadBack.{same_circuit}
use Rattle.subckt_expand.specs.Definitions.{DefinitionData, IsDefinition, IsPartOf, named_part, no_definition, port_names, with_device}
use Rattle.subckt_expand.specs.Units.{definition_at, expansion_at, names_of, subckts_before}
use Rattle.spice_read.specs.declared.subckt.Subckt.{Subckt}
use Rattle.spice_read.specs.declared.subckts.Last.{Last}
use Rattle.spice_read.specs.declared.subckts.Last.TheVariants.{Open}
use Rattle.spice_read.specs.FlatSubckts.{closed_with, definition_of, flat_definition, open_in, own_part}
use Rattle.spice_read.specs.ReadSubckts.{CanClose, IsClosable, IsFinished}

-- one device more
pub flat-pushed : (c : CircuitData) (kind : Kind) (a b d : List ℕ) → flat_definition (pushed c kind a b d) ≡ with_device (flat_definition c) kind a b d
flat-pushed c kind a b d =
    let parts = map-append own_part c.devices (added_device c.nets kind a b d ∷ []) in
    let devices = length-append c.devices (added_device c.nets kind a b d ∷ []) in
    λ i. record { name = c.name; ports = c.ports; nets = (pushed c kind a b d).nets; calls = []; parts = parts i; devices = devices i; depth = 0 }

parts_there : (nets : ℕ) (ds : List Device) → AllByRecursion (IsInRange nets) ds → AllByRecursion (IsPartOf nets 0) (map own_part ds)
parts_there nets [] h = tt
parts_there nets (d ∷ ds) h = (record { drain = h.0.drain; gate = h.0.gate; source = h.0.source }, parts_there nets ds h.1)

-- all that it names is there
pub flat_whole : (c : CircuitData) → IsCircuit c.ports c.nets c.devices → IsDefinition (flat_definition c)
flat_whole c is = record {
  few_ports = omega (arith, is.all_used, numbers_used-ge c.ports (ends c.devices));
  parts_are = parts_there (length c.nets) c.devices (devices_in_range (length c.nets) c.ports c.devices (omega (arith, is.all_used)));
  calls_are = tt;
}

own_devices : (es : List Expansion) (names : List (List ℕ)) (c : CircuitData) (ds : List Device) → flat_map (part_devices es) (map (named_part names (flat_definition c)) (map own_part ds)) ≡ map (named_device c.nets) ds
own_devices es names c [] = refl
own_devices es names c (d ∷ ds) = ap (λ l. named_device c.nets d ∷ l) (own_devices es names c ds)

-- the circuit of a text whose last subcircuit calls none is that one
pub flat_finished : (units : List DefinitionData) (c : CircuitData) (phases : List Phase) → IsCircuit c.ports c.nets c.devices
    → IsFinished (record { closed = units ++ flat_definition c ∷ []; current = None }) phases (record c { phases = phases })
flat_finished units c phases is =
    let all : List DefinitionData = units ++ flat_definition c ∷ [] in
    let last : definition_at all (length units) ≡ flat_definition c = slice_index_or-push units (flat_definition c) no_definition in
    let devices : (expansion_at all (length units)).devices ≡ map (named_device c.nets) c.devices =
    ap (λ (d : DefinitionData). flat_map (part_devices (expansions (subckts_before all (length units)))) (map (named_part (names_of all) d) d.parts)) last
    ∙ own_devices _ (names_of all) c c.devices in
    record {
      none_open = refl;
      last = length units;
      count = length-append units (flat_definition c ∷ []) ∙ omega arith;
      circuit_is = same_circuit (record c { phases = phases }) is phases refl
          ∙ sym (λ i. with_devices (bare_circuit (last i).name phases (port_names (last i))) (devices i));
    }

-- the open subcircuit can be closed
pub can_close : (units : List DefinitionData) (last : Last) (s : Subckt) → IsClosable (record { closed = closed_with units last; current = open_in last }) → last ≡ Open s → CanClose units (definition_of s)
can_close units last s h is = subst (λ l. IsClosable (record { closed = closed_with units l; current = open_in l })) is h
