-- Why a file of BLIF, the Berkeley Logic Interchange Format, a deck and a stimulus have no verdict.
use Rattle.std.specs.Prelude.{ℕ, List}
use Rattle.blif_ast.specs.BlifFileData.{BlifFileData}
use Rattle.blif_ast.specs.Reading.{IsBlifFaultAt, IsFileOf}
use Rattle.blif_numbers.specs.declared.fault.BlifFault.{BlifFault}
use Rattle.blif_numbers.specs.declared.fault.BlifFault.TheVariants as blif_faults
use Rattle.model_calls.specs.declared.fault.FlatFault.{FlatFault}
use Rattle.model_calls.specs.declared.fault.FlatFault.TheVariants as flat_faults
use Rattle.net_flatten.specs.Flattening.{IsNetworkOf}
use Rattle.network.specs.NetworkData.{NetworkData}
use Rattle.model_calls.specs.Refusal as refusals
use Rattle.model_calls.specs.Refusals.{IsRefusal}
use Rattle.deck.specs.CircuitData.{CircuitData}
use Rattle.deck.specs.DeckFaults.{IsDeckFaultAt}
use Rattle.deck.specs.DeckText.{IsDeckOf}
use Rattle.deck.specs.Roles.{AreRoles, ports_of}
use Rattle.deck.specs.declared.fault.DeckKind.{DeckKind}
use Rattle.deck.specs.declared.role.Roles.{Roles}
use Rattle.stim_text.specs.Stimuli.{IsStimFaultAt}
use Rattle.stim_text.specs.declared.fault.StimKind.{StimKind}
use Rattle.trace_tool.specs.declared.fault.TraceFault.{TraceFault}
use Rattle.trace_tool.specs.declared.fault.TraceFault.TheVariants.{Blif, Flat, Deck, Ports, NoNet, Stim, Memory}
use Rattle.trace_tool.specs.Refusals.{HasBadPorts}

-- a text that is accepted, and the network of its file
pub record HasNetworkOf (blif : List ℕ) (network : NetworkData) : Type 0 where
  pub file : BlifFileData
  pub accepted : IsFileOf blif file
  pub network_is : IsNetworkOf file network

-- a file has no network for this cause; want of memory is none
abbrev pub IsFlatRefusal : BlifFileData → FlatFault → Type 0
IsFlatRefusal file (flat_faults.At line kind name) = IsRefusal file (refusals.At kind line name)
IsFlatRefusal file (flat_faults.TooMany limit count) = IsRefusal file (refusals.TooMany limit count)
IsFlatRefusal file flat_faults.Memory = ⊥

-- a text that is accepted, and whose file has no network for this cause
pub record HasFlatRefusal (blif : List ℕ) (fault : FlatFault) : Type 0 where
  pub file : BlifFileData
  pub accepted : IsFileOf blif file
  pub refused : IsFlatRefusal file fault

-- why a text has no network: a fault, a refusal of its file, or out of memory
abbrev pub IsUnflattened : List ℕ → TraceFault → Type 0
IsUnflattened blif (Blif line kind) = IsBlifFaultAt blif line kind
IsUnflattened blif (Flat fault) = HasFlatRefusal blif fault
IsUnflattened blif (Deck line kind) = ⊥
IsUnflattened blif (Ports place) = ⊥
IsUnflattened blif (NoNet name) = ⊥
IsUnflattened blif (Stim line kind) = ⊥
IsUnflattened blif Memory = Unit {0}

-- a text with a network, and a deck with this fault
pub record HasDeckFault (blif deck : List ℕ) (line : ℕ) (kind : DeckKind) : Type 0 where
  pub network : NetworkData
  pub has : HasNetworkOf blif network
  pub fault : IsDeckFaultAt deck line kind

-- a text with a network, and a deck whose ports leave their order at a place
pub record HasPortFault (blif deck : List ℕ) (place : ℕ) : Type 0 where
  pub network : NetworkData
  pub has : HasNetworkOf blif network
  pub fault : HasBadPorts deck place

-- a text with a network, a deck whose ports are in order, and a stimulus with a fault for the network's inputs
pub record HasStimFault (blif deck stim : List ℕ) (line : ℕ) (kind : StimKind) : Type 0 where
  pub network : NetworkData
  pub has : HasNetworkOf blif network
  pub circuit : CircuitData
  pub roles : Roles
  pub is_deck : IsDeckOf deck circuit
  pub are_roles : AreRoles (ports_of circuit) roles
  pub fault : IsStimFaultAt network.inputs stim line kind

-- a text, a deck and a stimulus are refused for this cause; out of memory comes for any
abbrev pub IsCosimRefused : (blif deck stim : List ℕ) → TraceFault → Type 0
IsCosimRefused blif deck stim (Blif line kind) = IsBlifFaultAt blif line kind
IsCosimRefused blif deck stim (Flat fault) = HasFlatRefusal blif fault
IsCosimRefused blif deck stim (Deck line kind) = HasDeckFault blif deck line kind
IsCosimRefused blif deck stim (Ports place) = HasPortFault blif deck place
IsCosimRefused blif deck stim (NoNet name) = ⊥
IsCosimRefused blif deck stim (Stim line kind) = HasStimFault blif deck stim line kind
IsCosimRefused blif deck stim Memory = Unit {0}

-- the cause for which a text is refused, and a file
abbrev pub of_blif : BlifFault → TraceFault
of_blif (blif_faults.At line kind) = Blif line kind
of_blif blif_faults.Memory = Memory

abbrev pub of_flat : FlatFault → TraceFault
of_flat (flat_faults.At line kind name) = Flat (flat_faults.At line kind name)
of_flat (flat_faults.TooMany limit count) = Flat (flat_faults.TooMany limit count)
of_flat flat_faults.Memory = Memory
