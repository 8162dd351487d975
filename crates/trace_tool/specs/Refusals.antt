-- Why a deck and a stimulus have no trace with some probe words.
use Rattle.std.specs.Prelude.{ℕ, ◌≡◌, List, ◌∷◌, ◌++◌, Contains}
use Rattle.deck.specs.CircuitData.{CircuitData}
use Rattle.deck.specs.DeckFaults.{IsDeckFaultAt}
use Rattle.deck.specs.DeckText.{IsDeckOf}
use Rattle.deck.specs.Roles.{AreRoles, LeavesRolesAt, ports_of}
use Rattle.deck.specs.declared.role.Roles.{Roles}
use Rattle.spice_read.specs.declared.faults.DeckFault.{DeckFault}
use Rattle.spice_read.specs.declared.faults.DeckFault.TheVariants as deck_faults
use Rattle.stim_text.specs.declared.fault.StimFault.{StimFault}
use Rattle.stim_text.specs.declared.fault.StimFault.TheVariants as stim_faults
use Rattle.stim_text.specs.Stimuli.{IsStimFaultAt}
use Rattle.stim_text.specs.declared.fault.StimKind.{StimKind}
use Rattle.trace_tool.specs.declared.fault.TraceFault.{TraceFault}
use Rattle.trace_tool.specs.declared.fault.TraceFault.TheVariants.{Blif, Flat, Deck, Ports, NoNet, Stim, Memory}
use Rattle.trace_tool.specs.declared.options.ProbeWord.{ProbeWord}
use Rattle.trace_tool.specs.Probes.{AreNets}

-- a deck whose ports leave their order at a place
pub record HasBadPorts (deck : List ℕ) (place : ℕ) : Type 0 where
  pub circuit : CircuitData
  pub is_deck : IsDeckOf deck circuit
  pub leaves : LeavesRolesAt (ports_of circuit) place

-- words up to the first whose name, this one, is none of the nets
pub record IsFirstNoNet (nets : List (List ℕ)) (words : List ProbeWord) (name : List ℕ) : Type 0 where
  pub before : List ProbeWord
  pub word : ProbeWord
  pub after : List ProbeWord
  pub words_are : words ≡ before ++ word ∷ after
  pub are_nets : AreNets nets before
  pub name_is : word.name ≡ name
  pub no_net : Contains nets name → ⊥

-- why there are no nets for the probe words: the first whose name is none of them; or out of memory
abbrev pub IsUnnamed : List (List ℕ) → List ProbeWord → TraceFault → Type 0
IsUnnamed nets words (NoNet name) = IsFirstNoNet nets words name
IsUnnamed nets words Memory = Unit {0}
IsUnnamed nets words (Blif line kind) = ⊥
IsUnnamed nets words (Flat fault) = ⊥
IsUnnamed nets words (Deck line kind) = ⊥
IsUnnamed nets words (Ports place) = ⊥
IsUnnamed nets words (Stim line kind) = ⊥

-- a deck whose ports are in order, and the first probe word whose name is none of its nets
pub record HasNoNet (deck : List ℕ) (probes : List ProbeWord) (name : List ℕ) : Type 0 where
  pub circuit : CircuitData
  pub roles : Roles
  pub is_deck : IsDeckOf deck circuit
  pub are_roles : AreRoles (ports_of circuit) roles
  pub first : IsFirstNoNet circuit.nets probes name

-- a deck whose ports are in order and which has the nets of the probe words, and a stimulus with a fault for its pins
pub record HasBadStimulus (deck stim : List ℕ) (probes : List ProbeWord) (line : ℕ) (kind : StimKind) : Type 0 where
  pub circuit : CircuitData
  pub roles : Roles
  pub is_deck : IsDeckOf deck circuit
  pub are_roles : AreRoles (ports_of circuit) roles
  pub are_nets : AreNets circuit.nets probes
  pub fault : IsStimFaultAt roles.pins stim line kind

-- a deck and a stimulus are refused for this cause; out of memory comes for any
abbrev pub IsRefused : (deck stim : List ℕ) → List ProbeWord → TraceFault → Type 0
IsRefused deck stim probes (Blif line kind) = ⊥
IsRefused deck stim probes (Flat fault) = ⊥
IsRefused deck stim probes (Deck line kind) = IsDeckFaultAt deck line kind
IsRefused deck stim probes (Ports place) = HasBadPorts deck place
IsRefused deck stim probes (NoNet name) = HasNoNet deck probes name
IsRefused deck stim probes (Stim line kind) = HasBadStimulus deck stim probes line kind
IsRefused deck stim probes Memory = Unit {0}

-- the cause for which a deck is refused, and a stimulus
abbrev pub of_deck : DeckFault → TraceFault
of_deck (deck_faults.At line kind) = Deck line kind
of_deck deck_faults.Memory = Memory

abbrev pub of_stim : StimFault → TraceFault
of_stim (stim_faults.At line kind) = Stim line kind
of_stim stim_faults.Memory = Memory
