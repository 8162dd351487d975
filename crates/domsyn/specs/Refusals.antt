-- Why a file is refused, and the line that reports it.
use Rattle.std.specs.Prelude.{ℕ, ◌≡◌, ◌≤◌, ◌<◌, ◌⊎◌, List, [], ◌++◌, Option, None, Some, length, codes}
use Rattle.std.specs.Fmt.{decimal}
use Rattle.dom_io.specs.Held.{file_limit}
use Rattle.blif_ast.specs.BlifFileData.{BlifFileData}
use Rattle.blif_ast.specs.declared.kind.BlifKind.{BlifKind}
use Rattle.blif_ast.specs.Faults.{blif_kind_number, blif_kind_word}
use Rattle.blif_ast.specs.Reading.{IsBlifFaultAt, IsFileOf}
use Rattle.deck.specs.DeckKinds.{deck_kind_number, deck_kind_word}
use Rattle.model_calls.specs.declared.fault.FlatFault.TheVariants as flat_fault
use Rattle.model_calls.specs.declared.fault.FlatKind.{FlatKind}
use Rattle.model_calls.specs.declared.fault.Limit.{Limit}
use Rattle.model_calls.specs.Kinds.{flat_kind_number, flat_kind_word, limit_word, too_many_number}
use Rattle.model_calls.specs.Refusal.{Refusal as Hierarchy}
use Rattle.model_calls.specs.Refusal as hierarchy
use Rattle.model_calls.specs.Refusals.{IsRefusal}
use Rattle.command_answers.specs.declared.fault.Fault.{Fault}
use Rattle.command_answers.specs.declared.fault.Fault.TheVariants as any_fault
use Rattle.command_answers.specs.Methods.{HaveTooManySinks}
use Rattle.command_answers.specs.Networks.{IsStimRefused}
use Rattle.command_words.specs.declared.command.Method.{Method}
use Rattle.command_words.specs.declared.command.Method.TheVariants.{Compound, Exact, Plain, Skew}
use Rattle.domsyn.specs.declared.refusal.Refusal.{Refusal}
use Rattle.domsyn.specs.declared.refusal.Refusal.TheVariants.{TooLong, Blif, Flat, TooMany, TooManySinks, Deck, Ports, NoNet, Stim}
use Rattle.stim_text.specs.Stimuli.{stim_kind_word}
use Rattle.trace_tool.specs.declared.fault.TraceFault.{TraceFault}
use Rattle.trace_tool.specs.declared.fault.TraceFault.TheVariants as trace_fault

-- no more bytes than a file may have, with a fault of this kind at this line: the first line with a fault, and its smallest kind
pub record IsFaultyAt (bytes : List ℕ) (line : ℕ) (kind : BlifKind) : Type 0 where
  pub within : length bytes ≤ file_limit
  pub fault : IsBlifFaultAt bytes line kind

-- no more bytes than a file may have, which are accepted, but whose file is refused for this
pub record IsHierarchyRefused (bytes : List ℕ) (why : Hierarchy) : Type 0 where
  pub within : length bytes ≤ file_limit
  pub file : BlifFileData
  pub accepted : IsFileOf bytes file
  pub refused : IsRefusal file why

-- a file of these bytes has no network, for this cause
abbrev pub HasNoNetworkFor : List ℕ → Refusal → Type 0
HasNoNetworkFor bytes TooLong = file_limit < length bytes
HasNoNetworkFor bytes (Blif line kind) = IsFaultyAt bytes line kind
HasNoNetworkFor bytes (Flat line kind name) = IsHierarchyRefused bytes (hierarchy.At kind line name)
HasNoNetworkFor bytes (TooMany limit count) = IsHierarchyRefused bytes (hierarchy.TooMany limit count)
HasNoNetworkFor bytes (TooManySinks count) = ⊥
HasNoNetworkFor bytes (Deck line kind) = ⊥
HasNoNetworkFor bytes (Ports place) = ⊥
HasNoNetworkFor bytes (NoNet name) = ⊥
HasNoNetworkFor bytes (Stim line kind) = ⊥

-- bytes of a file have no deck by the method for this cause: no network, or too many sinks for exact signs
abbrev pub HasNoDeckFor : Method → List ℕ → Refusal → Type 0
HasNoDeckFor (Plain version) bytes why = HasNoNetworkFor bytes why
HasNoDeckFor Exact bytes why = HasNoNetworkFor bytes why ⊎ ((count : ℕ) × HaveTooManySinks bytes count × (why ≡ TooManySinks count))
HasNoDeckFor Skew bytes why = HasNoNetworkFor bytes why
HasNoDeckFor Compound bytes why = HasNoNetworkFor bytes why

-- the network of bytes isn't run over the stimulus of others, for this cause
abbrev pub IsNotRunFor : (bytes stim : List ℕ) → Refusal → Type 0
IsNotRunFor bytes stim TooLong = ⊥
IsNotRunFor bytes stim (Blif line kind) = HasNoNetworkFor bytes (Blif line kind)
IsNotRunFor bytes stim (Flat line kind name) = HasNoNetworkFor bytes (Flat line kind name)
IsNotRunFor bytes stim (TooMany limit count) = HasNoNetworkFor bytes (TooMany limit count)
IsNotRunFor bytes stim (TooManySinks count) = ⊥
IsNotRunFor bytes stim (Deck line kind) = ⊥
IsNotRunFor bytes stim (Ports place) = ⊥
IsNotRunFor bytes stim (NoNet name) = ⊥
IsNotRunFor bytes stim (Stim line kind) = IsStimRefused bytes stim line kind

-- the text of a kind of a hierarchy with its line and name, and of too many of something
abbrev pub named_text : ℕ → FlatKind → List ℕ → List ℕ
named_text line kind name =
    codes ":" ++ decimal line ++ codes ": blif " ++ decimal (flat_kind_number kind) ++ codes " " ++ flat_kind_word kind
    ++ codes " " ++ name ++ codes "\n"

abbrev pub count_text : Limit → ℕ → List ℕ
count_text limit count =
    codes ": blif " ++ decimal too_many_number ++ codes " TooMany " ++ limit_word limit ++ codes " " ++ decimal count ++ codes "\n"

-- of a file, a deck and a stimulus the one that a cause is about
abbrev pub about : (file deck stim : List ℕ) → Refusal → List ℕ
about file deck stim TooLong = file
about file deck stim (Blif line kind) = file
about file deck stim (Flat line kind name) = file
about file deck stim (TooMany limit count) = file
about file deck stim (TooManySinks count) = file
about file deck stim (Deck line kind) = deck
about file deck stim (Ports place) = deck
about file deck stim (NoNet name) = deck
about file deck stim (Stim line kind) = stim

-- the cause that is reported of a fault of a simulation; none where it is out of memory
abbrev pub refusal_of : TraceFault → Option Refusal
refusal_of (trace_fault.Blif line kind) = Some (Blif line kind)
refusal_of (trace_fault.Flat (flat_fault.At line kind name)) = Some (Flat line kind name)
refusal_of (trace_fault.Flat (flat_fault.TooMany limit count)) = Some (TooMany limit count)
refusal_of (trace_fault.Flat flat_fault.Memory) = None
refusal_of (trace_fault.Deck line kind) = Some (Deck line kind)
refusal_of (trace_fault.Ports place) = Some (Ports place)
refusal_of (trace_fault.NoNet name) = Some (NoNet name)
refusal_of (trace_fault.Stim line kind) = Some (Stim line kind)
refusal_of trace_fault.Memory = None

-- and of a fault of any command
abbrev pub cause_of : Fault → Option Refusal
cause_of (any_fault.Traced fault) = refusal_of fault
cause_of (any_fault.TooManySinks count) = Some (TooManySinks count)

-- a file, a deck and a stimulus are refused for a fault, which is reported as this cause, of the one that the cause is about
pub record IsFaulty (Refuses : TraceFault → Type 0) (file deck stim name : List ℕ) (why : Refusal) : Type 0 where
  pub fault : TraceFault
  pub refuses : Refuses fault
  pub cause : refusal_of fault ≡ Some why
  pub name_is : name ≡ about file deck stim why

-- what the line for a cause says behind its subject
abbrev pub refusal_text : Refusal → List ℕ
refusal_text TooLong = codes ": too long\n"
refusal_text (Blif line kind) =
    codes ":" ++ decimal line ++ codes ": blif " ++ decimal (blif_kind_number kind) ++ codes " " ++ blif_kind_word kind ++ codes "\n"
refusal_text (Flat line kind name) = named_text line kind name
refusal_text (TooMany limit count) = count_text limit count
refusal_text (TooManySinks count) = codes ": too many sinks " ++ decimal count ++ codes "\n"
refusal_text (Deck line kind) =
    codes ":" ++ decimal line ++ codes ": deck " ++ decimal (deck_kind_number kind) ++ codes " " ++ deck_kind_word kind ++ codes "\n"
refusal_text (Ports place) = codes ": deck port " ++ decimal place ++ codes "\n"
refusal_text (NoNet name) = codes "no net " ++ name ++ codes "\n"
refusal_text (Stim line kind) = codes ":" ++ decimal line ++ codes ": stim " ++ stim_kind_word kind ++ codes "\n"

-- the subject of the line: the file's name; the line of a net that the deck doesn't have names no file
abbrev pub subject : List ℕ → Refusal → List ℕ
subject file TooLong = file
subject file (Blif line kind) = file
subject file (Flat line kind name) = file
subject file (TooMany limit count) = file
subject file (TooManySinks count) = file
subject file (Deck line kind) = file
subject file (Ports place) = file
subject file (NoNet name) = []
subject file (Stim line kind) = file

-- the line on `err` for a file that is refused
abbrev pub refusal_line : List ℕ → Refusal → List ℕ
refusal_line file why = codes "domsyn: " ++ subject file why ++ refusal_text why
