-- The network of the bytes of a file of BLIF, the Berkeley Logic Interchange Format, and the text of its run.
use Rattle.std.specs.Prelude.{ℕ, ◌≡◌, ◌≤◌, Bool, List, None, length, map}
use Rattle.std.specs.List.{enumerate_from, flat_map, zip}
use Rattle.dom_io.specs.Held.{file_limit}
use Rattle.blif_ast.specs.BlifFileData.{BlifFileData}
use Rattle.blif_ast.specs.Reading.{IsBlifFaultAt, IsFileOf}
use Rattle.net_flatten.specs.Flattening.{IsNetworkOf}
use Rattle.network.specs.NetworkData.{NetworkData}
use Rattle.net_run.specs.Runs.{Cycle, IsNetworkRun}
use Rattle.stim_text.specs.CycleLines.{cycle_line}
use Rattle.stim_text.specs.CycleRowData.{CycleRowData}
use Rattle.stim_text.specs.Stimuli.{IsStimFaultAt, IsStimulusOf}
use Rattle.stim_text.specs.declared.fault.StimKind.{StimKind}
use Rattle.trace_tool.specs.CosimRefusals.{HasFlatRefusal}
use Rattle.trace_tool.specs.declared.fault.TraceFault.{TraceFault}
use Rattle.trace_tool.specs.declared.fault.TraceFault.TheVariants as trace_fault
use Rattle.command_answers.specs.Bits.{tri_of}

-- no more bytes than a file may have, which are accepted, and the network of their file
pub record HasNetwork (bytes : List ℕ) (network : NetworkData) : Type 0 where
  pub within : length bytes ≤ file_limit
  pub file : BlifFileData
  pub accepted : IsFileOf bytes file
  pub network_is : IsNetworkOf file network

-- a cycle of a run as it is printed
abbrev pub run_row : ℕ → List Bool → Cycle → CycleRowData
run_row number pins c = record { cycle = number; pins = pins; outs = map tri_of c.outputs; events = None }

-- the lines of cycles, which are numbered from a number on, for the values at the inputs in each
abbrev pub run_lines : ℕ → List (List Bool) → List Cycle → List ℕ
run_lines number stream cycles =
    flat_map (λ (row : ℕ × (List Bool × Cycle)). cycle_line (run_row row.0 row.1.0 row.1.1)) (enumerate_from number (zip stream cycles))

-- the text is the run of a network over these values at its inputs
pub record IsRunText (network : NetworkData) (stream : List (List Bool)) (text : List ℕ) : Type 0 where
  pub cycles : List Cycle
  pub run : IsNetworkRun network stream cycles
  pub text_is : text ≡ run_lines 0 stream cycles

-- the text is the run of the network of bytes over the stimulus of others
pub record IsRunOf (bytes stim text : List ℕ) : Type 0 where
  pub network : NetworkData
  pub has : HasNetwork bytes network
  pub stream : List (List Bool)
  pub stimulus : IsStimulusOf network.inputs stim stream
  pub text_is : IsRunText network stream text

-- the bytes have a network, and others are no stimulus for it
pub record IsStimRefused (bytes stim : List ℕ) (line : ℕ) (kind : StimKind) : Type 0 where
  pub network : NetworkData
  pub has : HasNetwork bytes network
  pub fault : IsStimFaultAt network.inputs stim line kind

-- bytes have no run over the stimulus of others, for this fault; out of memory comes for any
abbrev pub IsRunRefused : (bytes stim : List ℕ) → TraceFault → Type 0
IsRunRefused bytes stim (trace_fault.Blif line kind) = IsBlifFaultAt bytes line kind
IsRunRefused bytes stim (trace_fault.Flat fault) = HasFlatRefusal bytes fault
IsRunRefused bytes stim (trace_fault.Deck line kind) = ⊥
IsRunRefused bytes stim (trace_fault.Ports place) = ⊥
IsRunRefused bytes stim (trace_fault.NoNet name) = ⊥
IsRunRefused bytes stim (trace_fault.Stim line kind) = IsStimRefused bytes stim line kind
IsRunRefused bytes stim trace_fault.Memory = Unit {0}
