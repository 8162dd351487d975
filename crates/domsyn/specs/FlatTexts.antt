-- What is proved of the text that `flat` puts out: read as Berkeley Logic Interchange Format, however long it is, it is accepted and refused
-- for nothing, and its network does what the network of the file does. (The program refuses a file that is too long.)
use Rattle.std.specs.Prelude.{ℕ, ◌≡◌, ◌↔◌, Bool, List, map, take}
use Rattle.blif_ast.specs.Printed.{printed}
use Rattle.command_answers.specs.Networks.{HasNetwork}
use Rattle.command_words.specs.Commands.{Asks, Flat}
use Rattle.net_flatten.specs.OneModel.{file_of, name_at}
use Rattle.net_run.specs.Runs.{Cycle, IsNetworkRun, start}
use Rattle.network.specs.NetworkData.{NetworkData}
use Rattle.trace_tool.specs.CosimRefusals.{HasNetworkOf}
use Rattle.domsyn.specs.Outcomes.{Files, IsFile}

-- a network does what another does: the names of its model, of its inputs and of its outputs in order are the same, so are the start values
-- of its latches, and over each stream it has the same runs, with the same values of the latches after each cycle
pub record DoesTheSame (network other : NetworkData) : Type 0 where
  pub name_is : other.name ≡ network.name
  pub inputs_are : take other.inputs other.names ≡ take network.inputs network.names
  pub outputs_are : map (name_at other) other.outputs ≡ map (name_at network) network.outputs
  pub starts_are : start other ≡ start network
  pub runs : (stream : List (List Bool)) (cycles : List Cycle) → IsNetworkRun network stream cycles ↔ IsNetworkRun other stream cycles

-- the text is accepted and refused for nothing, as it has a network, which does what this one does
pub record IsTextOf (network : NetworkData) (text : List ℕ) : Type 0 where
  pub other : NetworkData
  pub has : HasNetworkOf text other
  pub same : DoesTheSame network other

-- the text of the file of one model of the network of bytes is such a text
abbrev pub FlatReadsBack : Type 0
FlatReadsBack = (bytes : List ℕ) (network : NetworkData) → HasNetwork bytes network → IsTextOf network (printed (file_of network))

-- the text is such a text of the network of the file
pub record IsFlatOfFile (files : Files) (file text : List ℕ) : Type 0 where
  pub bytes : List ℕ
  pub is_file : IsFile files file bytes
  pub network : NetworkData
  pub has : HasNetwork bytes network
  pub is_text : IsTextOf network text

-- where the words ask for the file as one model, such a text is put out
abbrev pub GivesFlatText : Files → List (List ℕ) → (List ℕ → Type 0) → Type 0
GivesFlatText files words Puts = (file : List ℕ) → Asks words (Flat file) → (text : List ℕ) × IsFlatOfFile files file text × Puts text
