-- What a network keeps: tables read only signals before their own, with one letter for each input in each row, and
-- sinks are signals of the network.
use Rattle.std.specs.Prelude.{ℕ, ◌+◌, ◌<◌, ◌≡◌, ◌↔◌, Bool, true, Some, slice_get, length, map, All}
use Rattle.blif_ast.specs.TableValue.{IsOneAt}
use Rattle.gate_decompose.specs.declared.gates.Ref.{Ref}
use Rattle.gate_decompose.specs.GateNodes.{AreGatesOf}
use Rattle.gate_decompose.specs.GatesData.{GatesData}
use Rattle.network.specs.NetworkData.{NetTableData, NetworkData}
use Rattle.network.specs.Networks.{IsNetwork}
use Rattle.gate_decompose.specs.Sinks.{leaf_count, sink_signals}
use Rattle.gate_decompose.specs.Terms.{table_term, term_value}
use Rattle.gate_decompose.specs.Values.{AreNodeValues, AreSignalValues, ref_value}

pub record IsOrderedNetwork (network : NetworkData) : Type 0 where
  pub reads : (k : ℕ) (t : NetTableData) → slice_get network.tables k ≡ Some t
      → All (λ signal. signal < leaf_count network + k) t.inputs
  pub fits : (k : ℕ) (t : NetTableData) → slice_get network.tables k ≡ Some t → All (λ row. length row ≡ length t.inputs) t.rows
  pub sinks : All (λ signal. signal < leaf_count network + length network.tables) (sink_signals network)

-- every network keeps it
abbrev pub NetworksAreOrdered : Type 0
NetworksAreOrdered = (network : NetworkData) → IsNetwork network → IsOrderedNetwork network

-- the term of a table has the value of the table
abbrev pub TermsHaveValues : Type 0
TermsHaveValues =
    (t : NetTableData) (value : ℕ → Bool) → All (λ row. length row ≡ length t.inputs) t.rows
    → (term_value value (table_term t) ≡ true) ↔ IsOneAt t.on t.rows (map value t.inputs)

-- each sink of a network's gates has the value of its signal
abbrev pub SinksHaveValues : Type 0
SinksHaveValues =
    (network : NetworkData) (gates : GatesData) (value node : ℕ → Bool)
    → IsOrderedNetwork network → AreGatesOf network gates → AreSignalValues network value → AreNodeValues gates value node
    → (k : ℕ) (r : Ref) (signal : ℕ) → slice_get gates.sinks k ≡ Some r → slice_get (sink_signals network) k ≡ Some signal
    → ref_value value node r ≡ value signal
