-- What holds of each network of tables and latches and of its runs.
use Rattle.std.specs.Prelude.{◌≡◌, ◌↔◌, All, Bool, List, length}
use Rattle.net_flatten.specs.Flattening.{IsNetworkOf}
use Rattle.network.specs.NetworkData.{NetworkData}
use Rattle.network.specs.Networks.{IsNetwork}
use Rattle.net_flatten.specs.OneModel.{file_of}
use Rattle.net_run.specs.Runs.{Cycle, IsNetworkRun, IsValuation}

-- values are the one valuation
pub record IsOneValuation (n : NetworkData) (pins state values : List Bool) : Type 0 where
  pub is_valuation : IsValuation n pins state values
  pub only : (other : List Bool) → IsValuation n pins state other → other ≡ values

-- for all values at the inputs and latches of a network there is exactly one valuation
abbrev pub HasOneValuation : Type 0
HasOneValuation =
    (n : NetworkData) (pins state : List Bool) → IsNetwork n → length pins ≡ n.inputs → length state ≡ length n.latches
    → (values : List Bool) × IsOneValuation n pins state values

-- cycles are the one run of a stream
pub record IsOneRun (n : NetworkData) (stream : List (List Bool)) (cycles : List Cycle) : Type 0 where
  pub is_run : IsNetworkRun n stream cycles
  pub only : (other : List Cycle) → IsNetworkRun n stream other → other ≡ cycles

-- for each stream of values at the inputs there is exactly one run
abbrev pub HasOneRun : Type 0
HasOneRun =
    (n : NetworkData) (stream : List (List Bool)) → IsNetwork n → All (λ pins. length pins ≡ n.inputs) stream
    → (cycles : List Cycle) × IsOneRun n stream cycles

-- a network and the network of its file of one model have the same runs
abbrev pub OneModelRunsAlike : Type 0
OneModelRunsAlike =
    (n m : NetworkData) → IsNetwork n → IsNetworkOf (file_of n) m
    → (stream : List (List Bool)) (cycles : List Cycle) → IsNetworkRun n stream cycles ↔ IsNetworkRun m stream cycles
