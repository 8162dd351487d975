-- The leaves and the sinks of a network.
use Rattle.std.specs.Prelude.{ℕ, ◌+◌, List, ◌++◌, length, map}
use Rattle.network.specs.NetworkData.{NetworkData}

-- the leaves are the inputs and the latch outputs
abbrev pub leaf_count : NetworkData → ℕ
leaf_count n = n.inputs + length n.latches

-- the signals of the sinks: the outputs, then the latch inputs
abbrev pub sink_signals : NetworkData → List ℕ
sink_signals n = n.outputs ++ map (λ l. l.input) n.latches
