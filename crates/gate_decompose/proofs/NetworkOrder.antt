-- Every network keeps its order.
use Rattle.std.proofs.Common.{◌<◌, length, map, All, subst}
use Rattle.std.proofs.lemmas.List.Elements.{All-append, All-map}
use Rattle.network.specs.declared.network.NetLatch.{NetLatch}
use Rattle.gate_decompose.specs.NetworkOrder.{NetworksAreOrdered}
use Rattle.gate_decompose.specs.Sinks.{sink_signals}

pub networks_are_ordered : NetworksAreOrdered
networks_are_ordered = λ n h. record {
  reads = λ k t e. (h.tables k t e).inputs;
  fits = λ k t e. (h.tables k t e).rows;
  sinks = subst (λ m. All (λ signal. signal < m) (sink_signals n)) h.count
      (All-append (λ signal. signal < length n.names) n.outputs (map (λ (l : NetLatch). l.input) n.latches) h.outputs
      (All-map (λ signal. signal < length n.names) (λ (l : NetLatch). l.input) n.latches h.latches));
}
