-- What is read of a circuit that realises a network in time is what the network gives.
use Rattle.std.proofs.Common.{◌≡◌, ℕ, ◌+◌, All, Bool, List, [], ◌∷◌, ◌++◌, length, map, refl, sym, subst, ap, ◌∙◌}
use Rattle.std.proofs.lemmas.List.Elements.{All-from_recursion, recursion_from_All}
use Rattle.dom_base.proofs.Lists.{All-at, AllByRecursion-left, slice_get-behind}
use Rattle.deck.specs.CircuitData.{CircuitData}
use Rattle.deck.specs.declared.role.Roles.{Roles}
use Rattle.network.specs.NetworkData.{NetworkData}
use Rattle.network.specs.Networks.{IsNetwork}
use Rattle.net_run.specs.Runs.{Cycle, IsNetworkCycle, IsNetworkRun, IsNetworkRunFrom}
use Rattle.net_run.proofs.OneRun.{one_run}
use Rattle.port_runs.specs.Environment.{bit}
use Rattle.port_runs.specs.declared.clocking.Clocking.{Clocking}
use Rattle.port_runs.proofs.Order.{snoc_same}
use Rattle.trace_tool.specs.Courses.{State}
use Rattle.trace_tool.specs.Traces.{outputs}
use Rattle.verdict_law.specs.Laws.{RealisesInTime}
use Rattle.verdict_law.proofs.PortCycles.{IsReadAt}

-- the state after cycles
abbrev pub state_behind : List Bool → List Cycle → List Bool
state_behind state [] = state
state_behind state (c ∷ cycles) = state_behind c.next cycles

pub state_behind-push : (state : List Bool) (cycles : List Cycle) (c : Cycle) → state_behind state (cycles ++ c ∷ []) ≡ c.next
state_behind-push state [] c = refl
state_behind-push state (d ∷ cycles) c = state_behind-push d.next cycles c

-- one cycle more
pub run_push : (n : NetworkData) (state : List Bool) (stream : List (List Bool)) (cycles : List Cycle) (pins : List Bool) (c : Cycle) → IsNetworkRunFrom n state stream cycles
    → IsNetworkCycle n pins (state_behind state cycles) c → IsNetworkRunFrom n state (stream ++ pins ∷ []) (cycles ++ c ∷ [])
run_push n state [] [] pins c run at = (at, tt)
run_push n state [] (d ∷ cycles) pins c run at = absurd run
run_push n state (p ∷ stream) [] pins c run at = absurd run
run_push n state (p ∷ stream) (d ∷ cycles) pins c run at = (run.0, run_push n d.next stream cycles pins c run.1 at)

abbrev pub FitsPins : NetworkData → List (List Bool) → Type 0
FitsPins n stream = All (λ pins. length pins ≡ n.inputs) stream

pub fits_front : (n : NetworkData) (front rest : List (List Bool)) → FitsPins n (front ++ rest) → FitsPins n front
fits_front n front rest fits =
    All-from_recursion (λ pins. length pins ≡ n.inputs) front
    (AllByRecursion-left (λ pins. length pins ≡ n.inputs) front rest (recursion_from_All (λ pins. length pins ≡ n.inputs) (front ++ rest) fits))

-- pins behind others
pub long_at : (n : NetworkData) (done stream : List (List Bool)) (pins : List Bool) → FitsPins n (done ++ pins ∷ stream) → length pins ≡ n.inputs
long_at n done stream pins fits =
    All-at (λ pins. length pins ≡ n.inputs) (done ++ pins ∷ stream) (length done + 0) pins fits (slice_get-behind done (pins ∷ stream) 0)

module _ (clocking : Clocking) (network : NetworkData) (c : CircuitData) (roles : Roles) (order : ℕ → ℕ → ℕ → Type 0)
    (is_network : IsNetwork network) (realises : RealisesInTime clocking network c roles) where
  -- what is read is what the network gives
  pub reads_wanted : (stream : List (List Bool)) (earlier : List Cycle) (wanted : Cycle) (read : State) → FitsPins network stream
      → IsNetworkRun network stream (earlier ++ wanted ∷ []) → IsReadAt clocking c roles order stream read.values
      → outputs roles read.values ≡ map bit wanted.outputs
  reads_wanted stream earlier wanted read fits run at =
      let has = realises.reads at.steps (record at.world { values = read.values }) at.run at.reading in
      let one = one_run network stream is_network fits in
      let theirs = (one.1).only ((has.is_cycle).earlier ++ has.cycle ∷ [])
      (subst (λ s. IsNetworkRun network s ((has.is_cycle).earlier ++ has.cycle ∷ [])) at.stream_is (has.is_cycle).run) in
      let ours = (one.1).only (earlier ++ wanted ∷ []) run in
      has.outputs_are
      ∙ ap (λ (x : Cycle). map bit x.outputs) (snoc_same (has.is_cycle).earlier earlier has.cycle wanted (theirs ∙ sym ours)).1
