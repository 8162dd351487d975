-- Exactly one run of a network over a stream of values at its inputs.
use Rattle.std.proofs.Common.{◌≡◌, ℕ, Bool, List, [], ◌∷◌, map, length, refl, ap, sym, ◌∙◌, subst}
use Rattle.std.specs.Prelude.{All}
use Rattle.std.specs.List.{AllByRecursion}
use Rattle.std.proofs.lemmas.List.{length-map}
use Rattle.std.proofs.lemmas.List.Elements.{recursion_from_All}
use Rattle.network.specs.declared.network.NetLatch.{NetLatch}
use Rattle.network.specs.NetworkData.{NetworkData}
use Rattle.network.specs.Networks.{IsNetwork}
use Rattle.net_run.specs.Laws.{IsOneRun, IsOneValuation}
use Rattle.net_run.specs.Runs.{Cycle, IsNetworkCycle, IsNetworkRunFrom, start, value_at}
use Rattle.net_run.proofs.Valuations.{one_valuation}

module _ (n : NetworkData) (is : IsNetwork n) where
  -- what the outputs and latches read
  abbrev pub cycle_at : List Bool → Cycle
  cycle_at values = record { outputs = map (value_at values) n.outputs; next = map (λ (l : NetLatch). value_at values l.input) n.latches }

  cycle_is : (pins state : List Bool) (v : (values : List Bool) × IsOneValuation n pins state values) → IsNetworkCycle n pins state (cycle_at v.0)
  cycle_is pins state v = record { values = v.0; valuation = v.1.is_valuation; outputs_are = refl; next_is = refl }

  cycle_once : (pins state : List Bool) (v : (values : List Bool) × IsOneValuation n pins state values) (d : Cycle) → IsNetworkCycle n pins state d → d ≡ cycle_at v.0
  cycle_once pins state v d x =
      let same = v.1.only x.values x.valuation in
      let outputs = x.outputs_are ∙ ap (λ w. map (value_at w) n.outputs) same in
      let next = x.next_is ∙ ap (λ w. map (λ (l : NetLatch). value_at w l.input) n.latches) same in
      λ i. record { outputs = outputs i; next = next i }

  one_from : (stream : List (List Bool)) (state : List Bool) → AllByRecursion (λ pins. length pins ≡ n.inputs) stream → length state ≡ length n.latches
      → (cycles : List Cycle) × IsNetworkRunFrom n state stream cycles × ((other : List Cycle) → IsNetworkRunFrom n state stream other → other ≡ cycles)
  one_from [] state widths count = ([], tt, only)
    where
      only : (other : List Cycle) → IsNetworkRunFrom n state [] other → other ≡ []
      only [] run = refl
      only (d ∷ ds) run = absurd run
  one_from (pins ∷ stream) state widths count =
      by (one_valuation n pins state is widths.0 count) (λ s. one_from stream s widths.1)
    where
      by : (v : (values : List Bool) × IsOneValuation n pins state values)
          → ((s : List Bool) → length s ≡ length n.latches → (cycles : List Cycle) × IsNetworkRunFrom n s stream cycles × ((other : List Cycle) → IsNetworkRunFrom n s stream other → other ≡ cycles))
          → (cycles : List Cycle) × IsNetworkRunFrom n state (pins ∷ stream) cycles × ((other : List Cycle) → IsNetworkRunFrom n state (pins ∷ stream) other → other ≡ cycles)
      by v behind =
          let c = cycle_at v.0 in
          let more = behind c.next (length-map n.latches (λ (l : NetLatch). value_at v.0 l.input)) in
          (c ∷ more.0, (cycle_is pins state v, more.1), only)
        where
          only : (other : List Cycle) → IsNetworkRunFrom n state (pins ∷ stream) other → other ≡ cycle_at v.0 ∷ (behind (cycle_at v.0).next (length-map n.latches (λ (l : NetLatch). value_at v.0 l.input))).0
          only [] run = absurd run
          only (d ∷ ds) run =
              let same = cycle_once pins state v d run.0 in
              let rest = (behind (cycle_at v.0).next (length-map n.latches (λ (l : NetLatch). value_at v.0 l.input))).2 ds (subst (λ (c : Cycle). IsNetworkRunFrom n c.next stream ds) same run.1) in
              λ i. same i ∷ rest i

pub one_run : (n : NetworkData) (stream : List (List Bool)) → IsNetwork n → All (λ pins. length pins ≡ n.inputs) stream → (cycles : List Cycle) × IsOneRun n stream cycles
one_run n stream is widths =
    let run = one_from n is stream (start n) (recursion_from_All (λ pins. length pins ≡ n.inputs) stream widths) (length-map n.latches (λ (l : NetLatch). l.init)) in
    (run.0, record { is_run = run.1; only = run.2 })
