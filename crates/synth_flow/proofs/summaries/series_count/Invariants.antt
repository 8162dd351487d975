use Rattle.std.proofs.Common.{◌≡◌, ◌≤◌, count_by, take}
use Rattle.style_costs.specs.Styles.{is_series}
use Rattle.synth_flow.proofs.summaries.series_count.Given as goal

-- the series pairs of the first ones are counted
abbrev pub invariant-pairs : goal.invariant-pairs
invariant-pairs l = (l.count ≡ count_by is_series (take l.pair-index l.pairs)) × (l.count ≤ l.pair-index)
