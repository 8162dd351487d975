-- A runner of a network: what it keeps from the start, and its cycles.
use Rattle.std.proofs.Common.{◌≡◌, ℕ, ◌<◌, ◌+◌, Bool, true, List, ◌++◌, map, length, take, drop, Some, ap, sym, ◌∙◌, subst, arith, append_assoc}
use Rattle.std.specs.Prelude.{◌↔◌, All, slice_get}
use Rattle.std.proofs.Math.Seq.{drop-append_seam, take-append_seam}
use Rattle.std.proofs.lemmas.List.{length-append, length-map, take-append-drop}
use Rattle.std.proofs.lemmas.List.Elements.{All-from_recursion, recursion_from_All}
use Rattle.dom_base.proofs.Lists.{AllByRecursion-map}
use Rattle.part_numbers.proofs.Ranges.{map_map}
use Rattle.blif_ast.specs.TableValue.{IsOneAt}
use Rattle.network.specs.declared.network.NetLatch.{NetLatch}
use Rattle.network.specs.NetworkData.{NetTableData, NetworkData}
use Rattle.network.specs.Networks.{first_table}
use Rattle.net_run.specs.RunnerData.{AreTablesFrom, AreValuesOf, IsRunner, RunnerData, RunsNetwork, runner_signal_count}
use Rattle.net_run.specs.Runs.{Cycle, IsNetworkCycle, value_at}

-- a list whose elements are all replaced
pub replaced : (xs items : List Bool) (len : ℕ) → length items ≡ len → length xs ≡ length items → take len (xs ++ drop (length xs) items) ≡ xs
replaced xs items len count same = ap (λ m. take m (xs ++ drop (length xs) items)) (sym count ∙ sym same) ∙ take-append_seam xs (drop (length xs) items)

module _ (n : NetworkData) (r : RunnerData) (runs : RunsNetwork n r) where
  latch_count : length r.latches ≡ length n.latches
  latch_count = ap length runs.latches_are ∙ length-map n.latches (λ (l : NetLatch). l.input)

  first : r.inputs + length r.latches ≡ first_table n
  first = omega (arith, latch_count, runs.inputs_are)

  signals : runner_signal_count r ≡ length n.names
  signals = omega (arith, first, ap length runs.tables_are, runs.network.count)

  within : (xs : List ℕ) → All (λ s. s < length n.names) xs → All (λ s. s < runner_signal_count r) xs
  within xs all = subst (λ m. All (λ s. s < m) xs) (sym signals) all

  pub runner_of_network : (values outs : List Bool) → length r.state ≡ length n.latches → length values ≡ length n.names → length outs ≡ length r.outputs → IsRunner r values outs
  runner_of_network values outs state room outs_room = record {
    state = state ∙ sym latch_count;
    tables = subst (λ ts. AreTablesFrom (r.inputs + length r.latches) ts) (sym runs.tables_are) (subst (λ m. AreTablesFrom m n.tables) (sym first) runs.network.tables);
    latches = within r.latches (subst (All (λ s. s < length n.names)) (sym runs.latches_are)
        (All-from_recursion (λ s. s < length n.names) (map (λ (l : NetLatch). l.input) n.latches)
        (AllByRecursion-map (λ s. s < length n.names) (λ (l : NetLatch). l.input) n.latches (recursion_from_All (λ (l : NetLatch). l.input < length n.names) n.latches runs.network.latches))));
    outputs = within r.outputs (subst (All (λ s. s < length n.names)) (sym runs.outputs_are) runs.network.outputs);
    room = room ∙ sym signals;
    outs_room = outs_room;
  }

  -- values of all signals give a cycle
  pub cycle_of_network : (pins values : List Bool) (c : Cycle) → length pins ≡ r.inputs → length r.state ≡ length r.latches → AreValuesOf (pins ++ r.state) r.tables values
      → c.outputs ≡ map (value_at values) r.outputs → c.next ≡ map (value_at values) r.latches → IsNetworkCycle n pins r.state c
  cycle_of_network pins values c p q are outputs next = record {
    values = values;
    valuation = record {
      count = omega (arith, are.count, count, ap length runs.tables_are, runs.network.count);
      inputs = ap (take n.inputs) whole ∙ ap (λ m. take m (pins ++ (r.state ++ rest))) (sym inputs) ∙ take-append_seam pins (r.state ++ rest);
      latches =
          ap (λ w. take (length n.latches) (drop n.inputs w)) whole
          ∙ ap (λ m. take (length n.latches) (drop m (pins ++ (r.state ++ rest)))) (sym inputs)
          ∙ ap (take (length n.latches)) (drop-append_seam pins (r.state ++ rest))
          ∙ ap (λ m. take m (r.state ++ rest)) (sym state) ∙ take-append_seam r.state rest;
      tables = subst (Holds (first_table n)) runs.tables_are (subst (λ m. Holds m r.tables) count are.hold);
    };
    outputs_are = outputs ∙ ap (map (value_at values)) runs.outputs_are;
    next_is = next ∙ ap (map (value_at values)) runs.latches_are ∙ map_map (value_at values) (λ (l : NetLatch). l.input) n.latches;
  }
    where
      Holds : ℕ → List NetTableData → Type 0
      Holds m ts = (k : ℕ) (t : NetTableData) → slice_get ts k ≡ Some t → (value_at values (m + k) ≡ true) ↔ IsOneAt t.on t.rows (map (value_at values) t.inputs)

      inputs : length pins ≡ n.inputs
      inputs = p ∙ runs.inputs_are

      state : length r.state ≡ length n.latches
      state = q ∙ latch_count

      count : length (pins ++ r.state) ≡ first_table n
      count = omega (arith, length-append pins r.state, inputs, state)

      rest : List Bool
      rest = drop (length (pins ++ r.state)) values

      whole : values ≡ pins ++ (r.state ++ rest)
      whole = sym (take-append-drop (length (pins ++ r.state)) values) ∙ ap (λ l. l ++ rest) are.begin ∙ append_assoc pins r.state rest
