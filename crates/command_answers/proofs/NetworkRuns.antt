-- A run that is printed cycle by cycle.
use Rattle.std.proofs.Common.{◌≡◌, ℕ, ◌≤◌, ◌+◌, Bool, List, [], ◌∷◌, ◌++◌, length, drop, refl, sym, ap, ◌∙◌, subst, append_assoc, append-nil}
use Rattle.std.specs.Prelude.{Some, slice_get}
use Rattle.std.proofs.Math.ListN.{drop_of_length-le}
use Rattle.dom_base.proofs.Lists.{drop_next}
use Rattle.network.specs.NetworkData.{NetworkData}
use Rattle.net_run.specs.RunnerData.{RunnerData, RunsNetwork}
use Rattle.net_run.specs.Runs.{Cycle, IsNetworkRun, IsNetworkRunFrom, start}
use Rattle.stim_text.specs.CycleLines.{cycle_line}
use Rattle.command_answers.specs.NetworkRuns.{PutsCycle}
use Rattle.command_answers.specs.Networks.{IsRunText, run_lines, run_row}

module _ (n : NetworkData) (stream : List (List Bool)) where
  -- cycles that go on from a runner behind a text make a run and its text
  pub record Whole (k : ℕ) (text : List ℕ) (rest : List Cycle) : Type 0 where
    pub all : List Cycle
    pub run : IsNetworkRun n stream all
    pub text_is : text ++ run_lines k (drop k stream) rest ≡ run_lines 0 stream all

  -- the cycles before one have run, and their lines are this text
  pub record HasRunTo (k : ℕ) (r : RunnerData) (text : List ℕ) : Type 0 where
    pub runs : RunsNetwork n r
    pub goes_on : (rest : List Cycle) → IsNetworkRunFrom n r.state (drop k stream) rest → Whole k text rest

  pub none_run : (r : RunnerData) → RunsNetwork n r → r.state ≡ start n → HasRunTo 0 r []
  none_run r runs at_start = record {
    runs = runs;
    goes_on = λ rest run. record { all = rest; run = subst (λ s. IsNetworkRunFrom n s stream rest) at_start run; text_is = refl };
  }

  pub cycle_run : (k : ℕ) (pins : List Bool) (old new : RunnerData) (before after : List ℕ) → slice_get stream k ≡ Some pins → HasRunTo k old before
      → PutsCycle k pins old new before after → HasRunTo (k + 1) new after
  cycle_run k pins old new before after there has puts =
      let made = puts.cycle n has.runs in
      let c : Cycle = record { outputs = puts.outputs; next = new.state } in
      let split = drop_next stream k pins there in
      record {
        runs = made.1;
        goes_on = λ rest run.
            let whole = has.goes_on (c ∷ rest) (subst (λ s. IsNetworkRunFrom n old.state s (c ∷ rest)) (sym split) (made.0, run)) in
            record {
              all = whole.all;
              run = whole.run;
              text_is =
                  ap (λ t. t ++ run_lines (k + 1) (drop (k + 1) stream) rest) puts.text_is
                  ∙ append_assoc before (cycle_line (run_row k pins c)) (run_lines (k + 1) (drop (k + 1) stream) rest)
                  ∙ ap (λ s. before ++ run_lines k s (c ∷ rest)) (sym split)
                  ∙ whole.text_is;
            };
      }

  pub all_run : (k : ℕ) (r : RunnerData) (text : List ℕ) → length stream ≤ k → HasRunTo k r text → IsRunText n stream text
  all_run k r text l has =
      let none = drop_of_length-le stream l in
      let whole = has.goes_on [] (subst (λ s. IsNetworkRunFrom n r.state s []) (sym none) tt) in
      record {
        cycles = whole.all;
        run = whole.run;
        text_is = sym (append-nil text) ∙ ap (λ s. text ++ run_lines k s []) (sym none) ∙ whole.text_is;
      }
