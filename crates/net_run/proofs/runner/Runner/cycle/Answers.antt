use Rattle.std.proofs.Common.{◌≡◌, ◌+◌, ◌++◌, ◌∙◌, ℕ, Bool, List, length, map, take, drop, refl, sym, ap, subst, arith}
use Rattle.std.proofs.lemmas.List.{length-append, length-map}
use Rattle.network.specs.NetworkData.{NetworkData}
use Rattle.net_run.specs.RunnerData.{AreTablesFrom, AreValuesOf, RunnerData, RunsNetwork}
use Rattle.net_run.specs.Runs.{IsNetworkCycle, value_at}
use Rattle.net_run.proofs.Runners.{cycle_of_network, replaced}
use Rattle.net_run.proofs.runner.Runner.cycle.Goals as goal

pub evaluate-requires-clause-tables : goal.evaluate-requires-clause-tables
evaluate-requires-clause-tables c =
    let inputs = c.requires.pins ∙ sym (ap (λ (r : RunnerData). r.inputs) c.self.view_is) in
    let first : c.self.inside.inputs + length c.self.inside.latches.items ≡ length (c.args.pins.now ++ c.deref.result.now) =
    omega (arith, length-append c.args.pins.now c.deref.result.now, inputs, c.self.invariant.state, ap length c.deref.ensures.value) in
    subst (λ m. AreTablesFrom m c.self.inside.tables) first c.self.invariant.tables

pub returns : goal.returns
returns c =
    let r : RunnerData = record { inputs = c.self.inside.inputs; outputs = c.self.inside.outputs.items; latches = c.self.inside.latches.items; tables = c.self.inside.tables; state = c.self.inside.state.items } in
    let values = c.evaluate.new.values in
    let inputs = c.requires.pins ∙ sym (ap (λ (r : RunnerData). r.inputs) c.self.view_is) in
    let are : AreValuesOf (c.args.pins.now ++ c.self.inside.state.items) c.self.inside.tables values =
    subst (λ s. AreValuesOf (c.args.pins.now ++ s) c.self.inside.tables values) c.deref.ensures.value
    c.evaluate.ensures in
    let count : length values ≡ length c.self.inside.values.items =
    omega (arith, are.count, length-append c.args.pins.now c.self.inside.state.items, inputs, c.self.invariant.state, c.self.invariant.room) in
    let at_values = replaced values c.self.inside.values.items c.self.inside.values.len (ap length (sym c.deref_mut.ensures.value) ∙ c.deref_mut.ensures.len) count in
    let here : (signals numbers : List ℕ) (bits now items : List Bool) (len : ℕ) → bits ≡ map (value_at now) signals → now ≡ take c.self.inside.values.len (values ++ drop (length values) c.self.inside.values.items)
    → signals ≡ numbers → length items ≡ len → length items ≡ length numbers → take len (bits ++ drop (length bits) items) ≡ map (value_at values) numbers =
    λ signals numbers bits now items len e f g l m.
    let read = e ∙ ap (λ v. map (value_at v) signals) (f ∙ at_values) ∙ ap (map (value_at values)) g in
    replaced bits items len l (ap length read ∙ length-map numbers (value_at values) ∙ sym m) ∙ read in
    let outs = c.as_slice.ensures.value ∙ here c.deref-2.result.now c.self.inside.outputs.items c.read.new.into c.deref-3.result.now c.self.inside.outs.items c.self.inside.outs.len
    c.read.ensures c.deref-3.ensures.value c.deref-2.ensures.value (ap length (sym c.deref_mut-2.ensures.value) ∙ c.deref_mut-2.ensures.len) c.self.invariant.outs_room in
    let state = here c.deref-4.result.now c.self.inside.latches.items c.read-2.new.into c.deref-5.result.now c.self.inside.state.items c.self.inside.state.len
    c.read-2.ensures c.deref-5.ensures.value c.deref-4.ensures.value (ap length (sym c.deref_mut-3.ensures.value) ∙ c.deref_mut-3.ensures.len) c.self.invariant.state in (
      (
        refl,
        λ _. tt,
        subst (λ (r : RunnerData). (n : NetworkData) → RunsNetwork n r
            → IsNetworkCycle n c.args.pins.now r.state (record { outputs = c.as_slice.result.now; next = take c.self.inside.state.len (c.read-2.new.into ++ drop (length c.read-2.new.into) c.self.inside.state.items) })
            × RunsNetwork n (record { inputs = c.self.inside.inputs; outputs = c.self.inside.outputs.items; latches = c.self.inside.latches.items; tables = c.self.inside.tables; state = take c.self.inside.state.len (c.read-2.new.into ++ drop (length c.read-2.new.into) c.self.inside.state.items) }))
            c.self.view_is
            (λ n runs. (
              cycle_of_network n r runs c.args.pins.now values _ inputs c.self.invariant.state are outs state,
              record { network = runs.network; inputs_are = runs.inputs_are; outputs_are = runs.outputs_are; latches_are = runs.latches_are; tables_are = runs.tables_are },
            )),
      ),
      record { cycle = tt },
    )
