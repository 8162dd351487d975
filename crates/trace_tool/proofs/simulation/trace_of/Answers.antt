use Rattle.std.proofs.Common.{◌≡◌, List, refl, subst}
use Rattle.std.proofs.lemmas.Result.{err_from_is_err_and}
use Rattle.event_sim.specs.Orders.{By}
use Rattle.trace_tool.specs.Probes.{AreNets}
use Rattle.trace_tool.specs.Refusals.{IsRefused, IsUnnamed, of_stim}
use Rattle.trace_tool.specs.TraceData.{TraceOptionsData}
use Rattle.trace_tool.specs.Traces.{IsRun, picked_place}
use Rattle.trace_tool.specs.declared.options.ProbeWord.{ProbeWord}
use Rattle.trace_tool.proofs.TraceCauses.{stimulus_refused, unnamed_refused}
use Rattle.trace_tool.proofs.TraceRuns.{run_is}
use Rattle.trace_tool.proofs.simulation.trace_of.Goals as goal

pub returns-in_err-asked-clause-refused : goal.returns-in_err-asked-clause-refused
returns-in_err-asked-clause-refused c why is =
    let p = err_from_is_err_and c.from_residual-in_err-asked.result c.from_residual-in_err-asked.ensures.1 in
    let a = p.1 in
    let b = p.2 in
    subst (λ (o : TraceOptionsData). IsRefused c.args.deck.now c.args.stim.now o.probes why) c.options.view_is
    (unnamed_refused c.args.deck.now c.args.stim.now c.options.inside.probes.items c.in_ok-circuit.circuit c.in_ok-roles.roles why c.in_ok-circuit.ensures.circuit c.in_ok-roles.ensures.roles
    (subst (λ (l : List ProbeWord). IsUnnamed c.in_ok-circuit.circuit.nets l why) c.deref.ensures.value (c.in_err-asked.ensures.no_net why (cc))))

pub returns-in_err-cycles-clause-refused : goal.returns-in_err-cycles-clause-refused
returns-in_err-cycles-clause-refused c why is =
    let p = err_from_is_err_and c.from_residual-in_err-cycles.result c.from_residual-in_err-cycles.ensures.1 in
    let a = p.1 in
    let b = p.2 in
    let same : why ≡ of_stim c.in_err-cycles.field-0.0 = cc in
    subst (λ (o : TraceOptionsData). IsRefused c.args.deck.now c.args.stim.now o.probes why) c.options.view_is
    (stimulus_refused c.args.deck.now c.args.stim.now c.options.inside.probes.items c.in_ok-circuit.circuit c.in_ok-roles.roles c.in_err-cycles.field-0.0 why
    c.in_ok-circuit.ensures.circuit c.in_ok-roles.ensures.roles (subst (AreNets c.in_ok-circuit.circuit.nets) c.deref.ensures.value c.in_ok-asked.ensures.nets)
    (λ line kind e. c.in_err-cycles.ensures.fault line kind (let d = e in cc)) same)

pub returns-clause-trace : goal.returns-clause-trace
returns-clause-trace c =
    let read : TraceOptionsData = record { order = c.options.inside.order; seed = c.options.inside.seed; probes = c.options.inside.probes.items; events = c.options.inside.events } in
    record {
      circuit = c.in_ok-circuit.circuit;
      roles = c.in_ok-roles.roles;
      cycles = c.in_ok-cycles.cycles;
      is_deck = c.in_ok-circuit.ensures.circuit;
      are_roles = c.in_ok-roles.ensures.roles;
      are_nets = subst (λ (o : TraceOptionsData). AreNets c.in_ok-circuit.circuit.nets o.probes) c.options.view_is
          (subst (AreNets c.in_ok-circuit.circuit.nets) c.deref.ensures.value c.in_ok-asked.ensures.nets);
      is_stimulus = c.in_ok-cycles.ensures.stimulus;
      is_run = run_is c.args.clocking c.in_ok-circuit.circuit c.in_ok-roles.roles read c.args.options.now c.in_ok-cycles.cycles c.in_ok-cycles.cycles c.in_ok-trace.trace
          c.options.view_is refl
          (subst
          (λ (l : List ProbeWord). IsRun (By (picked_place c.options.inside.order c.options.inside.seed))
          (record { circuit = c.in_ok-circuit.circuit; roles = c.in_ok-roles.roles; clocking = c.args.clocking; events = c.options.inside.events; probes = l }) c.in_ok-cycles.cycles c.in_ok-trace.trace)
          c.as_slice.ensures.value c.in_ok-trace.ensures);
    }
