use Rattle.std.proofs.Common.{◌≡◌, ◌<◌, ◌++◌, [], length, take, get_or, false, ap, sym, ◌∙◌, arith, append_assoc}
use Rattle.std.specs.List.{flat_map}
use Rattle.std.proofs.lemmas.List.{take_all}
use Rattle.deck.specs.declared.phase.Phase.{Phase}
use Rattle.spice_text.specs.Text.{phase_line}
use Rattle.plan_text.specs.PutGroups.{nth_sink, signed_phases}
use Rattle.plan_text.proofs.Loops.{flat_map-next}
use Rattle.plan_text.proofs.SinkLoops.{phase_at, phase_total}
use Rattle.plan_text.proofs.head.put_phases.Goals as goal

pub sinks-preserved : goal.sinks-preserved
sinks-preserved c = λ starts same.
    let outs = c.args.outs.now in
    let signs = c.args.signs.now in
    let phases = signed_phases outs starts signs in
    let none : Phase = record { net = []; plus = false } in
    let lt : c.sinks.k < length phases = omega (arith, c.sinks-test.true, phase_total outs starts signs same) in
    c.in_ok-put_phase.ensures
    ∙ ap (λ t. t ++ phase_line (record { net = nth_sink outs c.sinks.k; plus = get_or signs c.sinks.k false })) (c.sinks.invariant starts same)
    ∙ append_assoc c.args.text.now _ _
    ∙ ap (λ t. c.args.text.now ++ t)
    (ap (λ (p : Phase). flat_map phase_line (take c.sinks.k phases) ++ phase_line p) (sym (phase_at outs starts signs c.sinks.k none same c.sinks-test.true))
    ∙ sym (flat_map-next phase_line phases c.sinks.k none lt))

pub returns : goal.returns
returns c = λ starts same.
    let phases = signed_phases c.args.outs.now starts c.args.signs.now in
    let all : take c.sinks.k phases ≡ phases =
    take_all c.sinks.k phases (omega (arith, phase_total c.args.outs.now starts c.args.signs.now same, c.sinks-test.false)) in
    c.sinks.invariant starts same ∙ ap (λ l. c.args.text.now ++ flat_map phase_line l) all
