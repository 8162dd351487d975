use Rattle.std.proofs.Common.{◌≡◌, ◌⊎◌, ℕ, ◌+◌, List, ap, length, sym, ◌∙◌, subst, arith}
use Rattle.std.specs.Option.{IfSome}
use Rattle.numbered_file.specs.Places.{of_inputs, of_outputs}
use Rattle.numbered_calls.specs.BoundFormals.{inputs_in}
use Rattle.numbered_calls.specs.PortMarks.{ArePorts, AreTwice}
use Rattle.numbered_calls.proofs.PortRows.{HaveFirstPortMarks, all_ports, next_ports, no_ports, port_twice_at}
use Rattle.numbered_calls.proofs.Refusing.{none_of}
use Rattle.numbered_calls.proofs.formals.marks_of_ports.Goals as goal

pub loop-model-init : goal.loop-model-init
loop-model-init c = subst (λ m. HaveFirstPortMarks c.args.file.now c.args.names.now m 0) (sym c.in_ok-marks.ensures.items) (no_ports c.args.file.now c.args.names.now)

pub loop-model-preserved : goal.loop-model-preserved
loop-model-preserved c =
    let d = c.args.file.now in
    let l = c.args.names.now in
    let m = c.loop-model.model in
    let inputs = c.of_inputs-inputs.ensures ∙ ap (λ (w : List ℕ). of_inputs d m w) c.inputs.ensures in
    let outputs = c.of_outputs-outputs.ensures ∙ ap (λ (w : List ℕ). of_outputs d m w) c.outputs.ensures in
    let right = subst (λ f. IfSome f (λ row. ArePorts c.of_inputs-inputs.result.now c.of_outputs-outputs.result.now 3 row)) c.in-Some.is c.in_ok-row.ensures.ports in
    let size = subst (λ f. IfSome f (λ row. length row ≡ c.count-size.result)) c.in-Some.is c.in_ok-row.ensures.count ∙ c.count-size.ensures in
    subst (λ ms. HaveFirstPortMarks d l ms (m + 1)) (sym c.in_ok-push.ensures.items)
    (next_ports d l c.loop-model.marks.items m c.in-Some.row c.loop-model.invariant size
    (subst (λ o. ArePorts (inputs_in d l m) o 3 c.in-Some.row) outputs (subst (λ i. ArePorts i c.of_outputs-outputs.result.now 3 c.in-Some.row) inputs right)))

pub returns-in_default-clause-twice : goal.returns-in_default-clause-twice
returns-in_default-clause-twice c =
    let d = c.args.file.now in
    let l = c.args.names.now in
    let m = c.loop-model.model in
    port_twice_at d l m c.count-size.result c.of_inputs-inputs.result.now c.of_outputs-outputs.result.now
    (omega (arith, c.loop-model-test.true, c.loop-model.auto.model-end, ap length c.models-count.ensures)) c.count-size.ensures
    (c.of_inputs-inputs.ensures ∙ ap (λ (w : List ℕ). of_inputs d m w) c.inputs.ensures)
    (c.of_outputs-outputs.ensures ∙ ap (λ (w : List ℕ). of_outputs d m w) c.outputs.ensures)
    (none_of (AreTwice c.count-size.result c.of_inputs-inputs.result.now ⊎ AreTwice c.count-size.result c.of_outputs-outputs.result.now)
    c.in_ok-row.field-0 c.in_default.not-Some c.in_ok-row.ensures.twice)

pub returns-clause-marks : goal.returns-clause-marks
returns-clause-marks c = all_ports c.args.file.now c.args.names.now c.loop-model.marks.items c.loop-model.model (omega (arith, c.loop-model-test.false, c.loop-model.auto.model-end, ap length c.models-count.ensures)) c.loop-model.invariant
