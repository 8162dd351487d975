use Rattle.std.proofs.Common.{◌≤◌, length, refl, subst, arith}
use Rattle.std.specs.List.{flat_map}
use Rattle.std.proofs.lemmas.List.{take_all}
use Rattle.model_calls.specs.ModelFaults.{IsDuplicatePort, IsTwiceIn, Port, ports_of_model}
use Rattle.model_calls.specs.FirstFaults.{NoneHolds}
use Rattle.model_calls.proofs.FirstFaults.{item_at, none_up_to, reported_at, reported_none, reported_some}
use Rattle.model_calls.proofs.ports.duplicate_port.Goals as goal

pub loop-model-preserved : goal.loop-model-preserved
loop-model-preserved c =
    none_up_to (λ (p : Port). IsTwiceIn p.list p.name) (λ p. p.line) (λ p. p.name) ports_of_model c.args.models.now c.loop-model.model-index c.model-item.result (item_at c.args.models.now (length c.args.models.now) c.loop-model.model-index c.model-item.result refl (omega (arith, c.loop-model-test.true, c.loop-model.auto.model-index-end)) c.model-item.is) c.loop-model.invariant
    (reported_none IsDuplicatePort (ports_of_model c.model-item.result) (λ p. p.line) (λ p. p.name) c.in_ok-report.field-0 c.in_default.not-Some c.in_ok-report.ensures)

pub returns-in-Some : goal.returns-in-Some
returns-in-Some c =
    reported_at (λ (p : Port). IsTwiceIn p.list p.name) (λ p. p.line) (λ p. p.name) ports_of_model c.args.models.now c.loop-model.model-index c.model-item.result (item_at c.args.models.now (length c.args.models.now) c.loop-model.model-index c.model-item.result refl (omega (arith, c.loop-model-test.true, c.loop-model.auto.model-index-end)) c.model-item.is) c.in-Some.report.line c.in-Some.report.name
    c.loop-model.invariant
    (reported_some IsDuplicatePort (ports_of_model c.model-item.result) (λ p. p.line) (λ p. p.name) c.in_ok-report.field-0 c.in-Some.report c.in-Some.is c.in_ok-report.ensures)

pub returns : goal.returns
returns c =
    let whole : length c.args.models.now ≤ c.loop-model.model-index = omega (arith, c.loop-model-test.false, c.loop-model.auto.model-index-end) in
    subst (λ models. NoneHolds IsDuplicatePort (flat_map ports_of_model models)) (take_all c.loop-model.model-index c.args.models.now whole) c.loop-model.invariant
