use Rattle.std.proofs.Common.{◌≤◌, length, refl, ap, sym, ◌∙◌, subst, arith}
use Rattle.std.specs.Prelude.{slice_get}
use Rattle.std.proofs.lemmas.List.{take_all}
use Rattle.numbered_file.specs.Numbered.{between, models_in}
use Rattle.numbered_file.proofs.Places.{length-models_in, model_there, parts_end-there}
use Rattle.model_calls.proofs.FirstFaults.{item_at}
use Rattle.model_calls.proofs.FormalFaults.{callees_count, calls_at, calls_count}
use Rattle.model_calls.proofs.ModelPlans.{have_plans_next}
use Rattle.model_calls.specs.CallNumbers.{names_of_models}
use Rattle.model_calls.specs.ModelCalls.{HavePlans}
use Rattle.card_places.proofs.PartPlans.{planned, the_model}
use Rattle.card_places.proofs.model_plans.plans_by_parts.Goals as goal

pub bounds-nodes-index : goal.bounds-nodes-index
bounds-nodes-index c =
    let all = models_in c.args.file.now in
    omega (
      arith,
      c.loop-index-test.true,
      ap length c.models-models.ensures,
      length-models_in c.args.file.now,
      calls_count
          (names_of_models all) all c.args.nodes.now c.requires.calls,
    )

pub loop-index-preserved : goal.loop-index-preserved
loop-index-preserved c =
    let d = c.args.file.now in
    let all = models_in d in
    let i = c.loop-index.index in
    let model = c.model_at-end.result in
    let node = c.index-nodes-index.result in
    let known = ap (λ l. slice_get l i) (sym c.models-models.ensures) ∙ c.model_at-end.ensures in
    let end = sym (parts_end-there d i model known) in
    let start = c.loop-index.invariant.start in
    let m = the_model d i c.loop-index.start model.parts_end model known start end in
    let there = model_there d i model known in
    let count = calls_count (names_of_models all) all c.args.nodes.now c.requires.calls in
    let at = item_at c.args.nodes.now (length c.args.nodes.now) i node refl
    (omega (arith, c.loop-index-test.true, ap length c.models-models.ensures, length-models_in d, count)) c.index-nodes-index.is in
    let callees = callees_count (names_of_models all) m.instances node
    (calls_at (names_of_models all) all c.args.nodes.now c.requires.calls i m node there at) in
    record {
      start = end;
      plans = have_plans_next all c.args.nodes.now i m node c.loop-index.plans.items c.push.new.self.items c.in_ok-plan_model.field-0 there
          at c.loop-index.invariant.plans
          (planned d i c.loop-index.start model.parts_end model known start end c.between-parts.result.now node c.in_ok-plan_model.field-0
          (c.between-parts.ensures ∙ ap (between c.loop-index.start model.parts_end) c.parts.ensures)
          (c.do_lines_rise.ensures c.if-not-do_lines_rise.false)
          c.in_ok-plan_model.ensures callees) c.in_ok-push.ensures.items;
    }

pub returns : goal.returns
returns c =
    let d = c.args.file.now in
    let whole : length (models_in d) ≤ c.loop-index.index = omega
    (arith, c.loop-index-test.false, ap length c.models-models.ensures, length-models_in d) in
    subst (λ l. HavePlans l c.args.nodes.now c.loop-index.plans.items) (take_all c.loop-index.index (models_in d) whole)
    c.loop-index.invariant.plans
