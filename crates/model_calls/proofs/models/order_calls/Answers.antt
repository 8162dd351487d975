use Rattle.std.proofs.Common.{rules, length, refl, ap, sym, ◌∙◌, subst, arith}
use Rattle.std.specs.List.{flat_map}
use Rattle.graph_order.specs.Orders.{IsAnswer, IsGraph, IsOrder}
use Rattle.model_calls.proofs.Accepted.{first_refusal, none_reported, nothing_with}
use Rattle.model_calls.proofs.FormalFaults.{calls_count, formals_by_model}
use Rattle.model_calls.proofs.OrderedPlans.{first_there_of, is_graph, none_recurs}
use Rattle.model_calls.proofs.FirstFaults.{reported_none, reported_some}
use Rattle.model_calls.specs.declared.fault.FlatKind.TheVariants.{BadFormal, Recursion}
use Rattle.model_calls.specs.CallNumbers.{AreCalls, names_of_models}
use Rattle.model_calls.specs.ModelFaults.{IsBadFormal, IsRecursion, formals, line_of_formal, name_of_formal, uses_in}
use Rattle.model_calls.specs.ModelCalls.{HasCircle, NothingRefuses}
use Rattle.model_calls.specs.FirstFaults.{IsFirstFaultIn}
use Rattle.model_calls.proofs.models.order_calls.Goals as goal

pub bad_formal-requires : goal.bad_formal-requires
bad_formal-requires c = record { apart = c.requires.apart; calls = subst (AreCalls (names_of_models c.args.models.now) c.args.models.now) (sym c.deref.ensures.value) c.requires.calls }

pub returns-in-Some : goal.returns-in-Some
returns-in-Some c =
    let report = subst (λ l. IsFirstFaultIn IsBadFormal l line_of_formal name_of_formal c.in_ok-report.field-0) (sym (formals_by_model (record { models = c.args.models.now }))) c.in_ok-report.ensures in (
      first_refusal (record { models = c.args.models.now }) 3 BadFormal refl (omega arith) c.requires.accepted c.in-Some.report.line c.in-Some.report.name
          (reported_some IsBadFormal (formals (record { models = c.args.models.now })) line_of_formal name_of_formal c.in_ok-report.field-0 c.in-Some.report c.in-Some.is report),
      omega arith,
    )

pub put_in_order-requires : goal.put_in_order-requires
put_in_order-requires c = record {
  graph = subst IsGraph (sym c.deref-2.ensures.value) (is_graph c.args.models.now c.args.nodes.items c.requires.calls);
  few = omega (arith, c.requires.few, calls_count (names_of_models c.args.models.now) c.args.models.now c.args.nodes.items c.requires.calls, ap length c.deref-2.ensures.value);
}

pub find_recursion-requires : goal.find_recursion-requires
find_recursion-requires c =
    let nodes = c.deref-in-Circular.ensures.value in
    let report = subst (λ l. IsFirstFaultIn IsBadFormal l line_of_formal name_of_formal c.in_ok-report.field-0) (sym (formals_by_model (record { models = c.args.models.now }))) c.in_ok-report.ensures in
    let none = reported_none IsBadFormal (formals (record { models = c.args.models.now })) line_of_formal name_of_formal c.in_ok-report.field-0 c.in_default.not-Some report in
    let circle = subst (IsAnswer c.deref-2.result.now) c.in-Circular.is c.in_ok-order.ensures in record {
      circle = subst HasCircle (c.deref-2.ensures.value ∙ sym nodes) circle;
      graph = subst IsGraph (sym nodes) (is_graph c.args.models.now c.args.nodes.items c.requires.calls);
      few = omega (arith, c.requires.few, calls_count (names_of_models c.args.models.now) c.args.models.now c.args.nodes.items c.requires.calls, ap length nodes);
      apart = c.requires.apart;
      calls = subst (AreCalls (names_of_models c.args.models.now) c.args.models.now) (sym nodes) c.requires.calls;
      accepted = nothing_with (record { models = c.args.models.now }) 3 BadFormal refl c.requires.accepted
          (none_reported (record { models = c.args.models.now }) IsBadFormal (formals (record { models = c.args.models.now })) line_of_formal name_of_formal none);
    }

pub returns-in-Circular : goal.returns-in-Circular
returns-in-Circular c = c.find_recursion.ensures

pub returns : goal.returns
returns c =
    let report = subst (λ l. IsFirstFaultIn IsBadFormal l line_of_formal name_of_formal c.in_ok-report.field-0) (sym (formals_by_model (record { models = c.args.models.now }))) c.in_ok-report.ensures in
    let none = reported_none IsBadFormal (formals (record { models = c.args.models.now })) line_of_formal name_of_formal c.in_ok-report.field-0 c.in_default.not-Some report in
    let four : NothingRefuses (record { models = c.args.models.now }) 4 = nothing_with (record { models = c.args.models.now }) 3 BadFormal refl c.requires.accepted
    (none_reported (record { models = c.args.models.now }) IsBadFormal (formals (record { models = c.args.models.now })) line_of_formal name_of_formal none) in
    let ordered : IsOrder c.args.nodes.items c.in-Of.order.items = subst (λ n. IsOrder n c.in-Of.order.items) c.deref-2.ensures.value (subst (IsAnswer c.deref-2.result.now) c.in-Of.is c.in_ok-order.ensures) in
    let recurs = none_recurs c.args.models.now c.args.nodes.items c.requires.apart c.requires.calls c.in-Of.order.items ordered in
    record {
      main = first_there_of c.args.models.now c.requires.good.some;
      few = search rules;
      calls = c.requires.calls;
      ordered = ordered;
      accepted = nothing_with (record { models = c.args.models.now }) 4 Recursion refl four
          (none_reported (record { models = c.args.models.now }) (IsRecursion (record { models = c.args.models.now })) (flat_map uses_in c.args.models.now) (λ u. u.instance.line) (λ u. u.instance.unit) recurs);
    }
