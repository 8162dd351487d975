use Rattle.std.proofs.Common.{rules, length, refl, ap, sym, subst, arith}
use Rattle.std.specs.List.{flat_map}
use Rattle.numbered_file.specs.Numbered.{file_of, models_in}
use Rattle.numbered_file.proofs.Places.{length-models_in}
use Rattle.graph_order.specs.Orders.{IsAnswer, IsGraph, IsOrder}
use Rattle.model_calls.proofs.Accepted.{none_reported, nothing_with}
use Rattle.model_calls.proofs.FormalFaults.{calls_count}
use Rattle.model_calls.proofs.OrderedPlans.{first_there_of, is_graph, none_recurs}
use Rattle.model_calls.specs.declared.fault.FlatKind.TheVariants.{Recursion}
use Rattle.model_calls.specs.CallNumbers.{names_of_models}
use Rattle.model_calls.specs.ModelFaults.{IsRecursion, uses_in}
use Rattle.model_calls.specs.ModelCalls.{HasCircle}
use Rattle.numbered_calls.proofs.Refusing.{circular}
use Rattle.numbered_calls.proofs.accepted_calls.order_calls.Goals as goal

pub put_in_order-requires : goal.put_in_order-requires
put_in_order-requires c =
    let models = models_in c.args.file.now in
    record {
      graph = subst IsGraph (sym c.deref.ensures.value) (is_graph models c.args.nodes.items c.requires.calls);
      few = omega (
        arith,
        calls_count (names_of_models models) models c.args.nodes.items c.requires.calls,
        ap length c.deref.ensures.value,
        length-models_in c.args.file.now,
        ap length c.models.ensures,
        c.if-models-ge-MOST.false,
      );
    }

pub returns-clause-calls : goal.returns-clause-calls
returns-clause-calls c =
    let f = file_of c.args.file.now in
    let models = models_in c.args.file.now in
    let nodes = c.args.nodes.items in
    let ordered : IsOrder nodes c.in-Of.order.items = subst (λ n. IsOrder n c.in-Of.order.items) c.deref.ensures.value (subst (IsAnswer c.deref.result.now) c.in-Of.is c.in_ok-order.ensures) in
    let recurs = none_recurs models nodes c.requires.apart c.requires.calls c.in-Of.order.items ordered in
    record {
      main = first_there_of models c.requires.good.some;
      few = search rules;
      calls = c.requires.calls;
      ordered = ordered;
      accepted = nothing_with f 4 Recursion refl c.requires.accepted
          (none_reported f (IsRecursion f) (flat_map uses_in models) (λ u. u.instance.line) (λ u. u.instance.unit) recurs);
    }

pub returns-in-Circular-clause-refused : goal.returns-in-Circular-clause-refused
returns-in-Circular-clause-refused c =
    circular c.args.file.now c.args.nodes.items c.requires.calls
    (subst HasCircle c.deref.ensures.value (subst (IsAnswer c.deref.result.now) c.in-Circular.is c.in_ok-order.ensures))
