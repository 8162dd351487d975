use Rattle.std.proofs.Common.{ℕ, sym, subst}
use Rattle.graph_order.specs.Orders.{IsAnswer, IsOrder, LeadsOn}
use Rattle.net_flatten.specs.Dependences.{AreDependences}
use Rattle.model_calls.specs.FirstFaults.{NoneHolds}
use Rattle.net_flatten.specs.FoundFirst.{IsFoundFirst}
use Rattle.net_flatten.specs.Loops.{IsOnLoop}
use Rattle.net_flatten.proofs.LoopSearches.{circle_on_loop, graph_of_dependences, ordered_on_no_loop}
use Rattle.net_flatten.proofs.cycle_check.find_levelled.Goals as goal

pub put_in_order-requires-clause-graph : goal.put_in_order-requires-clause-graph
put_in_order-requires-clause-graph c =
    let depend : AreDependences c.args.signals c.args.parts.now c.as_slice-nodes.result.now = subst (AreDependences c.args.signals c.args.parts.now) (sym c.as_slice-nodes.ensures.value) (c.in_ok-depend.ensures {u = tt}) in
    graph_of_dependences c.args.signals c.args.parts.now c.requires.within c.as_slice-nodes.result.now depend

pub find_levels-requires-clause-graph : goal.find_levels-requires-clause-graph
find_levels-requires-clause-graph c =
    let depend : AreDependences c.args.signals c.args.parts.now c.as_slice-nodes.result.now = subst (AreDependences c.args.signals c.args.parts.now) (sym c.as_slice-nodes.ensures.value) (c.in_ok-depend.ensures {u = tt}) in
    graph_of_dependences c.args.signals c.args.parts.now c.requires.within c.as_slice-nodes.result.now depend

pub find_loop-requires-clause-graph : goal.find_loop-requires-clause-graph
find_loop-requires-clause-graph c =
    let depend : AreDependences c.args.signals c.args.parts.now c.as_slice-nodes.result.now = subst (AreDependences c.args.signals c.args.parts.now) (sym c.as_slice-nodes.ensures.value) (c.in_ok-depend.ensures {u = tt}) in
    graph_of_dependences c.args.signals c.args.parts.now c.requires.within c.as_slice-nodes.result.now depend

pub returns-in-Of : goal.returns-in-Of
returns-in-Of c =
    let depend : AreDependences c.args.signals c.args.parts.now c.as_slice-nodes.result.now = subst (AreDependences c.args.signals c.args.parts.now) (sym c.as_slice-nodes.ensures.value) (c.in_ok-depend.ensures {u = tt}) in
    let ordered : IsOrder c.as_slice-nodes.result.now c.in-Of.order.items = subst (IsAnswer c.as_slice-nodes.result.now) c.in-Of.is (c.in_ok-order.ensures {u = tt}) in
    record {
      no_loop = record {
        nodes = c.as_slice-nodes.result.now;
        depend = depend;
        none = ordered_on_no_loop c.args.signals c.args.parts.now c.requires.within c.as_slice-nodes.result.now depend c.in-Of.order.items ordered;
      };
      are_levels = c.in_ok-levels-in-Of.ensures {u = tt};
    }

pub unreachable-requires : goal.unreachable-requires
unreachable-requires c =
    let depend : AreDependences c.args.signals c.args.parts.now c.as_slice-nodes.result.now = subst (AreDependences c.args.signals c.args.parts.now) (sym c.as_slice-nodes.ensures.value) (c.in_ok-depend.ensures {u = tt}) in
    let circle : (node : ℕ) × LeadsOn c.as_slice-nodes.result.now node node = subst (IsAnswer c.as_slice-nodes.result.now) c.in-Circular.is (c.in_ok-order.ensures {u = tt}) in
    let none : NoneHolds (IsOnLoop c.as_slice-nodes.result.now) c.args.parts.now = subst (IsFoundFirst (IsOnLoop c.as_slice-nodes.result.now) c.args.parts.now) c.in-None.is (c.in_ok-index-in-Circular.ensures {u = tt}) in
    circle_on_loop c.args.signals c.args.parts.now c.requires.within c.as_slice-nodes.result.now depend circle.0 circle.1 none
