use Rattle.std.proofs.Common.{rules, ◌≡◌, length, ap, sym, ◌∙◌, subst, arith}
use Rattle.numbered_file.specs.Numbered.{file_of}
use Rattle.model_calls.specs.CallNumbers.{names_of_models}
use Rattle.model_calls.specs.ModelCallsData.{ModelCallsData}
use Rattle.model_calls.specs.declared.fault.FlatKind.TheVariants.{Recursion}
use Rattle.model_calls.specs.Plans.{HasMainPlan}
use Rattle.model_calls.proofs.FormalFaults.{calls_count}
use Rattle.model_calls.proofs.OrderedPlans.{are_planned, are_ready}
use Rattle.part_numbers.proofs.PathSums.{apart}
use Rattle.numbered_signals.proofs.OrderedAll.{order_covers}
use Rattle.numbered_signals.proofs.expansion.number.Goals as goal

pub number_file-requires-clause-planned : goal.number_file-requires-clause-planned
number_file-requires-clause-planned c = are_planned (file_of c.args.file.now).models c.args.calls.now.nodes (apart c.requires.good c.requires.calls) c.requires.calls.calls
    c.args.calls.now.order c.requires.calls.ordered c.args.plans.now c.requires.planned c.requires.good.some

pub number_file-requires-clause-ready : goal.number_file-requires-clause-ready
number_file-requires-clause-ready c =
    let order : c.len.result ≡ length c.calls.inside.order.items = search (rules, c.len.ensures) in
    subst (HasMainPlan c.args.plans.now) (sym (order ∙ ap (λ (v : ModelCallsData). length v.order) c.calls.view_is))
    (are_ready (file_of c.args.file.now).models c.args.calls.now.nodes (apart c.requires.good c.requires.calls) c.requires.calls.calls
    c.args.calls.now.order c.requires.calls.ordered c.args.plans.now c.requires.planned c.requires.good.some)

pub number_file-requires-clause-deep : goal.number_file-requires-clause-deep
number_file-requires-clause-deep c =
    let order : c.len.result ≡ length c.calls.inside.order.items = search (rules, c.len.ensures) in
    let order_is = ap (λ (v : ModelCallsData). length v.order) c.calls.view_is in
    let covers = order_covers c.args.calls.now.nodes c.args.calls.now.order c.requires.calls.ordered in
    let many = calls_count (names_of_models (file_of c.args.file.now).models) (file_of c.args.file.now).models c.args.calls.now.nodes c.requires.calls.calls in
    omega (arith, order, order_is, covers, many)

pub number_file-requires-clause-no_recursion : goal.number_file-requires-clause-no_recursion
number_file-requires-clause-no_recursion c = λ line name refusal. c.requires.calls.accepted Recursion line name (omega arith) refusal
