use Rattle.std.proofs.Common.{refl, subst, arith}
use Rattle.std.specs.List.{flat_map}
use Rattle.model_calls.proofs.Accepted.{first_refusal}
use Rattle.model_calls.proofs.OrderedPlans.{circle_recurs}
use Rattle.model_calls.proofs.FirstFaults.{reported_some}
use Rattle.model_calls.specs.declared.fault.FlatKind.TheVariants.{Recursion}
use Rattle.model_calls.specs.ModelFaults.{IsRecursion, uses_in}
use Rattle.model_calls.specs.FirstFaults.{IsFirstFaultIn}
use Rattle.model_calls.proofs.models.find_recursion.Goals as goal

pub recursion-requires : goal.recursion-requires
recursion-requires c = record { apart = c.requires.apart; calls = c.requires.calls; graph = c.requires.graph; few = c.requires.few }

pub returns : goal.returns
returns c = (
  first_refusal (record { models = c.args.models.now }) 4 Recursion refl (omega arith) c.requires.accepted c.in-Some.report.line c.in-Some.report.name
      (reported_some (IsRecursion (record { models = c.args.models.now })) (flat_map uses_in c.args.models.now) (λ u. u.instance.line) (λ u. u.instance.unit) c.in_ok-report.field-0 c.in-Some.report c.in-Some.is
      c.in_ok-report.ensures),
  omega arith,
)

pub unreachable-requires : goal.unreachable-requires
unreachable-requires c = circle_recurs c.args.models.now c.args.nodes.now c.requires.apart c.requires.calls c.requires.circle
    (subst (IsFirstFaultIn (IsRecursion (record { models = c.args.models.now })) (flat_map uses_in c.args.models.now) (λ u. u.instance.line) (λ u. u.instance.unit)) c.in-None.is c.in_ok-report.ensures)
