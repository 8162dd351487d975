use Rattle.std.proofs.Common.{length, refl, ap, subst, arith}
use Rattle.std.specs.List.{flat_map}
use Rattle.std.proofs.lemmas.List.{length-map}
use Rattle.blif_ast.specs.BlifModelData.{BlifModelData}
use Rattle.model_calls.proofs.Accepted.{first_refusal, none_reported, nothing_with, nothing_yet}
use Rattle.model_calls.proofs.OrderedPlans.{all_known}
use Rattle.model_calls.proofs.FirstFaults.{reported_none, reported_some}
use Rattle.model_calls.specs.declared.fault.FlatKind.TheVariants.{DuplicateModel, DuplicatePort, UnknownModel}
use Rattle.model_calls.specs.declared.calls.CallGraph.TheVariants.{Known, Unknown}
use Rattle.model_calls.specs.CallNumbers.{AreNamed, IsCallGraph, IsUseOfNone, names_of_models}
use Rattle.model_calls.specs.ModelFaults.{IsDuplicateModel, IsDuplicatePort, ports_of_model, uses_in}
use Rattle.model_calls.proofs.models.find_calls.Goals as goal

pub returns-in-Some : goal.returns-in-Some
returns-in-Some c = (
  first_refusal (record { models = c.args.models.now }) 0 DuplicateModel refl (omega arith) (nothing_yet (record { models = c.args.models.now })) c.in-Some.report.line c.in-Some.report.name
      (subst (AreNamed c.args.models.now c.name_models.new.names) c.in-Some.is c.in_ok-report.ensures),
  omega arith,
)

pub returns-in-Some-2 : goal.returns-in-Some-2
returns-in-Some-2 c =
    let named = subst (AreNamed c.args.models.now c.name_models.new.names) c.in_default.is c.in_ok-report.ensures in (
      first_refusal (record { models = c.args.models.now }) 1 DuplicatePort refl (omega arith)
          (nothing_with (record { models = c.args.models.now }) 0 DuplicateModel refl (nothing_yet (record { models = c.args.models.now }))
          (none_reported (record { models = c.args.models.now }) IsDuplicateModel c.args.models.now (λ m. m.line) (λ m. m.name) named.1))
          c.in-Some-2.report.line c.in-Some-2.report.name
          (reported_some IsDuplicatePort (flat_map ports_of_model c.args.models.now) (λ p. p.line) (λ p. p.name) c.in_ok-report-2.field-0 c.in-Some-2.report c.in-Some-2.is c.in_ok-report-2.ensures),
      omega arith,
    )

pub call_graph-requires : goal.call_graph-requires
call_graph-requires c =
    let named = subst (AreNamed c.args.models.now c.name_models.new.names) c.in_default.is c.in_ok-report.ensures in
    record { few = omega (arith, ap length named.0, length-map c.args.models.now (λ (m : BlifModelData). m.name), c.if-models-ge-MOST.false) }

pub returns-in-Unknown : goal.returns-in-Unknown
returns-in-Unknown c =
    let named = subst (AreNamed c.args.models.now c.name_models.new.names) c.in_default.is c.in_ok-report.ensures in
    let ports = reported_none IsDuplicatePort (flat_map ports_of_model c.args.models.now) (λ p. p.line) (λ p. p.name) c.in_ok-report-2.field-0 c.in_default-2.not-Some c.in_ok-report-2.ensures in (
      first_refusal (record { models = c.args.models.now }) 2 UnknownModel refl (omega arith)
          (nothing_with (record { models = c.args.models.now }) 1 DuplicatePort refl
          (nothing_with (record { models = c.args.models.now }) 0 DuplicateModel refl (nothing_yet (record { models = c.args.models.now }))
          (none_reported (record { models = c.args.models.now }) IsDuplicateModel c.args.models.now (λ m. m.line) (λ m. m.name) named.1))
          (none_reported (record { models = c.args.models.now }) IsDuplicatePort (flat_map ports_of_model c.args.models.now) (λ p. p.line) (λ p. p.name) ports))
          c.in-Unknown.report.line c.in-Unknown.report.name
          (subst (λ names. IsCallGraph names c.args.models.now (Unknown c.in-Unknown.report)) named.0 (subst (IsCallGraph c.name_models.new.names c.args.models.now) c.in-Unknown.is c.in_ok-report-3.ensures)),
      omega arith,
    )

pub order_calls-requires : goal.order_calls-requires
order_calls-requires c =
    let named = subst (AreNamed c.args.models.now c.name_models.new.names) c.in_default.is c.in_ok-report.ensures in
    let ports = reported_none IsDuplicatePort (flat_map ports_of_model c.args.models.now) (λ p. p.line) (λ p. p.name) c.in_ok-report-2.field-0 c.in_default-2.not-Some c.in_ok-report-2.ensures in
    let calls = subst (λ names. IsCallGraph names c.args.models.now (Known c.in-Known.nodes)) named.0 (subst (IsCallGraph c.name_models.new.names c.args.models.now) c.in-Known.is c.in_ok-report-3.ensures) in
    record {
      good = c.requires.good;
      few = omega (arith, c.if-models-ge-MOST.false);
      apart = named.1;
      calls = calls;
      accepted = nothing_with (record { models = c.args.models.now }) 2 UnknownModel refl
          (nothing_with (record { models = c.args.models.now }) 1 DuplicatePort refl
          (nothing_with (record { models = c.args.models.now }) 0 DuplicateModel refl (nothing_yet (record { models = c.args.models.now }))
          (none_reported (record { models = c.args.models.now }) IsDuplicateModel c.args.models.now (λ m. m.line) (λ m. m.name) named.1))
          (none_reported (record { models = c.args.models.now }) IsDuplicatePort (flat_map ports_of_model c.args.models.now) (λ p. p.line) (λ p. p.name) ports))
          (none_reported (record { models = c.args.models.now }) (IsUseOfNone (names_of_models c.args.models.now)) (flat_map uses_in c.args.models.now) (λ u. u.instance.line) (λ u. u.instance.unit)
          (all_known c.args.models.now c.in-Known.nodes.items named.1 calls));
    }

pub returns-in-Known : goal.returns-in-Known
returns-in-Known c = c.order_calls.ensures
