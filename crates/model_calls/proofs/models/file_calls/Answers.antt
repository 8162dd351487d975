use Rattle.std.proofs.Common.{◌≡◌, IfOk, ap, sym, ◌∙◌, subst}
use Rattle.blif_ast.specs.Good.{IsGoodFile}
use Rattle.model_calls.specs.ModelCalls.{AreModelCalls, AreFoundCalls}
use Rattle.model_calls.specs.Refusal.{At}
use Rattle.model_calls.specs.Refusals.{IsRefusal}
use Rattle.model_calls.proofs.models.file_calls.Goals as goal

pub find_calls-requires : goal.find_calls-requires
find_calls-requires c =
    let file : c.args.file.now ≡ record { models = c.deref.result.now } = sym (ap (λ l. record { models = l }) c.deref.ensures.value ∙ c.file.view_is) in
    record { good = subst IsGoodFile file c.requires.good }

pub returns-in-Known-clause-planned : goal.returns-in-Known-clause-planned
returns-in-Known-clause-planned c =
    let file : record { models = c.deref.result.now } ≡ c.args.file.now = ap (λ l. record { models = l }) c.deref.ensures.value ∙ c.file.view_is in
    subst (λ f. AreModelCalls f c.in-Known.calls) file (subst (AreFoundCalls (record { models = c.deref.result.now })) c.in-Known.is (subst (λ r. IfOk r (AreFoundCalls (record { models = c.deref.result.now }))) c.in-Ok.is c.find_calls.ensures))

pub returns-in-Refused-clause-refused : goal.returns-in-Refused-clause-refused
returns-in-Refused-clause-refused c =
    let file : record { models = c.deref.result.now } ≡ c.args.file.now = ap (λ l. record { models = l }) c.deref.ensures.value ∙ c.file.view_is in
    let refusal = subst (λ f. IsRefusal f (At c.in-Refused.kind c.in-Refused.report.line c.in-Refused.report.name)) file
    (subst (AreFoundCalls (record { models = c.deref.result.now })) c.in-Refused.is (subst (λ r. IfOk r (AreFoundCalls (record { models = c.deref.result.now }))) c.in-Ok.is c.find_calls.ensures)).0 in
    λ line kind name is.
    let l : c.in-Refused.report.line ≡ line = cc in
    let k : c.in-Refused.kind ≡ kind = cc in
    let n : c.in-Refused.report.name ≡ name = cc in
    subst (λ a. IsRefusal c.args.file.now (At kind line a)) n (subst (λ a. IsRefusal c.args.file.now (At kind a c.in-Refused.report.name)) l
    (subst (λ a. IsRefusal c.args.file.now (At a c.in-Refused.report.line c.in-Refused.report.name)) k refusal))
