use Rattle.std.proofs.Common.{◌≡◌, Err, rules, ap, subst}
use Rattle.model_calls.specs.declared.fault.FlatFault.TheVariants.{At}
use Rattle.model_calls.specs.Refusal as refusal
use Rattle.model_calls.specs.Refusals.{IsRefusal}
use Rattle.net_flatten.proofs.flattening.flatten_planned.Goals as goal

pub returns-in_err-levels-clause-refused : goal.returns-in_err-levels-clause-refused
returns-in_err-levels-clause-refused c = λ line kind name is.
    let same : c.in_err-levels.field-0.0 ≡ At line kind name = search rules in
    subst (λ file. IsRefusal file (refusal.At kind line name)) c.numbered-cards.ensures (c.in_err-levels.ensures.refused line kind name (ap Err same))
