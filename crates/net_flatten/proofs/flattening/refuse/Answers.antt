use Rattle.std.proofs.Common.{◌≡◌, Err, rules, ap, subst}
use Rattle.model_calls.specs.declared.fault.FlatFault.TheVariants.{At}
use Rattle.model_calls.specs.Refusal as refusal
use Rattle.model_calls.specs.Refusals.{IsRefusal}
use Rattle.net_flatten.proofs.flattening.refuse.Goals as goal

pub returns-clause-refused : goal.returns-clause-refused
returns-clause-refused c = λ line kind name is.
    let same : c.in-Err.fault ≡ At line kind name = search rules in
    subst (λ f. IsRefusal f (refusal.At kind line name)) c.in_ok-copy.ensures (c.in-Err.ensures.refused line kind name (ap Err same))
