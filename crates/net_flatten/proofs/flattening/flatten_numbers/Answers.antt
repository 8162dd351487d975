use Rattle.std.proofs.Common.{subst}
use Rattle.std.specs.Prelude.{IfOk}
use Rattle.model_calls.specs.Refusal as refusal
use Rattle.model_calls.specs.Refusals.{IsRefusal}
use Rattle.net_flatten.specs.Flattening.{IsNetworkOf}
use Rattle.net_flatten.proofs.flattening.flatten_numbers.Goals as goal

pub returns-clause-network : goal.returns-clause-network
returns-clause-network c = subst (λ f. IfOk c.flatten.result (IsNetworkOf f)) c.in_ok-copy.ensures c.flatten.ensures.network

pub returns-clause-refused : goal.returns-clause-refused
returns-clause-refused c = λ line kind name is.
    subst (λ f. IsRefusal f (refusal.At kind line name)) c.in_ok-copy.ensures (c.flatten.ensures.refused line kind name is)

pub returns-clause-too_many : goal.returns-clause-too_many
returns-clause-too_many c = λ limit count is.
    subst (λ f. IsRefusal f (refusal.TooMany limit count)) c.in_ok-copy.ensures (c.flatten.ensures.too_many limit count is)
