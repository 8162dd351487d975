use Rattle.std.proofs.Common.{subst, sym}
use Rattle.std.specs.Prelude.{IfOk}
use Rattle.blif_ast.specs.Good.{IsGoodFile}
use Rattle.model_calls.specs.Refusal as refusal
use Rattle.model_calls.specs.Refusals.{IsRefusal}
use Rattle.net_flatten.specs.Flattening.{IsNetworkOf}
use Rattle.net_flatten.proofs.flattening.flatten.Goals as goal

pub flatten_closed-requires-clause-good : goal.flatten_closed-requires-clause-good
flatten_closed-requires-clause-good c = subst IsGoodFile (sym c.in_ok-numbered.ensures.file) c.requires.good

pub returns-clause-network : goal.returns-clause-network
returns-clause-network c = subst (λ f. IfOk c.flatten_closed.result (IsNetworkOf f)) c.in_ok-numbered.ensures.file c.flatten_closed.ensures.network

pub returns-clause-refused : goal.returns-clause-refused
returns-clause-refused c = λ line kind name is.
    subst (λ f. IsRefusal f (refusal.At kind line name)) c.in_ok-numbered.ensures.file (c.flatten_closed.ensures.refused line kind name is)

pub returns-clause-too_many : goal.returns-clause-too_many
returns-clause-too_many c = λ limit count is.
    subst (λ f. IsRefusal f (refusal.TooMany limit count)) c.in_ok-numbered.ensures.file (c.flatten_closed.ensures.too_many limit count is)
