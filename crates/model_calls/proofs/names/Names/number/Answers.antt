use Rattle.std.proofs.Common.{◌≡◌, Some, subst}
use Rattle.std.specs.Prelude.{Contains, MatchOption, slice_get}
use Rattle.model_calls.proofs.NameNumbers.{looked_up}
use Rattle.model_calls.proofs.names.Names.number.Goals as goal

pub returns : goal.returns
returns c =
    subst (λ names. MatchOption c.get_index_of.result (Contains names c.args.name.now → ⊥) (λ n. slice_get names n ≡ Some c.args.name.now)) c.self.view_is
    (looked_up (λ k. k.now) c.args.name.now c.self.inside.set.keys c.get_index_of.result c.get_index_of.ensures.index c.get_index_of.ensures.found)
