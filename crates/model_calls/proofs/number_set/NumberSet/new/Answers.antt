use Rattle.std.proofs.Common.{◌≡◌, sym, ◌∙◌, ap, subst, replicate, arith}
use Rattle.std.specs.Prelude.{[], false}
use Rattle.model_calls.specs.NumberSets.{IsSetOf}
use Rattle.model_calls.proofs.NumberSets.{empty_set}
use Rattle.model_calls.proofs.number_set.NumberSet.new.Goals as goal

pub returns : goal.returns
returns c = let all : c.args.bound ≡ c.loop.counter = omega arith in
    subst (IsSetOf c.args.bound []) (ap (λ n. replicate n false) all ∙ sym c.loop.invariant) (empty_set c.args.bound)
