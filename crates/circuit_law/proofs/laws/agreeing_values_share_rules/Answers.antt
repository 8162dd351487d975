use Rattle.circuit_law.proofs.Agree.{ByPaths-same}
use Rattle.circuit_law.proofs.laws.agreeing_values_share_rules.Goals as goal

pub returns : goal.returns
returns c = λ devices is_source values values' a net. ByPaths-same devices is_source values values' a net (λ w. ⊥) (λ w. ⊥) (λ v h. h)
