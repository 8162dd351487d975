use Rattle.net_gen.proofs.GeneratedNetworks.{generated_is}
use Rattle.net_gen.proofs.laws.generated_is_network.Goals as goal

pub returns : goal.returns
returns c = λ seed tables some few. generated_is seed tables some few
