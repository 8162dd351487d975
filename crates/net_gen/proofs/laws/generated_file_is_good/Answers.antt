use Rattle.net_flatten.proofs.OneModel.{good_one_model}
use Rattle.net_gen.specs.Generated.{generated_network}
use Rattle.net_gen.proofs.GeneratedNetworks.{generated_is}
use Rattle.net_gen.proofs.laws.generated_file_is_good.Goals as goal

pub returns : goal.returns
returns c = λ seed tables some few. good_one_model (generated_network seed tables) (generated_is seed tables some few)
