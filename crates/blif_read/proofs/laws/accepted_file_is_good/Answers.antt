use Rattle.blif_read.proofs.AcceptedIsGoodModels.{accepted_file}
use Rattle.blif_read.proofs.laws.accepted_file_is_good.Goals as goal

pub returns : goal.returns
returns c = λ text file is. accepted_file text file is
