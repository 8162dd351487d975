use Rattle.spice_text.proofs.ReadBack.{read_back}
use Rattle.spice_read.proofs.OneAnswer.{deck_once}
use Rattle.spice_read.proofs.laws.written_is_read.Goals as goal

pub returns : goal.returns
returns c = λ d text whole good written. deck_once text d (read_back d text record { is = whole.numbered; names = whole.names; good = good } written)
