use Rattle.switch_model.proofs.DriveBits.{has_or}
use Rattle.switch_model.proofs.drives.Drives.with.Goals as goal

pub returns : goal.returns
returns c = λ definite keepers high. has_or c.args.self.bits c.args.other.bits definite keepers high
