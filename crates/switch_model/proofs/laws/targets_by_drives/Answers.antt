use Rattle.switch_model.proofs.ByDrives.{by_drives}
use Rattle.switch_model.proofs.laws.targets_by_drives.Goals as goal

pub returns : goal.returns
returns c = by_drives
