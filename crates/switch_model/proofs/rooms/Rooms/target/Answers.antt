use Rattle.std.proofs.Common.{ap, ◌∙◌, ◌≡◌}
use Rattle.switch_model.specs.Found.{class_of}
use Rattle.switch_model.specs.FourDrives.{target_by_drives}
use Rattle.switch_model.specs.Sweeps.{drives_in}
use Rattle.switch_model.specs.declared.class.Class.{Class}
use Rattle.switch_model.specs.declared.drives.Drives.{Drives}
use Rattle.switch_model.proofs.rooms.Rooms.target.Goals as goal

pub class-class-requires : goal.class-class-requires
class-class-requires c = let q = c.requires in record { room = (q.0, q.1.possible, q.2) }

pub drives_by-drives-requires-clause-possible : goal.drives_by-drives-requires-clause-possible
drives_by-drives-requires-clause-possible c = ap (λ (x : Class). x.drives) c.class-class.ensures

pub returns : goal.returns
returns c =
    let drives = drives_in c.args.plain c.args.self.now c.args.net in
    let first : target_by_drives c.drives_by-drives.result c.class-class.result.charge ≡ target_by_drives drives c.class-class.result.charge =
    ap (λ (x : Drives). target_by_drives x c.class-class.result.charge) c.drives_by-drives.ensures in
    let second : target_by_drives drives c.class-class.result.charge ≡ target_by_drives drives (class_of c.args.self.now.possible c.args.net).charge =
    ap (λ (x : Class). target_by_drives drives x.charge) c.class-class.ensures in
    c.target_from.ensures ∙ first ∙ second
