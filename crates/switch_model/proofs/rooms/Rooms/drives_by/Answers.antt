use Rattle.std.proofs.Common.{ap, ◌∙◌, ◌≡◌, Bool, true, false, ℕ}
use Rattle.switch_model.specs.Found.{class_of}
use Rattle.switch_model.specs.FourDrives.{drives_by}
use Rattle.switch_model.specs.Sweeps.{drives_in}
use Rattle.switch_model.specs.declared.class.Class.{Class}
use Rattle.switch_model.specs.declared.drives.Drives.{Drives}
use Rattle.switch_model.specs.declared.rooms.Rooms.{Rooms}
use Rattle.switch_model.proofs.rooms.Rooms.drives_by.Goals as goal

at_once : (plain : Bool) (rooms : Rooms) (net : ℕ) (d : Drives) → plain ≡ true → d ≡ (class_of rooms.possible net).drives → d ≡ drives_in plain rooms net
at_once true rooms net d e is = is
at_once false rooms net d e is = absurd (cc)

by_each : (plain : Bool) (rooms : Rooms) (net : ℕ) (a b c : Class) (d : Drives) → plain ≡ false → a ≡ class_of rooms.strong_definite net → b ≡ class_of rooms.strong_possible net
    → c ≡ class_of rooms.definite net → d ≡ (class_of rooms.possible net).drives → drives_by a.drives b.drives c.drives d ≡ drives_in plain rooms net
by_each true rooms net a b c d e ea eb ec ed = absurd (cc)
by_each false rooms net a b c d e ea eb ec ed =
    ap (λ (x : Class). drives_by x.drives b.drives c.drives d) ea
    ∙ ap (λ (x : Class). drives_by (class_of rooms.strong_definite net).drives x.drives c.drives d) eb
    ∙ ap (λ (x : Class). drives_by (class_of rooms.strong_definite net).drives (class_of rooms.strong_possible net).drives x.drives d) ec
    ∙ ap (λ (x : Drives). drives_by (class_of rooms.strong_definite net).drives (class_of rooms.strong_possible net).drives (class_of rooms.definite net).drives x) ed

pub class-requires : goal.class-requires
class-requires c = let q = c.requires.rooms in record { room = (q.0, q.1.strong_definite, q.2) }

pub class-requires-2 : goal.class-requires-2
class-requires-2 c = let q = c.requires.rooms in record { room = (q.0, q.1.strong_possible, q.2) }

pub class-requires-3 : goal.class-requires-3
class-requires-3 c = let q = c.requires.rooms in record { room = (q.0, q.1.definite, q.2) }

pub returns-then-plain : goal.returns-then-plain
returns-then-plain c = at_once c.args.plain c.args.self.now c.args.net c.args.possible c.if-plain.true c.requires.possible

pub returns : goal.returns
returns c =
    c.by_sort.ensures ∙ by_each c.args.plain c.args.self.now c.args.net c.class.result c.class-2.result c.class-3.result c.args.possible c.if-plain.false
    c.class.ensures c.class-2.ensures c.class-3.ensures c.requires.possible
