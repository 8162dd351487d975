use Rattle.std.proofs.Common.{Bool, true, false}
use Rattle.switch_model.specs.Drives.{IsEndOf}
use Rattle.switch_model.specs.Found.{class_of}
use Rattle.switch_model.specs.FourDrives.{IsTold, drives_by, sort_of}
use Rattle.switch_model.specs.LinksData.{is_first}
use Rattle.switch_model.proofs.DriveBits.{told_by}
use Rattle.switch_model.proofs.PlainClasses.{plain_class}
use Rattle.switch_model.proofs.Sweeping.{charged}
use Rattle.switch_model.proofs.ToldTargets.{by_told}
use Rattle.switch_model.proofs.sweep.find_targets.Goals as goal

pub returns-then-plain-clause-swept : goal.returns-then-plain-clause-swept
returns-then-plain-clause-swept g c = λ net member.
    let devices = c.args.wires.now in
    let free = is_first c.args.sources in
    let values = c.args.values.now in
    let nets = c.args.nets.now in
    let places = c.args.places.now in
    let found = c.find_classes-plain.ensures in
    let room = c.find_classes-plain.new.room in
    let charge = charged devices free values nets places room.parents.items c.requires.closed found.class net member (class_of room net).charge (found.charged net member) in
    by_told devices free values net (c.requires.closed.free net member) (class_of room net).drives
    (λ definite keepers. found.driven definite keepers
    (plain_class devices free nets places c.requires.closed values (found.plain c.if-plain.true) definite keepers room.parents.items found.class) net member)
    charge.0 charge.1 (class_of room net).charge charge.2

pub returns-clause-swept : goal.returns-clause-swept
returns-clause-swept g c = λ net member.
    let devices = c.args.wires.now in
    let free = is_first c.args.sources in
    let values = c.args.values.now in
    let nets = c.args.nets.now in
    let places = c.args.places.now in
    let found = c.find_classes-plain.ensures in
    let room = c.find_classes-plain.new.room in
    let charge = charged devices free values nets places room.parents.items c.requires.closed found.class net member (class_of room net).charge (found.charged net member) in
    let told : (definite keepers : Bool) → IsTold (drives_by (class_of c.find_classes.new.room net).drives (class_of c.find_classes-2.new.room net).drives (class_of c.find_classes-3.new.room net).drives
    (class_of room net).drives) definite keepers (IsEndOf devices free values (sort_of definite keepers) net) values =
    told_by values (λ definite keepers. IsEndOf devices free values (sort_of definite keepers) net) _ _ _ _
    (c.find_classes.ensures.driven true false c.find_classes.ensures.class net member) (c.find_classes-2.ensures.driven false false c.find_classes-2.ensures.class net member)
    (c.find_classes-3.ensures.driven true true c.find_classes-3.ensures.class net member) (found.driven false true found.class net member) in
    by_told devices free values net (c.requires.closed.free net member) _ told charge.0 charge.1 (class_of room net).charge charge.2
