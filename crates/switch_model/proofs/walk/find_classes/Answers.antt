use Rattle.switch_model.specs.Found.{class_of}
use Rattle.switch_model.specs.FourDrives.{sort_of}
use Rattle.switch_model.specs.LinksData.{is_first}
use Rattle.switch_model.proofs.Classes.{class_joined}
use Rattle.switch_model.proofs.FoundClasses.{found_flat, found_none}
use Rattle.switch_model.proofs.SharedClasses.{shared_told}
use Rattle.switch_model.proofs.walk.find_classes.Goals as goal

pub walk_all-plain-requires-clause-started : goal.walk_all-plain-requires-clause-started
walk_all-plain-requires-clause-started g c =
    found_none c.args.nets.now (is_first c.args.sources) c.args.sort c.args.values.now c.start.new.self c.start.ensures.alone c.start.ensures.drives c.start.ensures.charge

pub returns-clause-class : goal.returns-clause-class
returns-clause-class g c =
    let free = is_first c.args.sources in
    let found = c.walk_all-plain.ensures.found in
    let f = found_flat c.start.new.self.parents.items c.args.nets.now free c.args.sort c.args.values.now found.0 c.walk_all-plain.new.room c.flatten.new.self
    c.flatten.ensures.tops c.flatten.ensures.classes found.2 in
    class_joined c.args.wires.now free c.args.nets.now c.args.places.now c.requires.closed c.args.sort c.args.values.now c.start.new.self.parents.items c.flatten.new.self.parents.items
    c.start.ensures.alone found.0 found.1 f.joined

pub returns-clause-driven : goal.returns-clause-driven
returns-clause-driven g c = λ definite keepers class net member.
    let free = is_first c.args.sources in
    let found = c.walk_all-plain.ensures.found in
    let f = found_flat c.start.new.self.parents.items c.args.nets.now free c.args.sort c.args.values.now found.0 c.walk_all-plain.new.room c.flatten.new.self
    c.flatten.ensures.tops c.flatten.ensures.classes found.2 in
    shared_told c.args.wires.now free c.args.nets.now c.args.places.now c.requires.closed c.args.values.now (sort_of definite keepers) c.flatten.new.self.parents.items class
    found.0 found.1 net member (class_of c.flatten.new.self net).drives definite keepers (f.driven definite keepers net member)

pub returns-clause-charged : goal.returns-clause-charged
returns-clause-charged g c = λ net member.
    let found = c.walk_all-plain.ensures.found in
    let f = found_flat c.start.new.self.parents.items c.args.nets.now (is_first c.args.sources) c.args.sort c.args.values.now found.0 c.walk_all-plain.new.room c.flatten.new.self
    c.flatten.ensures.tops c.flatten.ensures.classes found.2 in
    f.charged net member
