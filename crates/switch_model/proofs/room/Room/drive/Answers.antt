use Rattle.std.proofs.Common.{arith, ◌∙◌, ◌≡◌, ◌<◌, sym, subst, length, set, List, ℕ}
use Rattle.std.proofs.lemmas.List.{get_or-set_same, get_or_read}
use Rattle.switch_model.specs.Found.{IsWith, class_at}
use Rattle.switch_model.specs.Joins.{top_of}
use Rattle.switch_model.specs.declared.class.Class.{Class}
use Rattle.switch_model.specs.declared.drives.Drives.{Drives}
use Rattle.switch_model.proofs.Forests.{top_low}
use Rattle.switch_model.proofs.room.Room.drive.Goals as goal

pub index-requires : goal.index-requires
index-requires c =
    let r = c.args.self.now in
    let q = c.requires.room in
    let e : c.lift-above.result ≡ top_of r.parents.items c.args.net = c.lift-above.ensures.top in
    omega (arith, e, top_low r.parents.items q.1.forest c.args.net, q.2, q.1.classes, r.classes.ok.0)

pub index_mut-requires : goal.index_mut-requires
index_mut-requires c =
    let r = c.args.self.now in
    let q = c.requires.room in
    let e : c.lift-above.result ≡ top_of r.parents.items c.args.net = c.lift-above.ensures.top in
    omega (arith, e, top_low r.parents.items q.1.forest c.args.net, q.2, q.1.classes, r.classes.ok.0)

-- a class that is written, by the one that was read
with_read : (classes : List Class) (at t : ℕ) (read after : Class) (drives : Drives) → at < length classes → t ≡ at → read ≡ class_at classes at
    → IsWith read.drives drives after.drives → IsWith (class_at classes t).drives drives (class_at (set classes at after) t).drives
with_read classes at t read after drives lt e same both =
    subst (λ (n : ℕ). IsWith (class_at classes n).drives drives (class_at (set classes at after) n).drives) (sym e)
    (subst (λ (c : Class). IsWith (class_at classes at).drives drives c.drives) (sym (get_or-set_same classes at after _ lt))
    (subst (λ (c : Class). IsWith c.drives drives after.drives) same both))

pub returns-clause-driven : goal.returns-clause-driven
returns-clause-driven c = λ t is.
    let r = c.args.self.now in
    let q = c.requires.room in
    let e : c.lift-above.result ≡ top_of r.parents.items c.args.net = c.lift-above.ensures.top in
    let lt : c.lift-above.result < length r.classes.items = omega (arith, e, top_low r.parents.items q.1.forest c.args.net, q.2, q.1.classes) in
    with_read r.classes.items c.lift-above.result t c.index.result.now c.driven-class.result c.args.drives lt (is ∙ sym e)
    (get_or_read r.classes.items c.lift-above.result c.index.result.now lt c.index.ensures _) c.driven-class.ensures.drives
