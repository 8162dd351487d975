use Rattle.std.proofs.Common.{arith, ap, ◌∙◌, ◌≡◌, ◌<◌, length, List, ℕ}
use Rattle.std.proofs.lemmas.List.{get_or_read}
use Rattle.switch_model.specs.Found.{class_at}
use Rattle.switch_model.specs.Joins.{top_of}
use Rattle.switch_model.proofs.Forests.{top_low}
use Rattle.switch_model.proofs.room.Room.class.Goals as goal

pub index-requires : goal.index-requires
index-requires c =
    let r = c.args.self.now in
    let q = c.requires.room in
    let e : c.top.result ≡ top_of r.parents.items c.args.net = c.top.ensures ∙ ap (λ (l : List ℕ). top_of l c.args.net) c.as_slice.ensures.value in
    omega (arith, e, top_low r.parents.items q.1.forest c.args.net, q.2, q.1.classes, r.classes.ok.0)

pub returns : goal.returns
returns c =
    let r = c.args.self.now in
    let q = c.requires.room in
    let e : c.top.result ≡ top_of r.parents.items c.args.net = c.top.ensures ∙ ap (λ (l : List ℕ). top_of l c.args.net) c.as_slice.ensures.value in
    let lt : c.top.result < length r.classes.items = omega (arith, e, top_low r.parents.items q.1.forest c.args.net, q.2, q.1.classes) in
    get_or_read r.classes.items c.top.result c.index.result.now lt c.index.ensures _ ∙ ap (class_at r.classes.items) e
