use Rattle.std.proofs.Common.{ap, ◌≡◌, ◌<◌, subst, Bool, true, length, ℕ}
use Rattle.std.specs.Prelude.{◌≢◌, ◌↔◌}
use Rattle.dom_base.specs.declared.tri.Tri.{Tri}
use Rattle.dom_base.specs.declared.tri.Tri.TheVariants.{Zero}
use Rattle.dom_base.proofs.Bools.{never}
use Rattle.deck.specs.Switches.{value_of}
use Rattle.switch_model.specs.FourDrives.{side, sort_of, tells}
use Rattle.switch_model.specs.LinksData.{is_first}
use Rattle.switch_model.specs.Walks.{PassesSort}
use Rattle.switch_model.proofs.FoundClasses.{found_joint, found_lead, found_skip}
use Rattle.switch_model.proofs.Leading.{none_is_none, the_pair}
use Rattle.switch_model.proofs.Searches.{end-in_range, read_same}
use Rattle.switch_model.proofs.walk.walk.Goals as goal

pub returns-then-is_joint-clause-found : goal.returns-then-is_joint-clause-found
returns-then-is_joint-clause-found c = λ start nets ds inner f.
    let u = c.unite.ensures.united in
    found_joint start nets (is_first c.args.sources) c.args.sort c.args.values.now ds c.args.device c.args.room.now c.unite.new.self u.0 u.1
    inner (c.is_joint.ensures.0 c.if-is_joint.true) u.2 f c.unite.ensures.joined

pub returns-in-Some-clause-found : goal.returns-in-Some-clause-found
returns-in-Some-clause-found c = λ start nets ds inner f.
    let values = c.args.values.now in
    let d = c.args.device in
    let m = c.in-Some.inner in
    let s = c.in-Some.source in
    let h = (c.in-Some.ensures {u = tt}).some in
    let only = (c.in-Some.ensures {u = tt}).only in
    let lt : s < length values = end-in_range (length values) d m s c.requires.device h.1 in
    let by : (definite keepers high : Bool) → (tells c.of_source-drives.result definite keepers high ≡ true) ↔ (PassesSort (sort_of definite keepers) values d × (value_of values s ≢ side high)) =
    subst (λ (v : Tri). (definite keepers high : Bool) → (tells c.of_source-drives.result definite keepers high ≡ true) ↔ (PassesSort (sort_of definite keepers) values d × (v ≢ side high)))
    (read_same values s Zero lt) c.of_source-drives.ensures in
    found_lead start nets (is_first c.args.sources) c.args.sort values ds d c.args.room.now c.drive.new.self c.of_source-drives.result m s
    c.drive.ensures.tops c.drive.ensures.driven c.drive.ensures.charge c.drive.ensures.others (λ j. never (c.is_joint.ensures.1 j) c.if-is_joint.false) h.1 h.2 h.3
    (λ m' s' q e g h'.
    let p = the_pair (m, s) (m', s') (only m' s' q e g h') in
    (ap (λ (x : ℕ × ℕ). x.0) p, ap (λ (x : ℕ × ℕ). x.1) p)) by f

pub returns-in_default-clause-found : goal.returns-in_default-clause-found
returns-in_default-clause-found c = λ start nets ds inner f.
    found_skip start nets (is_first c.args.sources) c.args.sort c.args.values.now ds c.args.device c.args.room.now (λ j. never (c.is_joint.ensures.1 j) c.if-is_joint.false)
    (λ m s q e g h. none_is_none (m, s) ((c.in_default.ensures {u = tt}).only m s q e g h)) f
