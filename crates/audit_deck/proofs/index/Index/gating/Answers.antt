use Rattle.std.proofs.lemmas.Option.{slice_get-get_or, slice_get_within}
use Rattle.std.proofs.Common.{ap, arith, get_or, length, subst, sym}
use Rattle.link_reduce.specs.Parts.{listed}
use Rattle.audit_deck.specs.Indexes.{AreThose, GatedBy, IndexData}
use Rattle.audit_deck.proofs.Listings.{all_those}
use Rattle.audit_deck.proofs.index.Index.gating.Goals as goal

are : (c : goal.After-at) → AreThose (GatedBy c.args.self.now.devices c.args.net) c.at.result.now
are c =
    let devices = ap (λ (v : IndexData). v.devices) c.self.view_is in
    let nets = ap (λ (v : IndexData). v.nets) c.self.view_is in
    let ds = c.self.inside.devices.now in
    let count = c.self.invariant.gates.count in
    subst (λ l. AreThose (GatedBy l c.args.net) c.at.result.now) devices
    (subst (AreThose (GatedBy ds c.args.net)) (sym c.at.ensures)
    (all_those (GatedBy ds c.args.net) (length ds) (listed c.self.inside.gating c.args.net) (λ p e. slice_get_within ds p e.0 e.1)
    (c.self.invariant.gates.each c.args.net (omega (arith, c.requires, nets, count)))))

pub returns-clause-are : goal.returns-clause-are
returns-clause-are c = are c

pub returns-clause-places : goal.returns-clause-places
returns-clause-places c = λ i x lt.
    let p = get_or c.at.result.now i x in
    let y = (are c).sound i p (slice_get-get_or c.at.result.now i x lt) in
    slice_get_within c.args.self.now.devices p y.0 y.1
