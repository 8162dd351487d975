use Rattle.std.specs.Prelude.{Some, slice_get}
use Rattle.std.proofs.Common.{get_or, ◌≡◌}
use Rattle.std.proofs.lemmas.Option.{slice_get-get_or}
use Rattle.audit_deck.specs.Latches.{Covers}
use Rattle.audit_deck.proofs.Checks.{all_before, covered}
use Rattle.audit_deck.proofs.Scans.{all_past}
use Rattle.audit_deck.proofs.index.Index.are_covered.Goals as goal

pub loop-net-preserved : goal.loop-net-preserved
loop-net-preserved c =
    let l = c.args.nets.now in
    let i = c.loop-net.net-index in
    let at : slice_get l i ≡ Some (get_or l i 0) = slice_get-get_or l i 0 c.loop-net-test.true in
    all_past (Covers c.args.self.now.devices c.args.places.now) l i (get_or l i 0) at
    (covered c.args.self.now.devices (get_or l i 0) c.ending.result.now c.ending.ensures.are c.args.places.now
    (c.are_among.ensures.yes c.if-not-are_among.false))
    c.loop-net.invariant

pub returns-clause-yes : goal.returns-clause-yes
returns-clause-yes c = λ e.
    all_before (Covers c.args.self.now.devices c.args.places.now) c.args.nets.now c.loop-net.net-index c.loop-net-test.false c.loop-net.invariant
