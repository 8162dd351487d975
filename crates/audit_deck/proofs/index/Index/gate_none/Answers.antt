use Rattle.std.specs.Prelude.{Some, slice_get}
use Rattle.std.proofs.Common.{arith, get_or, ◌≡◌}
use Rattle.std.proofs.lemmas.Option.{slice_get-get_or}
use Rattle.audit_deck.specs.Latches.{GatesNone}
use Rattle.audit_deck.proofs.Checks.{all_before, gates_none}
use Rattle.audit_deck.proofs.Scans.{all_past}
use Rattle.audit_deck.proofs.index.Index.gate_none.Goals as goal

pub loop-net-preserved : goal.loop-net-preserved
loop-net-preserved c =
    let l = c.args.nets.now in
    let i = c.loop-net.net-index in
    let at : slice_get l i ≡ Some (get_or l i 0) = slice_get-get_or l i 0 c.loop-net-test.true in
    all_past (GatesNone c.args.self.now.devices) l i (get_or l i 0) at
    (gates_none c.args.self.now.devices (get_or l i 0) c.gating.result.now c.gating.ensures.are (omega (arith, c.if-gating-ne0.false)))
    c.loop-net.invariant

pub returns-clause-yes : goal.returns-clause-yes
returns-clause-yes c = λ e.
    all_before (GatesNone c.args.self.now.devices) c.args.nets.now c.loop-net.net-index c.loop-net-test.false c.loop-net.invariant
