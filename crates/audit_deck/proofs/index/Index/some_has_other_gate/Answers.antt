use Rattle.std.proofs.Common.{arith, get_or}
use Rattle.std.proofs.lemmas.Option.{slice_get-get_or, slice_get_within}
use Rattle.audit_deck.specs.Loops.{HasOtherGate}
use Rattle.audit_deck.proofs.Scans.{none_past}
use Rattle.audit_deck.proofs.index.Index.some_has_other_gate.Goals as goal

pub returns-then-has_other_gate-clause-yes : goal.returns-then-has_other_gate-clause-yes
returns-then-has_other_gate-clause-yes c = λ e.
    let l = c.args.places.now in
    let i = c.loop-place.place-index in
    (get_or l i 0, (i, slice_get-get_or l i 0 c.loop-place-test.true), c.has_other_gate.ensures.yes c.if-has_other_gate.true)

pub returns-clause-no : goal.returns-clause-no
returns-clause-no c = λ e (p, met, h).
    c.loop-place.invariant met.0 p (let z = slice_get_within c.args.places.now met.0 p met.1 in omega (arith, z, c.loop-place-test.false)) met.1 h

pub loop-place-preserved : goal.loop-place-preserved
loop-place-preserved c =
    let l = c.args.places.now in
    let i = c.loop-place.place-index in
    none_past (HasOtherGate c.args.self.now.devices c.args.roles) l i (get_or l i 0) (slice_get-get_or l i 0 c.loop-place-test.true)
    (c.has_other_gate.ensures.no c.if-has_other_gate.false) c.loop-place.invariant
