use Rattle.std.specs.List.{AllByRecursion}
use Rattle.std.proofs.Common.{subst}
use Rattle.std.proofs.lemmas.List.{take_rest}
use Rattle.audit_deck.specs.Latches.{Covers, GatesNone}
use Rattle.audit_deck.proofs.index.Index.stands_alone.Goals as goal

pub returns-clause-yes : goal.returns-clause-yes
returns-clause-yes c = λ e.
    let ds = c.args.self.now.devices in
    let nets = c.args.nets.now in
    record {
      differ = c.are_distinct.ensures.yes c.if-not-are_distinct.false;
      no_ports = c.are_inner.ensures.yes c.if-not-are_inner.false;
      covered = subst (AllByRecursion (Covers ds c.args.places.now)) (take_rest nets 1) (c.are_covered.ensures.yes c.if-not-are_covered.false);
      gate_none = subst (AllByRecursion (GatesNone ds)) (take_rest nets 3) (c.gate_none.ensures.yes c.if-not-gate_none.false);
      own = λ p d at g. let y = c.gating.ensures.are.full p (d, at, g) in c.are_among.ensures.yes e y.0 p y.1;
    }
