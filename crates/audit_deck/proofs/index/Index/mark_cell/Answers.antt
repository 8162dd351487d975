use Rattle.audit_deck.proofs.MarkedNets.{adds_none, adds_same}
use Rattle.deck_audit.specs.Words.{IsDynamic, Reached}
use Rattle.audit_deck.specs.Indexes.{AreThose}
use Rattle.audit_deck.specs.Numberings.{IsMet}
use Rattle.std.proofs.Common.{subst, sym}
use Rattle.audit_deck.proofs.index.Index.mark_cell.Goals as goal

pub returns-then-not-is_dynamic-clause-marked : goal.returns-then-not-is_dynamic-clause-marked
returns-then-not-is_dynamic-clause-marked c =
    adds_none (λ n. IsDynamic c.args.self.now.devices c.args.roles c.args.net × Reached c.args.self.now.devices c.args.roles c.args.net n) c.args.marks.now
    (λ n h. c.is_dynamic.ensures.no c.if-not-is_dynamic.true h.0)

pub returns-clause-marked : goal.returns-clause-marked
returns-clause-marked c =
    let ds = c.args.self.now.devices in
    let l = c.nets.result.now in
    let reached = subst (AreThose (Reached ds c.args.roles c.args.net)) (sym c.nets.ensures.nets) c.in_ok-reach.ensures.reached in
    adds_same (IsMet l) (λ n. IsDynamic ds c.args.roles c.args.net × Reached ds c.args.roles c.args.net n) c.args.marks.now c.mark_all.new.self
    (λ n met. (c.is_dynamic.ensures.yes c.if-not-is_dynamic.false, reached.sound met.0 n met.1))
    (λ n h. reached.full n h.1)
    c.mark_all.ensures
