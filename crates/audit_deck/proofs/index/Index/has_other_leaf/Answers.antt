use Rattle.std.proofs.Common.{subst, sym}
use Rattle.deck_audit.specs.Words.{IsDynamic}
use Rattle.audit_deck.specs.Indexes.{AreThose}
use Rattle.audit_deck.specs.Loops.{IsReachedAt}
use Rattle.audit_deck.proofs.MarkedNets.{mark_no, mark_yes}
use Rattle.audit_deck.proofs.ReadNets.{no_other_leaf, other_leaf}
use Rattle.audit_deck.proofs.index.Index.has_other_leaf.Goals as goal

pub returns-then-not-has-clause-no : goal.returns-then-not-has-clause-no
returns-then-not-has-clause-no c = λ e h.
    mark_no (IsDynamic c.args.self.now.devices c.args.roles) c.args.self.now.nets c.args.marks.now.dynamic c.requires.marked.dynamic c.args.net c.has.result
    c.has.ensures c.if-not-has.true h.0

pub returns-clause-yes : goal.returns-clause-yes
returns-clause-yes c = λ e.
    let ds = c.args.self.now.devices in
    let roles = c.args.roles in
    let l = c.nets.result.now in
    let are = subst (AreThose (IsReachedAt ds roles c.args.net)) (sym c.nets.ensures.nets) c.in_ok-meet_cell.ensures.met in
    let dynamic =
    mark_yes (IsDynamic ds roles) c.args.self.now.nets c.args.marks.now.dynamic c.requires.marked.dynamic c.args.net c.has.result c.has.ensures
    c.if-not-has.false in
    other_leaf ds roles c.args.net l are dynamic (c.some_has_other_gate.ensures.yes e)

pub returns-clause-no : goal.returns-clause-no
returns-clause-no c = λ e.
    let ds = c.args.self.now.devices in
    let are = subst (AreThose (IsReachedAt ds c.args.roles c.args.net)) (sym c.nets.ensures.nets) c.in_ok-meet_cell.ensures.met in
    no_other_leaf ds c.args.roles c.args.net c.nets.result.now are (c.some_has_other_gate.ensures.no e)
