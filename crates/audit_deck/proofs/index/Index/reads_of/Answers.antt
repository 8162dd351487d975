use Rattle.std.proofs.Common.{subst, sym}
use Rattle.dom_base.proofs.Options.{if_ok-weaker}
use Rattle.deck_audit.specs.Words.{IsDynamic}
use Rattle.audit_deck.specs.Indexes.{AreThose}
use Rattle.audit_deck.specs.Loops.{HasThose, IsReachedAt, IsReader}
use Rattle.audit_deck.proofs.MarkedNets.{mark_no, mark_yes}
use Rattle.audit_deck.proofs.ReadNets.{has_none, reads_are}
use Rattle.audit_deck.proofs.index.Index.reads_of.Goals as goal

pub returns-then-not-has-clause-are : goal.returns-then-not-has-clause-are
returns-then-not-has-clause-are c =
    subst (HasThose (IsReader c.args.self.now.devices c.args.roles c.args.net)) (sym c.new.ensures.items)
    (has_none (IsReader c.args.self.now.devices c.args.roles c.args.net) (λ y r.
    mark_no (IsDynamic c.args.self.now.devices c.args.roles) c.args.self.now.nets c.args.marks.now.dynamic c.requires.marked.dynamic c.args.net c.has.result
    c.has.ensures c.if-not-has.true r.0))

pub returns-clause-are : goal.returns-clause-are
returns-clause-are c =
    let ds = c.args.self.now.devices in
    let roles = c.args.roles in
    let l = c.nets.result.now in
    let are = subst (AreThose (IsReachedAt ds roles c.args.net)) (sym c.nets.ensures.nets) c.in_ok-meet_cell.ensures.met in
    let dynamic =
    mark_yes (IsDynamic ds roles) c.args.self.now.nets c.args.marks.now.dynamic c.requires.marked.dynamic c.args.net c.has.result c.has.ensures
    c.if-not-has.false in
    if_ok-weaker c.reads_among.result (λ reads h. reads_are ds roles c.args.net l are dynamic reads.items h) c.reads_among.ensures
