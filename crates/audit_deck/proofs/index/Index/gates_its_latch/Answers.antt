use Rattle.std.proofs.Common.{length}
use Rattle.std.proofs.lemmas.Bool.{eqb-false, eqb-true}
use Rattle.deck_audit.specs.Words.{IsLatchData}
use Rattle.audit_deck.proofs.MarkedNets.{mark_yes}
use Rattle.audit_deck.proofs.NetUses.{gates_two, two_gated}
use Rattle.audit_deck.proofs.index.Index.gates_its_latch.Goals as goal

pub returns-clause-yes : goal.returns-clause-yes
returns-clause-yes c = λ e.
    let l = c.gating.result.now in
    gates_two c.args.self.now.devices c.args.roles c.args.net l c.gating.ensures.are (eqb-true (length l) 2 e)

pub returns-clause-no : goal.returns-clause-no
returns-clause-no c = λ e own.
    let ds = c.args.self.now.devices in
    let l = c.gating.result.now in
    let (g, places, is, same) =
    mark_yes (IsLatchData ds c.args.roles) c.args.self.now.nets c.args.marks.now.latch_data c.requires.marked.latch_data c.args.net c.has.result c.has.ensures
    c.if-not-has.false in
    eqb-false (length l) 2 e (two_gated ds c.args.roles c.args.net l c.gating.ensures.are g places is same own)
