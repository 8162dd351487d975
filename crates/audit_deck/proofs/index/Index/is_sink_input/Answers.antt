use Rattle.std.proofs.Common.{arith, inl, inr}
use Rattle.deck_audit.specs.Words.{IsDynamic}
use Rattle.audit_deck.proofs.MarkedNets.{mark_no, mark_yes}
use Rattle.audit_deck.proofs.NetUses.{leaf_for_sink, sink_leaf}
use Rattle.audit_deck.proofs.index.Index.is_sink_input.Goals as goal

pub has-requires : goal.has-requires
has-requires c = let z = c.requires.marked.dynamic.count in omega (arith, z, c.requires.within)

pub returns-then-has-clause-yes : goal.returns-then-has-clause-yes
returns-then-has-clause-yes c = λ e.
    inl (mark_yes (IsDynamic c.args.self.now.devices c.args.roles) c.args.self.now.nets c.args.marks.now.dynamic c.requires.marked.dynamic c.args.net c.has.result
    c.has.ensures c.if-has.true)

pub returns-clause-yes : goal.returns-clause-yes
returns-clause-yes c = λ e. leaf_for_sink c.args.self.now.devices c.args.roles c.args.net (c.is_leaf_net.ensures.yes e)
