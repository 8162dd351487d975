use Rattle.std.proofs.Common.{subst}
use Rattle.std.specs.Prelude.{Contains}
use Rattle.deck_audit.specs.Words.{own_nets}
use Rattle.found_decks.specs.FoundDecks.{FoundLatch}
use Rattle.audit_deck.specs.Walks.{MeetsThose}
use Rattle.audit_deck.proofs.LatchLists.{six_met}
use Rattle.link_reduce.proofs.Options.{on_ok}
use Rattle.audit_deck.proofs.latches.meet_own.Goals as goal

pub returns-clause-met : goal.returns-clause-met
returns-clause-met c =
    on_ok c.add-6.result
    (λ h. subst (λ (v : FoundLatch). MeetsThose (Contains (own_nets v.group)) c.args.met.now.nets c.add-6.new.self.nets) c.group.view_is
    (six_met
    (record { master = c.group.inside.master; master_up = c.group.inside.master_up; master_down = c.group.inside.master_down; data_net = c.group.inside.data_net; output = c.group.inside.output; output_up = c.group.inside.output_up; output_down = c.group.inside.output_down; start = c.group.inside.start })
    c.args.met.now.nets c.add.new.self.nets c.add-2.new.self.nets c.add-3.new.self.nets c.add-4.new.self.nets c.add-5.new.self.nets
    c.add-6.new.self.nets c.in_ok-add.ensures.added c.in_ok-add-2.ensures.added c.in_ok-add-3.ensures.added c.in_ok-add-4.ensures.added c.in_ok-add-5.ensures.added h))
    c.add-6.ensures.added
