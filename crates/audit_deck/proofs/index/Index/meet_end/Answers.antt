use Rattle.audit_deck.proofs.Reaches.{end_met}
use Rattle.link_reduce.proofs.Options.{on_ok}
use Rattle.audit_deck.proofs.index.Index.meet_end.Goals as goal

pub returns-clause-met : goal.returns-clause-met
returns-clause-met c = on_ok c.add.result
    (end_met c.args.self.now.devices c.args.roles c.args.net c.args.place c.far_end-far.result c.device.result c.device.ensures.there
    (c.has_kind.ensures.yes c.if-not-has_kind.false) c.far_end-far.ensures (c.is_free.ensures.yes c.if-not-is_free.false) c.args.met.now.nets c.add.new.self.nets)
    c.add.ensures.added
