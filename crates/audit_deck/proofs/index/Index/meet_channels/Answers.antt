use Rattle.std.specs.Prelude.{Some, slice_get}
use Rattle.std.proofs.Common.{[], get_or, ◌∙◌, ◌≡◌}
use Rattle.std.proofs.lemmas.Option.{slice_get-get_or}
use Rattle.audit_deck.specs.Walks.{IsChannelAmong, IsChannelAt}
use Rattle.audit_deck.proofs.Meets.{are_met, upto_all, upto_more}
use Rattle.audit_deck.proofs.index.Index.meet_channels.Goals as goal

pub loop-net-preserved : goal.loop-net-preserved
loop-net-preserved c =
    let l = c.args.nets.now in
    let i = c.loop-net.net-index in
    let at : slice_get l i ≡ Some (get_or l i 0) = slice_get-get_or l i 0 c.loop-net-test.true in
    record {
      room = c.in_ok-meet_channels_at.ensures.room ∙ c.loop-net.invariant.room;
      met = upto_more (IsChannelAt c.args.self.now.devices) l i (get_or l i 0) [] c.loop-net.met.nets
          c.meet_channels_at.new.met.nets at c.loop-net.invariant.met c.in_ok-meet_channels_at.ensures.met;
    }

pub returns-clause-met : goal.returns-clause-met
returns-clause-met c =
    are_met (IsChannelAmong c.args.self.now.devices c.args.nets.now) c.loop-net.met.nets
    (upto_all (IsChannelAt c.args.self.now.devices) c.args.nets.now c.loop-net.net-index (IsChannelAmong c.args.self.now.devices c.args.nets.now)
    [] c.loop-net.met.nets c.loop-net-test.false c.loop-net.invariant.met
    (λ m j p at has. (p, (j, at), has))
    (λ m has. (has.1.0, has.0, has.1.1, has.2)))
    c.nets-met.ensures.once
