use Rattle.std.specs.Prelude.{Some, slice_get}
use Rattle.std.proofs.Common.{get_or, refl, subst, sym, ◌∙◌, ◌≡◌}
use Rattle.std.proofs.lemmas.Option.{slice_get-get_or}
use Rattle.dom_base.specs.declared.kind.Kind.TheVariants.{N as nch}
use Rattle.audit_deck.specs.Indexes.{EndingAt, HasKind}
use Rattle.audit_deck.specs.Walks.{IsChannelAt}
use Rattle.audit_deck.proofs.Meets.{upto_all, upto_more}
use Rattle.audit_deck.proofs.index.Index.meet_channels_at.Goals as goal

pub loop-place-preserved : goal.loop-place-preserved
loop-place-preserved c =
    let l = c.ending-place-items.result.now in
    let i = c.loop-place.place-index in
    let at : slice_get l i ≡ Some (get_or l i 0) = slice_get-get_or l i 0 c.loop-place-test.true in
    record {
      room = c.in_ok-meet_channel.ensures.room ∙ c.loop-place.invariant.room;
      met = upto_more (λ place p. (p ≡ place) × HasKind c.args.self.now.devices nch p) l i (get_or l i 0) c.args.met.now.nets c.loop-place.met.nets
          c.meet_channel.new.met.nets at c.loop-place.invariant.met c.in_ok-meet_channel.ensures.met;
    }

pub returns-clause-met : goal.returns-clause-met
returns-clause-met c =
    let l = c.ending-place-items.result.now in
    let ds = c.args.self.now.devices in
    upto_all (λ place p. (p ≡ place) × HasKind ds nch p) l c.loop-place.place-index (IsChannelAt ds c.args.net)
    c.args.met.now.nets c.loop-place.met.nets c.loop-place-test.false c.loop-place.invariant.met
    (λ m j p at has. (subst (EndingAt ds c.args.net) (sym has.0) (c.ending-place-items.ensures.are.sound j p at), has.1))
    (λ m has. let y = c.ending-place-items.ensures.are.full m has.0 in (y.0, m, y.1, (refl, has.1)))
