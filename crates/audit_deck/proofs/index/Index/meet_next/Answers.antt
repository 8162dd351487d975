use Rattle.std.specs.Prelude.{Some, slice_get}
use Rattle.std.proofs.Common.{get_or, ◌∙◌, ◌≡◌}
use Rattle.std.proofs.lemmas.Option.{slice_get-get_or}
use Rattle.audit_deck.specs.Walks.{IsNext, IsNextBy}
use Rattle.audit_deck.proofs.Found.{first_end}
use Rattle.audit_deck.proofs.Meets.{upto_all, upto_more}
use Rattle.audit_deck.proofs.index.Index.meet_next.Goals as goal

pub loop-place-preserved : goal.loop-place-preserved
loop-place-preserved c =
    let l = c.ending-place-items.result.now in
    let i = c.loop-place.place-index in
    let at : slice_get l i ≡ Some (get_or l i 0) = slice_get-get_or l i 0 c.loop-place-test.true in
    record {
      room = c.in_ok-meet_end.ensures.room ∙ c.loop-place.invariant.room;
      met = upto_more (IsNextBy c.args.self.now.devices c.args.roles c.args.net) l i (get_or l i 0) c.args.met.now.nets c.loop-place.met.nets c.meet_end.new.met.nets at
          c.loop-place.invariant.met c.in_ok-meet_end.ensures.met;
    }

pub returns-clause-met : goal.returns-clause-met
returns-clause-met c =
    let l = c.ending-place-items.result.now in
    upto_all (IsNextBy c.args.self.now.devices c.args.roles c.args.net) l c.loop-place.place-index (IsNext c.args.self.now.devices c.args.roles c.args.net)
    c.args.met.now.nets c.loop-place.met.nets c.loop-place-test.false c.loop-place.invariant.met
    (λ m j p at has. (p, has))
    (λ m (p, (d, there, k, ends, free)).
    let y = c.ending-place-items.ensures.are.full p (d, there, first_end d c.args.net m ends) in (y.0, p, y.1, (d, there, k, ends, free)))
