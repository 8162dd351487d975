use Rattle.std.specs.Prelude.{Some, slice_get}
use Rattle.std.proofs.Common.{ap, arith, get_or, length, subst, ℕ, ◌<◌, ◌∙◌, ◌≡◌, ◌≤◌}
use Rattle.std.proofs.lemmas.Option.{slice_get-get_or}
use Rattle.audit_deck.proofs.Reaches.{walk_begun, walk_done, walk_on}
use Rattle.audit_deck.proofs.index.Index.reach.Goals as goal

pub nets-init : goal.nets-init
nets-init c = record {
  room = c.in_ok-add.ensures.room ∙ c.clear.ensures.room ∙ c.requires.room;
  walking = walk_begun c.args.self.now.devices c.args.roles c.args.start c.clear.new.self.nets c.add.new.self.nets c.clear.ensures.none c.in_ok-add.ensures.added;
}

pub nets-preserved : goal.nets-preserved
nets-preserved c =
    let l = c.nets-in-nets-2.result.now in
    let same = c.nets-in-nets-2.ensures.nets in
    let m : ℕ = get_or l c.nets.done 0 in
    let lt : c.nets.done < length l = omega (arith, c.nets-test.true, ap length same, ap length c.nets-in-nets.ensures.nets) in
    let at : slice_get c.nets.met.nets c.nets.done ≡ Some m =
    subst (λ k. slice_get k c.nets.done ≡ Some m) same (slice_get-get_or l c.nets.done 0 lt) in
    record {
      room = c.in_ok-meet_next.ensures.room ∙ c.nets.invariant.room;
      walking = walk_on c.args.self.now.devices c.args.roles c.args.start c.nets.met.nets c.meet_next.new.met.nets c.nets.done m c.nets.invariant.walking at
          c.in_ok-meet_next.ensures.met;
    }

pub returns-clause-reached : goal.returns-clause-reached
returns-clause-reached c =
    let all : length c.nets.met.nets ≤ c.nets.done = omega (arith, c.nets-test.false, ap length c.nets-in-nets.ensures.nets) in
    walk_done c.args.self.now.devices c.args.roles c.args.start c.nets.met.nets c.nets.done c.nets.invariant.walking all c.nets-in-nets.ensures.once
