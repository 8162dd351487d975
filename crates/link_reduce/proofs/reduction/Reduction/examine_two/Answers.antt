use Rattle.std.proofs.Common.{[], ap, arith, length, subst, sym, ◌<◌, ◌∙◌, ◌∷◌, ◌≡◌}
use Rattle.std.proofs.lemmas.Result.{on_ok_weaker}
use Rattle.dom_base.proofs.Lists.{Contains-first}
use Rattle.link_reduce.specs.Reductions.{Holds, Settles, with_listed}
use Rattle.link_reduce.proofs.Examined.{first_settles, held_part, leads_still, put_first, put_second, second_settles, still_holds, three_settle}
use Rattle.link_reduce.proofs.Taken.{settles_from}
use Rattle.link_reduce.proofs.reduction.Reduction.examine_two.Goals as goal

pub join_series-requires-clause-holding : goal.join_series-requires-clause-holding
join_series-requires-clause-holding c =
    let o = c.requires.holding in
    let held = c.args.second ∷ c.args.first ∷ [] in (
      o.0,
      o.1,
      still_holds o.0 o.1 held held c.args.net c.args.self.now c.take_live.new.self c.take_live.ensures.same c.take_live.ensures.room
          (c.in_default.ensures.none held) o.2,
    )

pub returns-in_default : goal.returns-in_default
returns-in_default c =
    let held = c.args.second ∷ c.args.first ∷ [] in
    on_ok_weaker c.join_series.result
    (λ s a b na nb. settles_from a b held held c.args.net c.args.self.now c.take_live.new.self c.take_live.ensures.same c.take_live.ensures.room
    (c.in_default.ensures.none held) c.join_series.new.self (s a b na nb))
    c.join_series.ensures

pub far_end-other-requires : goal.far_end-other-requires
far_end-other-requires c =
    let o = c.requires.holding in
    let held = c.args.second ∷ c.args.first ∷ [] in
    held_part o.0 o.1 (c.in-Some.third ∷ held) c.args.net c.take_live.new.self
    (still_holds o.0 o.1 held (c.in-Some.third ∷ held) c.args.net c.args.self.now c.take_live.new.self c.take_live.ensures.same c.take_live.ensures.room
    (c.in-Some.ensures.some held) o.2) c.in-Some.third (Contains-first c.in-Some.third held)

pub join_parallel-requires-clause-holding : goal.join_parallel-requires-clause-holding
join_parallel-requires-clause-holding c =
    let o = c.requires.holding in
    let held = c.args.second ∷ c.args.first ∷ [] in
    let mid = c.take_live.new.self in
    let lt : c.args.net < length mid.at = omega (arith, c.requires.within, c.take_live.ensures.room) in (
      o.0,
      o.1,
      subst (Holds o.0 o.1 (c.in-Some.third ∷ c.args.first ∷ []) c.args.net) (sym c.in_ok-put.ensures)
          (put_second o.0 o.1 c.args.net c.args.first c.args.second c.in-Some.third mid lt
          (still_holds o.0 o.1 held (c.in-Some.third ∷ held) c.args.net c.args.self.now mid c.take_live.ensures.same c.take_live.ensures.room
          (c.in-Some.ensures.some held) o.2)),
    )

pub returns-then-other-start : goal.returns-then-other-start
returns-then-other-start c =
    let held = c.args.second ∷ c.args.first ∷ [] in
    let mid = c.take_live.new.self in
    let after = c.join_parallel.new.self in
    let lt : c.args.net < length mid.at = omega (arith, c.requires.within, c.take_live.ensures.room) in
    on_ok_weaker c.join_parallel.result
    (λ s a b na nb. settles_from a b held (c.in-Some.third ∷ held) c.args.net c.args.self.now mid c.take_live.ensures.same c.take_live.ensures.room
    (c.in-Some.ensures.some held) after
    (second_settles a b c.args.net c.args.first c.args.second c.in-Some.third mid after lt
    (subst (λ r. Settles a b (c.in-Some.third ∷ c.args.first ∷ []) c.args.net r after) c.in_ok-put.ensures (s a b))))
    c.join_parallel.ensures

pub join_parallel-requires-then-other-end-clause-holding : goal.join_parallel-requires-then-other-end-clause-holding
join_parallel-requires-then-other-end-clause-holding c =
    let o = c.requires.holding in
    let held = c.args.second ∷ c.args.first ∷ [] in
    let mid = c.take_live.new.self in
    let lt : c.args.net < length mid.at = omega (arith, c.requires.within, c.take_live.ensures.room) in (
      o.0,
      o.1,
      subst (Holds o.0 o.1 (c.in-Some.third ∷ c.args.second ∷ []) c.args.net) (sym c.in_ok-put-2.ensures)
          (put_first o.0 o.1 c.args.net c.args.first c.args.second c.in-Some.third mid lt
          (still_holds o.0 o.1 held (c.in-Some.third ∷ held) c.args.net c.args.self.now mid c.take_live.ensures.same c.take_live.ensures.room
          (c.in-Some.ensures.some held) o.2)),
    )

pub returns-then-other-end : goal.returns-then-other-end
returns-then-other-end c =
    let held = c.args.second ∷ c.args.first ∷ [] in
    let mid = c.take_live.new.self in
    let after = c.join_parallel-then-other-end.new.self in
    let lt : c.args.net < length mid.at = omega (arith, c.requires.within, c.take_live.ensures.room) in
    on_ok_weaker c.join_parallel-then-other-end.result
    (λ s a b na nb. settles_from a b held (c.in-Some.third ∷ held) c.args.net c.args.self.now mid c.take_live.ensures.same c.take_live.ensures.room
    (c.in-Some.ensures.some held) after
    (first_settles a b c.args.net c.args.first c.args.second c.in-Some.third mid after lt
    (subst (λ r. Settles a b (c.in-Some.third ∷ c.args.second ∷ []) c.args.net r after) c.in_ok-put-2.ensures (s a b))))
    c.join_parallel-then-other-end.ensures

pub returns : goal.returns
returns c =
    let held = c.args.second ∷ c.args.first ∷ [] in
    let mid = c.take_live.new.self in
    let net = c.args.net in
    let lt : c.args.net < length mid.at = omega (arith, c.requires.within, c.take_live.ensures.room) in
    let same = c.take_live.ensures.same in
    let first = leads_still c.args.self.now mid c.args.first net c.args.start same c.requires.first in
    let second = leads_still c.args.self.now mid c.args.second net c.args.end same c.requires.second in
    let put_two : c.put-3.new.self ≡ with_listed (with_listed mid net c.in-Some.third) net c.args.second =
    c.in_ok-put-4.ensures ∙ ap (λ s. with_listed s net c.args.second) c.in_ok-put-3.ensures in
    on_ok_weaker c.put-4.result
    (λ is a b na nb. settles_from a b held (c.in-Some.third ∷ held) net c.args.self.now mid same c.take_live.ensures.room (c.in-Some.ensures.some held) c.put-4.new.self
    (subst (Settles a b (c.in-Some.third ∷ held) net mid) (sym (is ∙ ap (λ s. with_listed s net c.args.first) put_two))
    (three_settle a b net c.args.first c.args.second c.in-Some.third c.args.start c.args.end c.far_end-other.result mid lt first second c.far_end-other.ensures
    c.requires.differ c.if-other-start.false c.if-other-end.false)))
    c.put-4.ensures
