use Rattle.std.specs.Prelude.{◌⊎◌}
use Rattle.std.proofs.Common.{[], ap, arith, inl, inr, length, subst, sym, ◌<◌, ◌∙◌, ◌∷◌, ◌≡◌}
use Rattle.std.proofs.lemmas.Result.{on_ok_weaker}
use Rattle.dom_base.proofs.Lists.{Contains-first, Contains-later}
use Rattle.link_reduce.specs.Reductions.{Settles, with_listed}
use Rattle.link_reduce.proofs.Examined.{held_part, one_settles, still_holds, two_settle}
use Rattle.link_reduce.proofs.Taken.{settles_from}
use Rattle.link_reduce.proofs.reduction.Reduction.examine_one.Goals as goal
use Rattle.link_reduce.proofs.reduction.Reduction.examine_one.Goals.{then-net-top-via-then-net-top, then-net-top-via-else-net-top+then-net-bottom}

pub returns-in_default : goal.returns-in_default
returns-in_default c =
    on_ok_weaker c.put.result
    (one_settles c.args.top c.args.bottom c.args.net c.args.first c.args.self.now c.take_live.new.self c.put.new.self c.take_live.ensures.same
    c.take_live.ensures.room (c.in_default.ensures.none (c.args.first ∷ [])) c.in_default.ensures.empty
    (omega (arith, c.requires.within, c.take_live.ensures.room))) c.put.ensures

pub far_end-start-requires : goal.far_end-start-requires
far_end-start-requires c =
    held_part c.args.top c.args.bottom (c.in-Some.second ∷ c.args.first ∷ []) c.args.net c.take_live.new.self
    (still_holds c.args.top c.args.bottom (c.args.first ∷ []) (c.in-Some.second ∷ c.args.first ∷ []) c.args.net c.args.self.now c.take_live.new.self
    c.take_live.ensures.same c.take_live.ensures.room (c.in-Some.ensures.some (c.args.first ∷ [])) c.requires.holding) c.args.first
    (Contains-later c.in-Some.second (c.args.first ∷ []) c.args.first (Contains-first c.args.first []))

pub far_end-end-requires : goal.far_end-end-requires
far_end-end-requires c =
    held_part c.args.top c.args.bottom (c.in-Some.second ∷ c.args.first ∷ []) c.args.net c.take_live.new.self
    (still_holds c.args.top c.args.bottom (c.args.first ∷ []) (c.in-Some.second ∷ c.args.first ∷ []) c.args.net c.args.self.now c.take_live.new.self
    c.take_live.ensures.same c.take_live.ensures.room (c.in-Some.ensures.some (c.args.first ∷ [])) c.requires.holding) c.in-Some.second
    (Contains-first c.in-Some.second (c.args.first ∷ []))

pub join_parallel-requires-clause-holding : goal.join_parallel-requires-clause-holding
join_parallel-requires-clause-holding c = (
  c.args.top,
  c.args.bottom,
  still_holds c.args.top c.args.bottom (c.args.first ∷ []) (c.in-Some.second ∷ c.args.first ∷ []) c.args.net c.args.self.now c.take_live.new.self
      c.take_live.ensures.same c.take_live.ensures.room (c.in-Some.ensures.some (c.args.first ∷ [])) c.requires.holding,
)

pub returns-then-start-end : goal.returns-then-start-end
returns-then-start-end c =
    on_ok_weaker c.join_parallel.result
    (λ s. settles_from c.args.top c.args.bottom (c.args.first ∷ []) (c.in-Some.second ∷ c.args.first ∷ []) c.args.net c.args.self.now c.take_live.new.self
    c.take_live.ensures.same c.take_live.ensures.room (c.in-Some.ensures.some (c.args.first ∷ [])) c.join_parallel.new.self (s c.args.top c.args.bottom))
    c.join_parallel.ensures

pub returns-then-net-top : goal.returns-then-net-top
returns-then-net-top c =
    let held = c.in-Some.second ∷ c.args.first ∷ [] in
    let mid = c.take_live.new.self in
    let lt : c.args.net < length mid.at = omega (arith, c.requires.within, c.take_live.ensures.room) in
    let which : (c.args.net ≡ c.args.top) ⊎ (c.args.net ≡ c.args.bottom) = elim c.then-net-top.branch [
      | then-net-top-via-then-net-top w ↦ inl w.if-net-top.true
      | then-net-top-via-else-net-top+then-net-bottom w ↦ inr w.if-net-bottom.true
    ] in
    let settles : Settles c.args.top c.args.bottom held c.args.net mid (with_listed (with_listed mid c.args.net c.in-Some.second) c.args.net c.args.first) =
    two_settle c.args.top c.args.bottom c.args.net c.args.first c.in-Some.second c.far_end-start.result c.far_end-end.result mid lt c.far_end-start.ensures
    c.far_end-end.ensures c.if-start-end.false which in
    on_ok_weaker c.put-then-net-top-2.result
    (λ is. settles_from c.args.top c.args.bottom (c.args.first ∷ []) held c.args.net c.args.self.now mid
    c.take_live.ensures.same c.take_live.ensures.room (c.in-Some.ensures.some (c.args.first ∷ [])) c.put-then-net-top-2.new.self
    (subst (Settles c.args.top c.args.bottom held c.args.net mid) (sym (is ∙ ap (λ s. with_listed s c.args.net c.args.first) c.in_ok-put.ensures)) settles))
    c.put-then-net-top-2.ensures

pub examine_two-requires-clause-holding : goal.examine_two-requires-clause-holding
examine_two-requires-clause-holding c = (
  c.args.top,
  c.args.bottom,
  still_holds c.args.top c.args.bottom (c.args.first ∷ []) (c.in-Some.second ∷ c.args.first ∷ []) c.args.net c.args.self.now c.take_live.new.self
      c.take_live.ensures.same c.take_live.ensures.room (c.in-Some.ensures.some (c.args.first ∷ [])) c.requires.holding,
)

pub returns : goal.returns
returns c =
    on_ok_weaker c.examine_two.result
    (λ s. settles_from c.args.top c.args.bottom (c.args.first ∷ []) (c.in-Some.second ∷ c.args.first ∷ []) c.args.net c.args.self.now c.take_live.new.self
    c.take_live.ensures.same c.take_live.ensures.room (c.in-Some.ensures.some (c.args.first ∷ [])) c.examine_two.new.self
    (s c.args.top c.args.bottom c.if-net-top.false c.if-net-bottom.false))
    c.examine_two.ensures
