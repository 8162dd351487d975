use Rattle.std.proofs.Common.{[], ◌∷◌}
use Rattle.std.proofs.lemmas.Result.{on_ok_weaker}
use Rattle.link_reduce.proofs.Examined.{none_settles, still_holds}
use Rattle.link_reduce.proofs.Taken.{settles_from}
use Rattle.link_reduce.proofs.reduction.Reduction.examine.Goals as goal

pub returns-in_default : goal.returns-in_default
returns-in_default c =
    none_settles c.args.top c.args.bottom c.args.net c.args.self.now c.take_live.new.self c.take_live.ensures.same c.take_live.ensures.room
    (c.in_default.ensures.none []) c.in_default.ensures.empty

pub examine_one-requires-clause-holding : goal.examine_one-requires-clause-holding
examine_one-requires-clause-holding c =
    still_holds c.args.top c.args.bottom [] (c.in-Some.first ∷ []) c.args.net c.args.self.now c.take_live.new.self c.take_live.ensures.same
    c.take_live.ensures.room (c.in-Some.ensures.some []) c.requires.holding

pub returns : goal.returns
returns c =
    on_ok_weaker c.examine_one.result
    (settles_from c.args.top c.args.bottom [] (c.in-Some.first ∷ []) c.args.net c.args.self.now c.take_live.new.self c.take_live.ensures.same
    c.take_live.ensures.room (c.in-Some.ensures.some []) c.examine_one.new.self) c.examine_one.ensures
