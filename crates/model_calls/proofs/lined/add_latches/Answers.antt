use Rattle.std.proofs.Common.{◌++◌, ◌≤◌, length, map, refl, ap, sym, ◌∙◌, subst, arith, append-nil}
use Rattle.std.specs.Prelude.{slice_get}
use Rattle.std.proofs.lemmas.List.{take_all}
use Rattle.model_calls.proofs.LinedCards.{lined_next}
use Rattle.model_calls.proofs.FirstFaults.{item_at}
use Rattle.model_calls.proofs.Scans.{take_none}
use Rattle.model_calls.specs.Expanded.{LatchCard}
use Rattle.model_calls.specs.LinedCards.{AreLinedCards}
use Rattle.model_calls.proofs.lined.add_latches.Goals as goal

pub loop-index-init : goal.loop-index-init
loop-index-init c = λ m callees cards same are.
    subst (AreLinedCards m callees c.args.lined.now.items) (sym (ap (λ l. cards ++ map LatchCard l) (take_none c.args.latches.now) ∙ append-nil cards)) are

pub loop-index-preserved : goal.loop-index-preserved
loop-index-preserved c =
    let there = item_at c.args.latches.now (length c.args.latches.now) c.loop-index.index c.index-latches-index.result refl c.loop-index-test.true c.index-latches-index.is in
    λ m callees cards same are. lined_next m callees LatchCard c.args.latches.now c.loop-index.index c.index-latches-index.result cards c.loop-index.lined.items c.push.new.self.items _ there
    (c.loop-index.invariant m callees cards same are) c.in_ok-push.ensures.items (refl, ap (λ l. slice_get l c.loop-index.index) same ∙ there)

pub returns : goal.returns
returns c =
    let whole : length c.args.latches.now ≤ c.loop-index.index = omega (arith, c.loop-index-test.false, c.loop-index.auto.index-end) in
    λ m callees cards same are. subst (λ l. AreLinedCards m callees c.loop-index.lined.items (cards ++ map LatchCard l)) (take_all c.loop-index.index c.args.latches.now whole) (c.loop-index.invariant m callees cards same are)
