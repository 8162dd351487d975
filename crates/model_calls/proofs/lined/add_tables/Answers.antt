use Rattle.std.proofs.Common.{◌++◌, ◌≤◌, length, map, refl, ap, sym, ◌∙◌, subst, arith, append-nil}
use Rattle.std.specs.Prelude.{slice_get}
use Rattle.std.proofs.lemmas.List.{take_all}
use Rattle.blif_ast.specs.TableData.{TableData}
use Rattle.model_calls.proofs.LinedCards.{lined_next}
use Rattle.model_calls.proofs.FirstFaults.{item_at}
use Rattle.model_calls.proofs.Scans.{take_none}
use Rattle.model_calls.specs.Expanded.{TableCard}
use Rattle.model_calls.specs.LinedCards.{AreLinedCards}
use Rattle.model_calls.proofs.lined.add_tables.Goals as goal

pub loop-index-init : goal.loop-index-init
loop-index-init c = λ m callees cards same are.
    subst (AreLinedCards m callees c.args.lined.now.items) (sym (ap (λ l. cards ++ map TableCard l) (take_none c.args.tables.now) ∙ append-nil cards)) are

pub loop-index-preserved : goal.loop-index-preserved
loop-index-preserved c =
    let there = item_at c.args.tables.now (length c.args.tables.now) c.loop-index.index c.index-tables-index.result refl c.loop-index-test.true c.index-tables-index.is in
    λ m callees cards same are. lined_next m callees TableCard c.args.tables.now c.loop-index.index c.index-tables-index.result cards c.loop-index.lined.items c.push.new.self.items _ there
    (c.loop-index.invariant m callees cards same are) c.in_ok-push.ensures.items (ap (λ (t : TableData). t.line) c.table.view_is, ap (λ l. slice_get l c.loop-index.index) same ∙ there)

pub returns : goal.returns
returns c =
    let whole : length c.args.tables.now ≤ c.loop-index.index = omega (arith, c.loop-index-test.false, c.loop-index.auto.index-end) in
    λ m callees cards same are. subst (λ l. AreLinedCards m callees c.loop-index.lined.items (cards ++ map TableCard l)) (take_all c.loop-index.index c.args.tables.now whole) (c.loop-index.invariant m callees cards same are)
