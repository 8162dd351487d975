use Rattle.std.proofs.Common.{◌++◌, ◌≤◌, length, map, refl, ap, sym, ◌∙◌, subst, arith, append-nil}
use Rattle.std.specs.Prelude.{slice_get}
use Rattle.std.proofs.lemmas.List.{take_all}
use Rattle.blif_ast.specs.InstanceData.{InstanceData}
use Rattle.model_calls.proofs.LinedCards.{lined_next}
use Rattle.model_calls.proofs.FirstFaults.{item_at}
use Rattle.model_calls.proofs.Scans.{take_none}
use Rattle.model_calls.specs.Expanded.{InstanceCard}
use Rattle.model_calls.specs.LinedCards.{AreLinedCards}
use Rattle.model_calls.proofs.lined.add_instances.Goals as goal

pub loop-index-init : goal.loop-index-init
loop-index-init c = λ m cards same are.
    subst (AreLinedCards m c.args.node.now c.args.lined.now.items) (sym (ap (λ l. cards ++ map InstanceCard l) (take_none c.args.instances.now) ∙ append-nil cards)) are

pub unit_at-requires : goal.unit_at-requires
unit_at-requires c = record { within = omega (arith, c.loop-index-test.true, c.requires.callees) }

pub loop-index-preserved : goal.loop-index-preserved
loop-index-preserved c =
    let there = item_at c.args.instances.now (length c.args.instances.now) c.loop-index.index c.index-instances-index.result refl c.loop-index-test.true c.index-instances-index.is in
    λ m cards same are. lined_next m c.args.node.now InstanceCard c.args.instances.now c.loop-index.index c.index-instances-index.result cards c.loop-index.lined.items c.push.new.self.items _ there
    (c.loop-index.invariant m cards same are) c.in_ok-push.ensures.items (ap (λ (i : InstanceData). i.line) c.instance.view_is, (ap (λ l. slice_get l c.loop-index.index) same ∙ there, c.unit_at.ensures))

pub returns : goal.returns
returns c =
    let whole : length c.args.instances.now ≤ c.loop-index.index = omega (arith, c.loop-index-test.false, c.loop-index.auto.index-end) in
    λ m cards same are. subst (λ l. AreLinedCards m c.args.node.now c.loop-index.lined.items (cards ++ map InstanceCard l)) (take_all c.loop-index.index c.args.instances.now whole) (c.loop-index.invariant m cards same are)
