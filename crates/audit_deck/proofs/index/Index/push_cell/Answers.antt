use Rattle.std.specs.Prelude.{max}
use Rattle.std.proofs.Common.{ap, ℕ, ◌∙◌}
use Rattle.sp_network.specs.Tree.{Tree}
use Rattle.sp_reduction.specs.Networks.{Link}
use Rattle.deck_audit.specs.Audits.{front, output, tree}
use Rattle.deck_audit.specs.Rules.{HasFront, HasOutput, HasTree}
use Rattle.audit_deck.specs.CellTrees.{CellTreeData, IsTreeAt}
use Rattle.audit_deck.specs.DeckOrders.{DeckOrderData}
use Rattle.audit_deck.specs.Fronts.{IsFrontAt, IsOutputAt}
use Rattle.audit_deck.proofs.DeckOrders.{cell_pushed, some_unless}
use Rattle.link_reduce.proofs.Options.{some_is}
use Rattle.audit_deck.proofs.index.Index.push_cell.Goals as goal

pub unwrap-front-requires : goal.unwrap-front-requires
unwrap-front-requires c =
    some_unless c.front.result ((clock output : ℕ) → HasFront c.args.self.now.devices c.args.roles c.args.net clock output → ⊥) c.front.ensures.none
    (λ q. c.requires.fronts c.args.net (front c.requires.dynamic q))

pub unwrap-inverter-requires : goal.unwrap-inverter-requires
unwrap-inverter-requires c =
    let f = c.unwrap-front.result in
    let fa = some_is c.front.result f (IsFrontAt c.args.self.now.devices c.args.roles c.args.net) c.unwrap-front.ensures c.front.ensures.some in
    some_unless c.output.result (HasOutput c.args.self.now.devices c.args.roles c.args.net f.output → ⊥) c.output.ensures.none
    (λ q. c.requires.outputs c.args.net (output f.clock f.output c.requires.dynamic fa.front q))

pub unwrap-tree-requires : goal.unwrap-tree-requires
unwrap-tree-requires c =
    let f = c.unwrap-front.result in
    let fa = some_is c.front.result f (IsFrontAt c.args.self.now.devices c.args.roles c.args.net) c.unwrap-front.ensures c.front.ensures.some in
    some_unless c.in_ok-tree.field-0 ((bottom : ℕ) (t : Tree Link) → HasTree c.args.self.now.devices c.args.roles c.args.net f.clock bottom t → ⊥) c.in_ok-tree.ensures.none
    (λ q. c.requires.trees c.args.net (tree f.clock f.output c.requires.dynamic fa.front q))

pub returns-clause-added : goal.returns-clause-added
returns-clause-added c =
    let ds = c.args.self.now.devices in
    let f = c.unwrap-front.result in
    let i = c.unwrap-inverter.result in
    let t = c.unwrap-tree.result in
    let before = c.args.order.now in
    let view = c.order.view_is in
    let inside = c.tree-2.view_is in
    let fa = some_is c.front.result f (IsFrontAt ds c.args.roles c.args.net) c.unwrap-front.ensures c.front.ensures.some in
    let oa = some_is c.output.result i (IsOutputAt ds c.args.roles c.args.net f.output) c.unwrap-inverter.ensures c.output.ensures.some in
    let ta = some_is c.in_ok-tree.field-0 t (IsTreeAt ds c.args.roles c.args.net f.clock) c.unwrap-tree.ensures c.in_ok-tree.ensures.some in
    cell_pushed ds c.args.roles c.args.net f i t before c.as_slice.result.now c.push-5.new.self.items c.tree-2.inside.foot c.tree-2.inside.width c.tree-2.inside.height
    c.greater-order-inside.result c.greater-order-inside-2.result fa oa ta
    (c.as_slice.ensures.value ∙ ap (λ (d : CellTreeData). d.order) inside) (ap (λ (d : CellTreeData). d.foot) inside) (ap (λ (d : CellTreeData). d.width) inside) (ap (λ (d : CellTreeData). d.height) inside)
    (record {
      start = c.order.inside.places.items;
      one = c.push.new.self.items;
      two = c.push-2.new.self.items;
      three = c.extend_from_slice.new.self.items;
      four = c.push-3.new.self.items;
      five = c.push-4.new.self.items;
      start_is = ap (λ (d : DeckOrderData). d.places) view;
      one_is = c.in_ok-push.ensures.items;
      two_is = c.in_ok-push-2.ensures.items;
      three_is = c.in_ok-extend_from_slice.ensures.items;
      four_is = c.in_ok-push-3.ensures.items;
      five_is = c.in_ok-push-4.ensures.items;
      places_are = c.in_ok-push-5.ensures.items;
    })
    (c.greater-order-inside.ensures ∙ ap (λ (d : DeckOrderData). max d.width c.tree-2.inside.width) view) (c.greater-order-inside-2.ensures ∙ ap (λ (d : DeckOrderData). max d.height c.tree-2.inside.height) view)
