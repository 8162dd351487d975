use Rattle.std.proofs.Common.{rules, ◌≡◌, ◌++◌, length, [], map, ap, sym, ◌∙◌, subst, arith}
use Rattle.dom_base.proofs.Options.{if_ok-weaker}
use Rattle.model_calls.proofs.LinedCards.{lined_in_order, without_lines}
use Rattle.model_calls.specs.declared.lined.LinedCard.{LinedCard}
use Rattle.model_calls.specs.Expanded.{InstanceCard, LatchCard, TableCard, card_line, ordered_cards}
use Rattle.model_calls.specs.LinedCards.{AreLinedCards, AreNumberedCards}
use Rattle.model_calls.specs.Ordered.{in_order}
use Rattle.model_calls.proofs.lined.plan_model.Goals as goal

pub add_tables-requires : goal.add_tables-requires
add_tables-requires c = let same : c.deref.result.now ≡ c.args.model.now.tables = search rules in record { few = omega (arith, c.requires.tables, ap length same) }

pub add_latches-requires : goal.add_latches-requires
add_latches-requires c = let same : c.deref-2.result.now ≡ c.args.model.now.latches = search rules in record { few = omega (arith, c.requires.latches, ap length same) }

pub add_instances-requires : goal.add_instances-requires
add_instances-requires c =
    let same : c.deref-3.result.now ≡ c.args.model.now.instances = search rules in
    record { few = omega (arith, c.requires.instances, ap length same); callees = c.requires.callees ∙ ap length (sym same) }

pub returns : goal.returns
returns c = let m = c.args.model.now in let node = c.args.node.now in
    let tables : c.deref.result.now ≡ m.tables = search rules in
    let latches : c.deref-2.result.now ≡ m.latches = search rules in
    let instances : c.deref-3.result.now ≡ m.instances = search rules in
    let sorted : c.deref-4.result.now ≡ c.sort_by_line.new.lined.items = search rules in
    let one = c.in_ok-add_tables.ensures m node [] (sym tables) (subst (λ l. AreLinedCards m node l []) (sym c.in_ok-lined.ensures.items) tt) in
    let two = c.in_ok-add_latches.ensures m node (map TableCard c.deref.result.now) (sym latches) one in
    let all = c.in_ok-add_instances.ensures m (map TableCard c.deref.result.now ++ map LatchCard c.deref-2.result.now) (sym instances) two in
    let lined = lined_in_order m node c.add_instances.new.lined.items (map TableCard c.deref.result.now ++ map LatchCard c.deref-2.result.now ++ map InstanceCard c.deref-3.result.now) all in
    let cards : in_order card_line (map TableCard c.deref.result.now ++ map LatchCard c.deref-2.result.now ++ map InstanceCard c.deref-3.result.now) ≡ ordered_cards m =
    ap (λ l. in_order card_line (map TableCard l ++ map LatchCard c.deref-2.result.now ++ map InstanceCard c.deref-3.result.now)) tables
    ∙ ap (λ l. in_order card_line (map TableCard m.tables ++ map LatchCard l ++ map InstanceCard c.deref-3.result.now)) latches
    ∙ ap (λ l. in_order card_line (map TableCard m.tables ++ map LatchCard m.latches ++ map InstanceCard l)) instances in
    let numbered = without_lines m node (in_order (λ (p : LinedCard). p.line) c.add_instances.new.lined.items) (ordered_cards m)
    (subst (AreLinedCards m node (in_order (λ (p : LinedCard). p.line) c.add_instances.new.lined.items)) cards lined) in
    if_ok-weaker c.without_lines.result
    (λ plan is. subst (λ l. AreNumberedCards m node l (ordered_cards m)) (sym (is ∙ ap (map (λ (p : LinedCard). p.card)) (sorted ∙ c.in_ok-sort_by_line.ensures))) numbered)
    c.without_lines.ensures
