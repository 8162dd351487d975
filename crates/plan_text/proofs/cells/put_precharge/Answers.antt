use Rattle.std.proofs.Common.{ℕ, List, [], ◌∷◌, ap, sym, ◌∙◌}
use Rattle.deck.specs.NamedDevices.{NamedDevice}
use Rattle.dom_base.specs.declared.kind.Kind.TheVariants.{P as pch, Keep}
use Rattle.domino_cell.specs.StyledCells.{inner_precharges}
use Rattle.domino_cell.specs.declared.style.Style.{Style}
use Rattle.sp_network.specs.Tree.{inner_count}
use Rattle.plan_text.specs.DeviceTexts.{with_put}
use Rattle.plan_text.specs.PutCells.{digits_cell, precharge_cards}
use Rattle.plan_text.proofs.DeviceTexts.{then_put}
use Rattle.plan_text.proofs.cells.put_precharge.Goals as goal

pub returns-in_ok-put-in-Keeper : goal.returns-in_ok-put-in-Keeper
returns-in_ok-put-in-Keeper c = λ tree is.
    let nets = digits_cell c.args.clock c.args.digits.now in
    let dynamic = c.of_cell-dynamic.ensures in
    let clock = c.numbered.ensures in
    let vdd = c.fixed-vdd.ensures in
    let output = c.of_cell.ensures in
    let first : NamedDevice (List ℕ) = record { kind = pch; drain = nets.dynamic; gate = nets.clock; source = nets.vdd } in
    let keeper : NamedDevice (List ℕ) = record { kind = Keep; drain = nets.dynamic; gate = nets.output; source = nets.vdd } in
    then_put c.args.cards.now c.put.new.self c.put-in-Keeper.new.self (first ∷ []) (keeper ∷ [])
    (c.in_ok-put.ensures ∙ (λ i. with_put c.args.cards.now (record { kind = pch; drain = dynamic i; gate = clock i; source = vdd i } ∷ [])))
    (c.in_ok-put-in-Keeper.ensures ∙ (λ i. with_put c.put.new.self (record { kind = Keep; drain = dynamic i; gate = output i; source = vdd i } ∷ [])))
    ∙ ap (λ (s : Style). with_put c.args.cards.now (precharge_cards s nets (inner_count tree))) (sym c.in-Keeper.is)

pub returns-in_ok-put_inner_precharges-in-Precharge : goal.returns-in_ok-put_inner_precharges-in-Precharge
returns-in_ok-put_inner_precharges-in-Precharge c = λ tree is.
    let nets = digits_cell c.args.clock c.args.digits.now in
    let dynamic = c.of_cell-dynamic.ensures in
    let clock = c.numbered.ensures in
    let vdd = c.fixed-vdd.ensures in
    let first : NamedDevice (List ℕ) = record { kind = pch; drain = nets.dynamic; gate = nets.clock; source = nets.vdd } in
    then_put c.args.cards.now c.put.new.self c.put_inner_precharges.new.cards (first ∷ []) (inner_precharges nets 0 (inner_count tree))
    (c.in_ok-put.ensures ∙ (λ i. with_put c.args.cards.now (record { kind = pch; drain = dynamic i; gate = clock i; source = vdd i } ∷ [])))
    (c.in_ok-put_inner_precharges-in-Precharge.ensures ∙ ap (λ n. with_put c.put.new.self (inner_precharges nets 0 n)) (c.pair_inner-count.ensures tree is))
    ∙ ap (λ (s : Style). with_put c.args.cards.now (precharge_cards s nets (inner_count tree))) (sym c.in-Precharge.is)
