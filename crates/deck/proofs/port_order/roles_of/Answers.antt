use Rattle.std.proofs.Common.{◌+◌, drop, arith, length-drop}
use Rattle.std.proofs.lemmas.List.{take_rest}
use Rattle.deck.specs.Limits.{unclocked_count}
use Rattle.deck.specs.PortFronts.{BeginsGroups}
use Rattle.deck.proofs.PortOrder.{groups_found, leaves_groups}
use Rattle.deck.proofs.port_order.roles_of.Goals as goal

pub returns-then-pins-outs : goal.returns-then-pins-outs
returns-then-pins-outs c =
    let p = c.count_beginning-pins.result in
    let o = c.count_beginning-outs.result in
    let pins = simp take_rest at c.count_beginning-pins.ensures in
    let outs = simp take_rest at c.count_beginning-outs.ensures in
    let few = simp take_rest at c.if-pins-outs.true in
    let clocks = c.in_ok-clocks.clocks in
    let lead = c.in_ok-clocks.ensures in
    let names = drop (clocks + unclocked_count) c.args.ports.now in
    let groups : BeginsGroups c.args.ports.now clocks p o =
    record { some_clock = lead.some_clock; few_clocks = lead.few_clocks; long = lead.long; leading = lead.leading; pins_within = pins.within; outs_within = outs.within; pins_are = pins.each; outs_are = outs.each } in
    let rest = length-drop p names in
    let all = length-drop (clocks + unclocked_count) c.args.ports.now in
    leaves_groups c.args.ports.now clocks p o groups (omega (arith, few, all))
    (λ out. let e = outs.longest (omega (arith, few, rest)) in cc)
    (λ none pin. let e = pins.longest (omega (arith, few, none)) in cc)

pub returns : goal.returns
returns c =
    let p = c.count_beginning-pins.result in
    let o = c.count_beginning-outs.result in
    let pins = simp take_rest at c.count_beginning-pins.ensures in
    let outs = simp take_rest at c.count_beginning-outs.ensures in
    let many = simp take_rest at c.if-pins-outs.false in
    let clocks = c.in_ok-clocks.clocks in
    let lead = c.in_ok-clocks.ensures in
    let groups : BeginsGroups c.args.ports.now clocks p o =
    record { some_clock = lead.some_clock; few_clocks = lead.few_clocks; long = lead.long; leading = lead.leading; pins_within = pins.within; outs_within = outs.within; pins_are = pins.each; outs_are = outs.each } in
    groups_found c.args.ports.now clocks p o groups (omega (arith, many, length-drop (clocks + unclocked_count) c.args.ports.now))
