use Rattle.std.proofs.Common.{rules, ◌≡◌, ◌<◌, ◌∙◌, ap, arith, map, length, ℕ, List, Option, Vec, Bor, vec_len}
use Rattle.std.specs.Prelude.{option_to_list}
use Rattle.std.specs.declared.alloc.Global.{Global}
use Rattle.std.proofs.lemmas.List.{length-map, map-append}
use Rattle.subckt_expand.specs.Definitions.{CallData}
use Rattle.subckt_expand.specs.Frames.{ExpandingData}
use Rattle.subckt_expand.proofs.Kept.{leave_is}
use Rattle.subckt_expand.proofs.Pushes.{popped_one}
use Rattle.subckt_expand.proofs.expand.Expanding.leave.Goals as goal

pub invariant_of-self : goal.invariant_of-self
invariant_of-self c =
    let value : Bor CallData → CallData = λ r. r.now in
    let items : Vec (Option ℕ) Global → List (Option ℕ) = λ n. n.items in
    let calls = c.self.inside.calls.items in
    let numbers = c.self.inside.numbers.items in
    let more = option_to_list c.pop.result in
    let left = option_to_list c.pop-2.result in
    let gone = option_to_list c.pop-5.result in
    let split = ap (map value) c.pop.ensures.items ∙ map-append value c.pop.new.self.items more in
    let parted = ap (map items) c.pop-5.ensures.items ∙ map-append items c.pop-5.new.self.items gone in
    let count : vec_len c.self.inside.calls ≡ length calls = search rules in
    let count_rows : vec_len c.self.inside.numbers ≡ length numbers = search rules in
    let inside = ap (λ (v : ExpandingData). length v.calls) c.self.view_is in
    let some : 0 < vec_len c.self.inside.calls = omega (arith, count, length-map calls value, inside, c.requires) in
    let some_rows : 0 < vec_len c.self.inside.numbers = omega (arith, count_rows, length-map numbers items, c.self.invariant.rows) in
    let one : length (map value more) ≡ 1 = omega (arith, length-map more value, popped_one _ _ _ c.pop.ensures.cases some, c.pop.ensures.len) in
    let count_ways : vec_len c.self.inside.ways ≡ length c.self.inside.ways.items = search rules in
    let some_ways : 0 < vec_len c.self.inside.ways = omega (arith, count_ways, c.self.invariant.led, length-map calls value, inside, c.requires) in
    let one_way : length left ≡ 1 = omega (arith, popped_one _ _ _ c.pop-2.ensures.cases some_ways, c.pop-2.ensures.len) in
    let one_row : length (map items gone) ≡ 1 = omega (arith, length-map gone items, popped_one _ _ _ c.pop-5.ensures.cases some_rows, c.pop-5.ensures.len) in
    leave_is _ _ _ _ _ _ _ split c.pop-2.ensures.items parted one one_way one_row c.self.invariant
