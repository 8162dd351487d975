use Rattle.std.proofs.Common.{◌≡◌, ◌<◌, ◌∙◌, ap, sym, subst, arith, set, map, length, ℕ, List, [], Option, Some, Vec, slice_get, slice_index_or}
use Rattle.std.specs.Vec.{with_item}
use Rattle.std.specs.declared.alloc.Global.{Global}
use Rattle.std.proofs.lemmas.List.{length-map}
use Rattle.subckt_expand.specs.Frames.{ExpandingData, end_name, unit_of}
use Rattle.subckt_expand.specs.Units.{unit_at}
use Rattle.subckt_expand.proofs.Kept.{keep_is}
use Rattle.subckt_expand.proofs.Places.{index_or-map, map_set}
use Rattle.subckt_expand.proofs.expand.Expanding.keep.Goals as goal

pub invariant_of-self : goal.invariant_of-self
invariant_of-self c =
    let small : c.in-Ok.number ≡ c.args.number = (c.in-Ok.ensures).1 in
    let items : Vec (Option ℕ) Global → List (Option ℕ) = λ n. n.items in
    let all = c.self.inside.numbers.items in
    let count = ap (λ (v : ExpandingData). length v.calls) c.self.view_is in
    let low : c.args.level < length all = omega (arith, c.self.invariant.rows, c.requires.level, count, length-map all items) in
    let row : c.index_mut-numbers.result.now.items ≡ slice_index_or (map items all) c.args.level [] =
    ap items c.index_mut-numbers.ensures.value ∙ sym (index_or-map items all c.args.level _ [] low) in
    let there = subst (λ (v : ExpandingData). slice_get v.nets c.args.number ≡ Some (end_name v c.args.level (slice_index_or (unit_at v.units (unit_of v.main v.calls c.args.level)).slots.nets c.args.slot 0)))
    (sym c.self.view_is) c.requires.number in
    let kept = keep_is _ c.args.level c.args.slot c.args.number c.self.invariant there in
    let last = with_item c.index_mut-numbers.result.now c.args.slot (Some c.in-Ok.number) in
    let same = map_set items all c.args.level last ∙ (λ i. set (map items all) c.args.level (set (row i) c.args.slot (Some (small i)))) in
    rw same kept
