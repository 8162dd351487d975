use Rattle.std.proofs.Common.{◌≡◌, ◌<◌, ◌&&◌, ◌∙◌, ℕ, ap, ap₂, arith, sym, true, false, filter, get_or, length, replicate, rules}
use Rattle.std.specs.List.{range_with_len}
use Rattle.std.proofs.lemmas.List.{length-replicate}
use Rattle.dual_rail.proofs.Marks.{written_over}
use Rattle.synth_flow.specs.Summaries.{needs}
use Rattle.synth_flow.proofs.LeafMarks.{filter_same, marks_at}
use Rattle.synth_flow.proofs.both.both_signs.Goals as goal

pub returns : goal.returns
returns c =
    let pairs = c.args.pairs.now in
    let nodes = c.args.nodes in
    let plus = c.mark_pairs.new.marks in
    let minus = c.mark_pairs-2.new.marks in
    let plus_len : c.in_ok-plus.plus.len ≡ length c.in_ok-plus.plus.items = search rules in
    let minus_len : c.in_ok-minus.minus.len ≡ length c.in_ok-minus.minus.items = search rules in
    let plus_now = c.as_slice.ensures.value
    ∙ written_over c.in_ok-plus.plus.len plus c.in_ok-plus.plus.items (plus_len ∙ sym (c.mark_pairs.auto.marks ∙ ap length c.as_mut_slice.ensures.value)) in
    let minus_now = c.as_slice-2.ensures.value
    ∙ written_over c.in_ok-minus.minus.len minus c.in_ok-minus.minus.items (minus_len ∙ sym (c.mark_pairs-2.auto.marks ∙ ap length c.as_mut_slice-2.ensures.value)) in
    let no_plus : c.as_mut_slice.result.now ≡ replicate nodes false = c.as_mut_slice.ensures.value ∙ c.in_ok-plus.ensures.items_if_clones_equal (λ y e. e) in
    let no_minus : c.as_mut_slice-2.result.now ≡ replicate nodes false = c.as_mut_slice-2.ensures.value ∙ c.in_ok-minus.ensures.items_if_clones_equal (λ y e. e) in
    let count : length c.as_slice.result.now ≡ nodes = ap length plus_now ∙ c.mark_pairs.auto.marks ∙ ap length no_plus ∙ length-replicate nodes false in
    c.count_both.ensures
    ∙ (λ i. length (filter (λ (n : ℕ). get_or (plus_now i) n false && get_or (minus_now i) n false) (range_with_len 0 (count i))))
    ∙ ap length
    (filter_same (λ n. get_or plus n false && get_or minus n false) (λ n. needs pairs true n && needs pairs false n) 0 nodes
    (λ k lt.
    let low : k < nodes = omega arith in
    ap₂ (λ a b. a && b) (marks_at nodes c.as_mut_slice.result.now plus (needs pairs true) no_plus c.mark_pairs.ensures k low)
    (marks_at nodes c.as_mut_slice-2.result.now minus (needs pairs false) no_minus c.mark_pairs-2.ensures k low)))
