use Rattle.std.proofs.Common.{◌≡◌, ℕ, ap, sym, ◌∙◌, ◌||◌, false, filter, get_or, length, rules}
use Rattle.std.specs.List.{list_any, range_with_len}
use Rattle.dual_rail.proofs.Marks.{written_over}
use Rattle.synth_flow.specs.NamedComplements.{are_read, is_plus_end}
use Rattle.synth_flow.proofs.LeafMarks.{marked_are}
use Rattle.synth_flow.proofs.complements.named_complements.Goals as goal

pub returns : goal.returns
returns c =
    let leaves = c.args.leaves in
    let test = λ (leaf : ℕ). are_read c.args.plans.now leaf || list_any (is_plus_end leaf) c.args.ends.now in
    let len : c.in_ok-marks.marks.len ≡ length c.in_ok-marks.marks.items = search rules in
    let back = written_over c.in_ok-marks.marks.len c.mark_named.new.marks c.in_ok-marks.marks.items (len ∙ sym (c.mark_named.auto.marks ∙ ap length c.as_mut_slice.ensures.value)) in
    c.in_ok-named.ensures
    ∙ ap (λ l. filter (λ leaf. get_or l leaf false) (range_with_len 0 leaves)) (c.as_slice.ensures.value ∙ back)
    ∙ marked_are leaves c.as_mut_slice.result.now c.mark_named.new.marks test (c.as_mut_slice.ensures.value ∙ c.in_ok-marks.ensures.items_if_clones_equal (λ y e. e)) c.mark_named.ensures
