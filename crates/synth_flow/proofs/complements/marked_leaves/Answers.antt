use Rattle.std.proofs.Common.{ℕ, [], ◌∷◌, ◌++◌, cond, get_or, false, filter, ap, sym, ◌∙◌, append-nil}
use Rattle.std.specs.List.{range_with_len}
use Rattle.synth_flow.proofs.LeafMarks.{filter_more}
use Rattle.synth_flow.proofs.complements.marked_leaves.Goals.{then-marks-leaf+in_ok-push, else-marks-leaf}
use Rattle.synth_flow.proofs.complements.marked_leaves.Goals as goal

pub leaves-preserved : goal.leaves-preserved
leaves-preserved c =
    let leaf = c.leaves.leaf in
    let test = λ (n : ℕ). get_or c.args.marks.now n false in
    let before = filter test (range_with_len 0 leaf) in
    let more = filter_more test leaf in
    elim c.if-marks-leaf.branch [
      | then-marks-leaf+in_ok-push w ↦
          ap (λ (v : _). v.items) w.named-is ∙ w.in_ok-push.ensures.items ∙ ap (λ l. l ++ leaf ∷ []) c.leaves.invariant
          ∙ ap (λ b. before ++ cond b (leaf ∷ []) []) (sym w.if-marks-leaf.true) ∙ sym more
      | else-marks-leaf w ↦
          ap (λ (v : _). v.items) w.named-is ∙ c.leaves.invariant ∙ sym (append-nil before) ∙ ap (λ b. before ++ cond b (leaf ∷ []) []) (sym w.if-marks-leaf.false) ∙ sym more
    ]
