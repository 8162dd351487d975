use Rattle.std.proofs.Common.{◌≡◌, ◌-◌, ◌+◌, ◌≤◌, ◌<◌, length, arith, length-drop}
use Rattle.std.proofs.lemmas.List.{take_rest}
use Rattle.dom_io.proofs.PieceLemmas.{Appends-more}
use Rattle.dom_io.proofs.put.put_all.Goals as goal

pub pieces-preserved : goal.pieces-preserved
pieces-preserved g c =
    let count : c.in_ok-done.field-0 ≤ length c.args.bytes.now - c.pieces.done =
    omega (arith, c.in_ok-done.ensures.count.most, length-drop c.pieces.done c.args.bytes.now) in
    let some : 0 < c.in_ok-done.field-0 = c.in_ok-done.ensures.count.some (simp (take_rest, length-drop) (omega arith)) in
    record {
      within = omega arith;
      put = Appends-more _ _ _ c.args.bytes.now c.pieces.done c.in_ok-done.field-0 c.pieces.invariant.put (simp take_rest at c.in_ok-done.ensures.bytes);
      untouched = λ none. absurd (omega arith);
      room = λ m enough had.
          let apart : m - (c.pieces.done + c.in_ok-done.field-0) ≡ m - c.pieces.done - c.in_ok-done.field-0 = omega arith in
          rw apart (c.in_ok-done.ensures.room (m - c.pieces.done) (omega arith) (c.pieces.invariant.room m (omega arith) had));
      later = omega (arith, c.in_ok-done.ensures.later, c.pieces.invariant.later);
    }
