use Rattle.std.proofs.Common.{arith, ap, ◌∙◌, ◌≡◌, ◌<◌, ◌+◌, ◌++◌, ◌∷◌, [], sym, subst, length, length-append, get_or, take, take_all, List, ℕ}
use Rattle.std.proofs.lemmas.List.{length_push, take_more}
use Rattle.switch_model.specs.Pieces.{RisesUpTo, pieces}
use Rattle.switch_model.proofs.Pieces.{pieces-push, rises-push}
use Rattle.switch_model.proofs.groups.Groups.new.Goals as goal

pub loop-number-preserved : goal.loop-number-preserved
loop-number-preserved c =
    let i = c.loop-number.invariant in
    let number = c.loop-number.number in
    let starts = c.loop-number.starts.items in
    let numbers = c.loop-number.numbers.items in
    let list = get_or c.args.lists.now number [] in
    let below : number < length c.args.lists.now = omega (arith, c.loop-number-test.true, c.len-number-end.ensures) in
    let new_numbers : c.extend_from_slice.new.self.items ≡ numbers ++ list =
    c.in_ok-extend_from_slice.ensures.items ∙ ap (λ (l : List ℕ). numbers ++ l) (c.as_slice.ensures.value ∙ c.in_ok-put.ensures) in
    let end : length c.extend_from_slice.new.self.items ≡ length numbers + length list = ap length new_numbers ∙ length-append numbers list in
    let new_starts : c.push-in-loop-number.new.self.items ≡ starts ++ (length numbers + length list) ∷ [] =
    c.in_ok-push-2.ensures.items ∙ ap (λ n. starts ++ n ∷ []) (omega (arith, c.in_ok-end.ensures, c.len-in-loop-number.ensures, c.extend_from_slice.new.self.ok.0, end)) in
    record {
      long = ap length new_starts ∙ length_push starts (length numbers + length list) ∙ ap (λ n. n + 1) i.long;
      rises = subst (λ (l : List ℕ). RisesUpTo l (length c.extend_from_slice.new.self.items)) (sym new_starts)
          (subst (λ n. RisesUpTo (starts ++ (length numbers + length list) ∷ []) n) (sym end) (rises-push starts (length numbers) (length numbers + length list) i.rises (omega arith)));
      so_far = subst (λ (l : List ℕ). pieces l c.extend_from_slice.new.self.items ≡ take (number + 1) c.args.lists.now) (sym new_starts)
          (subst (λ (l : List ℕ). pieces (starts ++ (length numbers + length list) ∷ []) l ≡ take (number + 1) c.args.lists.now) (sym new_numbers)
          (pieces-push starts numbers list i.rises ∙ ap (λ ps. ps ++ list ∷ []) i.so_far ∙ sym (take_more c.args.lists.now number [] below)));
    }

pub returns : goal.returns
returns c = c.loop-number.invariant.so_far ∙ take_all c.loop-number.number c.args.lists.now (omega (arith, c.loop-number-test.false, c.len-number-end.ensures))
