use Rattle.std.proofs.Common.{◌≡◌, ◌∙◌, sym, not, ◌&&◌, true, Bool}
use Rattle.std.proofs.lemmas.Bool.{true≢false}
use Rattle.spice_read.proofs.LowerCase.{control-lower}
use Rattle.spice_read.proofs.words.is_phase.Goals as goal
use Rattle.spice_read.proofs.words.is_phase.Goals.{then-same_letters, else-same_letters}

both : (a b x y : Bool) → true ≡ a → true ≡ b → x ≡ y → not x ≡ (a && b && not y)
both a b x y d e h = λ i. d i && e i && not (h i)

pub returns-then-same_letters-2 : goal.returns-then-same_letters-2
returns-then-same_letters-2 c =
    let clean = c.has_control.ensures ∙ sym (control-lower c.args.name.now) in
    elim c.if-same_letters.branch [
      | then-same_letters w ↦ both _ _ c.has_control.result _ w.if-same_letters.ensures (sym c.if-same_letters-2.true ∙ w.value-is ∙ w.same_letters-then-same_letters.ensures) clean
      | else-same_letters w ↦ absurd (true≢false (sym c.if-same_letters-2.true ∙ w.value-is ∙ w.if-same_letters.false))
    ]
