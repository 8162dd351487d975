use Rattle.std.proofs.Common.{◌≡◌, Bool, ◌++◌, [], ◌∷◌, map, ap, sym, ◌∙◌, zero-add, append_assoc}
use Rattle.std.specs.List.{range_with_len}
use Rattle.std.proofs.lemmas.List.FromFn.{map-range_with_len_more}
use Rattle.dom_base.proofs.Lists.{map-push}
use Rattle.stim_text.specs.CycleLines.{bit_letter}
use Rattle.net_gen.specs.Stimulus.{stimulus_bit, stimulus_cycle}
use Rattle.net_gen.proofs.stimulus.push_letters.Goals.{then-is_one, else-is_one}
use Rattle.net_gen.proofs.stimulus.push_letters.Goals as goal

pub pins-preserved : goal.pins-preserved
pins-preserved c =
    let pin = c.pins.pin in
    let front = c.args.text.now.items in
    let bit = stimulus_bit c.args.seed c.args.cycle in
    let before = stimulus_cycle c.args.seed pin c.args.cycle in
    let more = ap (λ l. front ++ map bit_letter l) (sym (map-range_with_len_more bit 0 pin pin (zero-add pin))) in
    let pushed = append_assoc front (map bit_letter before) (bit_letter (bit pin) ∷ []) ∙ ap (λ l. front ++ l) (sym (map-push bit_letter before (bit pin))) ∙ more in
    let letter : c.if-is_one.push ≡ bit_letter (bit pin) =
    elim c.if-is_one.branch [
      | then-is_one w ↦ w.push-is ∙ ap bit_letter (sym w.if-is_one.true ∙ c.is_one.ensures)
      | else-is_one w ↦ w.push-is ∙ ap bit_letter (sym w.if-is_one.false ∙ c.is_one.ensures)
    ] in
    c.in_ok-push.ensures.items ∙ (λ i. c.pins.invariant i ++ letter i ∷ []) ∙ pushed
