use Rattle.std.proofs.Common.{ap, sym, take, ◌∙◌}
use Rattle.std.specs.List.{list_any}
use Rattle.dom_base.specs.Lines.{is_control}
use Rattle.blif_lines.proofs.PieceEnds.{none_special, special_control, special_ends}
use Rattle.blif_lines.proofs.cut.word_end.Goals as goal

pub returns-in-None : goal.returns-in-None
returns-in-None c = let done = none_special c.args.text.now c.in-None.ensures in record { end_is = done.0; control_is = done.1 }

pub returns-then-ends_word : goal.returns-then-ends_word
returns-then-ends_word c =
    let done = special_ends c.args.text.now c.in-Some.end c.in-Some.ensures (sym c.ends_word.ensures ∙ c.if-ends_word.true) in
    record { end_is = done.0; control_is = done.1 }

pub returns-else-ends_word : goal.returns-else-ends_word
returns-else-ends_word c = record {
  end_is = c.parting_place.ensures;
  control_is = special_control c.args.text.now c.in-Some.end c.in-Some.ensures (sym c.ends_word.ensures ∙ c.if-ends_word.false)
      ∙ ap (λ n. list_any is_control (take n c.args.text.now)) (sym c.parting_place.ensures);
}
