use Rattle.std.proofs.Common.{◌∙◌, ap, sym, subst}
use Rattle.std.specs.Str.{str_to_ascii_lowercase}
use Rattle.dom_base.specs.Lines.{unindented}
use Rattle.spice_read.specs.Readers.{LinesLeft, ReadsLine}
use Rattle.spice_read.proofs.FirstWords.{unindented-twice}
use Rattle.spice_read.proofs.LinesRead.{last_line, other_line}
use Rattle.spice_read.proofs.lines.Lines.next.Goals as goal
use Rattle.spice_read.proofs.lines.Lines.next.Goals.{then-is_end, else-is_end}

pub is_end-requires : goal.is_end-requires
is_end-requires c = ap unindented c.unindent-line.ensures ∙ unindented-twice c.in_ok-line.line.now ∙ sym c.unindent-line.ensures

pub returns-clause-line : goal.returns-clause-line
returns-clause-line c =
    let before : LinesLeft = record { number = c.self.inside.number; rest = c.self.inside.rest.now } in
    elim c.if-is_end.branch [
      | then-is_end w ↦ subst (λ b. ReadsLine b (str_to_ascii_lowercase c.unindent-line.result.now) c.if-is_end.self) c.self.view_is (subst (ReadsLine before (str_to_ascii_lowercase c.unindent-line.result.now)) (sym w.self-is) (last_line before c.in_ok-line.line.now c.in_ok-line.rest.now c.in_ok-line.ensures c.unindent-line.result.now c.unindent-line.ensures (sym c.is_end.ensures ∙ w.if-is_end.true)))
      | else-is_end w ↦ subst (λ b. ReadsLine b (str_to_ascii_lowercase c.unindent-line.result.now) c.if-is_end.self) c.self.view_is (subst (ReadsLine before (str_to_ascii_lowercase c.unindent-line.result.now)) (sym w.self-is) (other_line before c.in_ok-line.line.now c.in_ok-line.rest.now c.in_ok-line.ensures c.unindent-line.result.now c.unindent-line.ensures (sym c.is_end.ensures ∙ w.if-is_end.false)))
    ]
