use Rattle.std.proofs.Common.{rules, ◌∷◌, ◌∙◌, sym, ap, refl, map}
use Rattle.std.specs.List.{list_any}
use Rattle.std.proofs.lemmas.Result.{IfOk-weaker}
use Rattle.dom_base.specs.Lines.{is_control, lines}
use Rattle.dom_base.proofs.Options.{none_case, some_case}
use Rattle.blif_ast.specs.LogicalLines.{LogicalLine, logical_lines_from}
use Rattle.blif_ast.specs.declared.kind.BlifKind.TheVariants.{NoModel}
use Rattle.blif_lines.specs.Cuts.{numbered_line}
use Rattle.blif_numbers.proofs.ReaderInvariant.{Cuts, same_fault, line_of_fault, kind_of_fault}
use Rattle.blif_numbers.proofs.Reading.{begins, ends, has_nothing, refuses, stands, takes}
use Rattle.blif_numbers.proofs.reader.read_by.Goals as goal

pub lines-init : goal.lines-init
lines-init c = begins c.args.text.now c.new-builder.result c.new-builder.ensures.lists c.new-builder.ensures.none c.new-builder.ensures.builder (search rules)

pub new-line-requires : goal.new-line-requires
new-line-requires c =
    (some_case _ _ _ c.in-Some.number c.in-Some.is c.in_ok-number.ensures.noted).control
    ∙ ap (λ ws. list_any (list_any is_control) (map (λ w. w.now) ws)) (sym c.deref.ensures.value)

pub push-requires-clause-clean : goal.push-requires-clause-clean
push-requires-clause-clean c = sym c.in_default-fault.is ∙ c.fault.ensures

pub push-requires-clause-stands : goal.push-requires-clause-stands
push-requires-clause-stands c =
    let line_is = c.new-line.ensures ∙ ap (λ ws. numbered_line c.in-Some.number (map (λ w. w.now) ws)) c.deref.ensures.value in
    stands c.lines.invariant c.next.new.notes.place (map (λ w. w.now) c.next.new.words.items) c.new-line.result
    (line_is ∙ ap (λ n. numbered_line n (map (λ w. w.now) c.next.new.words.items)) (sym (ap (λ (l : LogicalLine). l.number) c.new-line.ensures)))
    (some_case _ _ _ c.in-Some.number c.in-Some.is c.in_ok-number.ensures.noted).stands

pub returns-in-Some-fault-clause-fault : goal.returns-in-Some-fault-clause-fault
returns-in-Some-fault-clause-fault c = λ line kind is.
    let some = some_case _ _ _ c.in-Some.number c.in-Some.is c.in_ok-number.ensures.line in
    let line_is = c.new-line.ensures ∙ ap (λ ws. numbered_line c.in-Some.number (map (λ w. w.now) ws)) c.deref.ensures.value in
    let cut : Cuts c.lines.lines.number c.lines.lines.rest.now c.new-line.result c.next.new.self.number c.next.new.self.rest.now = record {
      lines_are = some.1 ∙ ap (λ l. l ∷ logical_lines_from c.next.new.self.number (lines c.next.new.self.rest.now)) (sym line_is);
      fit = c.in_ok-number.ensures.fit;
      count = c.in_ok-number.ensures.number refl;
    } in
    same_fault c.args.text.now line c.new-line.result.number kind c.in-Some-fault.kind (sym (ap line_of_fault is) ∙ sym (ap (λ (l : LogicalLine). l.number) c.new-line.ensures)) (sym (ap kind_of_fault is))
    (refuses c.lines.invariant cut c.in-Some-fault.kind (sym c.in-Some-fault.is ∙ c.fault.ensures))

pub lines-preserved : goal.lines-preserved
lines-preserved c =
    let some = some_case _ _ _ c.in-Some.number c.in-Some.is c.in_ok-number.ensures.line in
    let line_is = c.new-line.ensures ∙ ap (λ ws. numbered_line c.in-Some.number (map (λ w. w.now) ws)) c.deref.ensures.value in
    let cut : Cuts c.lines.lines.number c.lines.lines.rest.now c.new-line.result c.next.new.self.number c.next.new.self.rest.now = record {
      lines_are = some.1 ∙ ap (λ l. l ∷ logical_lines_from c.next.new.self.number (lines c.next.new.self.rest.now)) (sym line_is);
      fit = c.in_ok-number.ensures.fit;
      count = c.in_ok-number.ensures.number refl;
    } in
    let done = c.in_ok-push.ensures in
    takes c.lines.invariant cut (sym c.in_default-fault.is ∙ c.fault.ensures) (ap (λ t. t.now) c.in_ok-number.ensures.text) c.in_ok-number.ensures.rest
    c.push.new.builder done.built done.builder done.text

pub returns-clause-file : goal.returns-clause-file
returns-clause-file c =
    let none = none_case _ _ _ c.in_default.is c.in_ok-number.ensures.line in
    IfOk-weaker c.finish.result _ _ (λ file p. ends c.lines.invariant none.1 _ p) c.finish.ensures.file

pub returns-clause-fault : goal.returns-clause-fault
returns-clause-fault c = λ line kind is.
    let none = none_case _ _ _ c.in_default.is c.in_ok-number.ensures.line in
    let f = c.finish.ensures.fault line kind is in
    same_fault c.args.text.now line c.next.new.self.number kind NoModel f.1 f.2
    (has_nothing c.lines.invariant none.1 c.next.new.self.number c.next.new.self.rest.now (c.in_ok-number.ensures.number refl) none.0 f.0)
