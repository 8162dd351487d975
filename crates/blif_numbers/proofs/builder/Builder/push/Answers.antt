use Rattle.std.proofs.Common.{ap, subst, sym, ◌∙◌}
use Rattle.std.proofs.lemmas.Result.{on_ok_weaker}
use Rattle.dom_base.specs.Lines.{first_word}
use Rattle.blif_ast.specs.LogicalLines.{LogicalLine}
use Rattle.blif_numbers.specs.Build.{built_by, context_in, opened_by}
use Rattle.blif_numbers.specs.Steps.{row_fault}
use Rattle.blif_numbers.specs.BuilderData.{built_in, row_taken}
use Rattle.blif_lines.specs.TextPlaces.{StandsAt}
use Rattle.blif_numbers.proofs.BuilderSteps.{clean_row}
use Rattle.blif_numbers.proofs.builder.Builder.push.Goals as goal

pub push_line-requires-clause-known : goal.push_line-requires-clause-known
push_line-requires-clause-known c = sym c.in-Some.ensures

pub push_row-requires-clause-clean : goal.push_row-requires-clause-clean
push_row-requires-clause-clean c =
    clean_row (context_in (built_in c.args.self.now)) c.args.line.now (sym c.in-None.ensures) c.requires.clean
    ∙ ap (λ (l : LogicalLine). row_fault (opened_by (built_in c.args.self.now).table) l.words) (sym c.line.view_is)

pub push_row-requires-clause-stands : goal.push_row-requires-clause-stands
push_row-requires-clause-stands c =
    subst (λ (l : LogicalLine). StandsAt c.args.self.now.file.text c.args.place (first_word l.words)) (sym c.line.view_is) c.requires.stands

pub returns-in-Some-clause-built : goal.returns-in-Some-clause-built
returns-in-Some-clause-built c = on_ok_weaker c.push_line.result
    (λ e. e ∙ ap (λ o. built_by (built_in c.args.self.now) o c.args.line.now) c.in-Some.ensures) c.push_line.ensures.built

pub returns-in-None-clause-built : goal.returns-in-None-clause-built
returns-in-None-clause-built c = on_ok_weaker c.push_row.result
    (λ e. e ∙ ap (λ (l : LogicalLine). row_taken (built_in c.args.self.now) l.words) c.line.view_is
    ∙ ap (λ o. built_by (built_in c.args.self.now) o c.args.line.now) c.in-None.ensures) c.push_row.ensures.built
