use Rattle.std.proofs.Common.{Some, ap, map, sym, ◌∙◌}
use Rattle.std.proofs.lemmas.Result.{on_ok_weaker}
use Rattle.blif_ast.specs.LogicalLines.{LogicalLine}
use Rattle.blif_numbers.specs.Build.{built_by, context_in, has_model}
use Rattle.blif_lines.specs.Cuts.{numbered_line}
use Rattle.blif_numbers.specs.Steps.{card_fault}
use Rattle.blif_numbers.specs.BuilderData.{built_in}
use Rattle.blif_numbers.proofs.BuilderSteps.{clean_card}
use Rattle.blif_numbers.proofs.builder.Builder.push_line.Goals as goal

pub push_known-requires-clause-clean : goal.push_known-requires-clause-clean
push_known-requires-clause-clean c =
    clean_card (context_in (built_in c.args.self.now)) c.args.line.now c.args.card c.requires.known c.requires.clean
    ∙ ap (λ (l : LogicalLine). card_fault (has_model (built_in c.args.self.now).model) (Some c.args.card) l.words) (sym c.line.view_is)

pub returns-clause-built : goal.returns-clause-built
returns-clause-built c = on_ok_weaker c.push_known.result
    (λ e. e ∙ ap (λ n. built_by (built_in c.args.self.now) (Some c.args.card) (numbered_line n (map (λ w. w.now) c.line.inside.words.now))) c.in_ok-number.ensures
    ∙ ap (built_by (built_in c.args.self.now) (Some c.args.card)) c.line.view_is) c.push_known.ensures.built
