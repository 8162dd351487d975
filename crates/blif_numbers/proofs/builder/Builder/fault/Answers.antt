use Rattle.std.proofs.Common.{ap, sym, ◌∙◌}
use Rattle.std.specs.Option.{option_map}
use Rattle.blif_ast.specs.LogicalLines.{LogicalLine}
use Rattle.blif_numbers.specs.Build.{context_in}
use Rattle.blif_numbers.specs.Steps.{card_fault, row_fault}
use Rattle.blif_numbers.specs.BuilderData.{built_in, width_and_letter}
use Rattle.blif_numbers.proofs.BuilderSteps.{fault_card, fault_control, fault_row, opened_row}
use Rattle.blif_numbers.proofs.builder.Builder.fault.Goals as goal

pub returns-then-has_control : goal.returns-then-has_control
returns-then-has_control c = fault_control (context_in (built_in c.args.self.now)) c.args.line.now (sym c.has_control.ensures ∙ c.if-has_control.true)

pub returns-then-is_card : goal.returns-then-is_card
returns-then-is_card c =
    c.card_fault.ensures ∙ (λ i. card_fault (c.has_open_model.ensures i) (c.card.ensures i) (ap (λ (l : LogicalLine). l.words) c.line.view_is i))
    ∙ fault_card (context_in (built_in c.args.self.now)) c.args.line.now (sym c.has_control.ensures ∙ c.if-has_control.false) (sym c.is_card.ensures ∙ c.if-is_card.true)

pub returns-else-is_card : goal.returns-else-is_card
returns-else-is_card c =
    c.row_fault.ensures ∙ (λ i. row_fault (option_map width_and_letter (c.open_table.ensures i)) (ap (λ (l : LogicalLine). l.words) c.line.view_is i))
    ∙ ap (λ o. row_fault o c.args.line.now.words) (sym (opened_row c.args.self.now c.requires))
    ∙ fault_row (context_in (built_in c.args.self.now)) c.args.line.now (sym c.has_control.ensures ∙ c.if-has_control.false) (sym c.is_card.ensures ∙ c.if-is_card.false)
