use Rattle.std.proofs.Common.{◌∙◌, ap}
use Rattle.audit_deck.specs.Answers.{answer_of}
use Rattle.command_answers.specs.Endings.{ending_of}
use Rattle.command_answers.proofs.AuditedDecks.{audited}
use Rattle.command_answers.proofs.audit_command.audit.Goals as goal

pub returns-clause-audit : goal.returns-clause-audit
returns-clause-audit c = (
  c.in_ok-circuit.circuit,
  answer_of c.in_ok-found.found,
  record {
    is_deck = c.in_ok-circuit.ensures.circuit;
    roles = c.in_ok-roles.roles;
    are_roles = c.in_ok-roles.ensures.roles;
    is_audit = c.in_ok-found.ensures.answer;
  },
  c.in_ok-text.ensures,
  c.of-ending.ensures ∙ ap ending_of c.is_yes.ensures,
)

pub returns-clause-right : goal.returns-clause-right
returns-clause-right c done =
    audited c.args.deck.now c.in_ok-text.text.items c.in_ok-circuit.circuit (answer_of c.in_ok-found.found) c.of-ending.result
    (record {
      is_deck = c.in_ok-circuit.ensures.circuit;
      roles = c.in_ok-roles.roles;
      are_roles = c.in_ok-roles.ensures.roles;
      is_audit = c.in_ok-found.ensures.answer;
    })
    c.in_ok-text.ensures (c.of-ending.ensures ∙ ap ending_of c.is_yes.ensures) done
