use Rattle.std.proofs.Common.{subst}
use Rattle.file_copies.specs.Pushing.{IsToCome}
use Rattle.file_copies.proofs.model_parts.push_due.Goals as goal

pub push_next_table-requires-clause-due : goal.push_next_table-requires-clause-due
push_next_table-requires-clause-due c =
    subst (IsToCome c.args.rest.now.tables.now c.args.rest.now.latches.now c.args.rest.now.instances.now) c.in-Table.is c.requires.due

pub push_next_latch-requires-clause-due : goal.push_next_latch-requires-clause-due
push_next_latch-requires-clause-due c =
    subst (IsToCome c.args.rest.now.tables.now c.args.rest.now.latches.now c.args.rest.now.instances.now) c.in-Latch.is c.requires.due

pub push_next_instance-requires-clause-due : goal.push_next_instance-requires-clause-due
push_next_instance-requires-clause-due c =
    subst (IsToCome c.args.rest.now.tables.now c.args.rest.now.latches.now c.args.rest.now.instances.now) c.in-Instance.is c.requires.due
