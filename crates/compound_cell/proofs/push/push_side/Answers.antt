use Rattle.compound_cell.proofs.push.push_side.Goals as goal

pub push_stage-requires-clause-named : goal.push_stage-requires-clause-named
push_stage-requires-clause-named c = c.nets_at-cell.ensures.named

pub push_stage-requires-clause-stand : goal.push_stage-requires-clause-stand
push_stage-requires-clause-stand c = c.nets_at-cell.ensures.stand
