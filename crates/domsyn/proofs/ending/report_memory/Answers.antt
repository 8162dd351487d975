use Rattle.domsyn.proofs.ending.report_memory.Goals as goal

pub put_line-requires : goal.put_line-requires
put_line-requires g c = c.requires 5
