use Rattle.domsyn.proofs.ending.finish.Goals as goal

pub put_line-requires : goal.put_line-requires
put_line-requires g c = c.requires.err_room 4
