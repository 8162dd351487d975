use Rattle.trace_tool.proofs.ordered.traced_by.Given as goal

abbrev pub ghosts-traced : goal.ghosts-traced
ghosts-traced a = record { name = a.blank.name; parts = a.blank.parts }
