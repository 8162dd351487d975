use Rattle.compare_designs.proofs.networks.blif.cases.compare.Goals as goal

pub print-requires : goal.print-requires
print-requires c = c.accepted_file_is_good.ensures _ _ c.in-Ok.ensures.file
