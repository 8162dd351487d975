-- what is read is a good file
use Rattle.comparison.proofs.file_network.network_of.Goals as goal

pub flatten-requires : goal.flatten-requires
flatten-requires c = record { good = c.accepted_file_is_good.ensures _ _ (c.in_ok-file.ensures.file) }
