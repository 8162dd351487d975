use Rattle.chosen_law.proofs.Overlapping.{overlapping_evaluation_is_legal, overlapping_reads_own_run}
use Rattle.chosen_law.proofs.OverlappingSettles.{overlapping_cycle_never_unsettled}
use Rattle.chosen_law.proofs.laws.overlapping_runs_read_own_run.Goals as goal

pub returns-clause-evaluation : goal.returns-clause-evaluation
returns-clause-evaluation c = overlapping_evaluation_is_legal

pub returns-clause-reads : goal.returns-clause-reads
returns-clause-reads c = overlapping_reads_own_run

pub returns-clause-cycle : goal.returns-clause-cycle
returns-clause-cycle c = overlapping_cycle_never_unsettled
