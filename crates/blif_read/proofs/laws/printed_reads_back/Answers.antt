use Rattle.blif_read.proofs.PrintReadsBackFiles.{reads_back}
use Rattle.blif_read.proofs.laws.printed_reads_back.Goals as goal

pub returns : goal.returns
returns c = λ file good. reads_back file good
