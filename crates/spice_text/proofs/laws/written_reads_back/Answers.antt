use Rattle.deck.proofs.DeckUnique.{IsDeckOf-unique}
use Rattle.spice_text.proofs.ReadBack.{read_back, IsDeckOf-writable}
use Rattle.spice_text.proofs.laws.written_reads_back.Goals as goal

pub returns-clause-back : goal.returns-clause-back
returns-clause-back c = λ d text whole good written. read_back d text record { is = whole.numbered; names = whole.names; good = good } written

pub returns-clause-again : goal.returns-clause-again
returns-clause-again c = λ text other d deck written. read_back d other (IsDeckOf-writable text d deck) written

pub returns-clause-alone : goal.returns-clause-alone
returns-clause-alone c = λ text d e x y. IsDeckOf-unique text d e x y
