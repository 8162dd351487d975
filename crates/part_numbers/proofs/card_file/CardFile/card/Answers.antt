use Rattle.part_numbers.proofs.card_file.CardFile.card.Goals as goal

pub placed_card-requires-clause-are : goal.placed_card-requires-clause-are
placed_card-requires-clause-are c = c.self.invariant
