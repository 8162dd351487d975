use Rattle.part_numbers.specs.WordCards.{part_by_words}
use Rattle.part_numbers.proofs.PlacedCards.{latch_is, latch_part, latch_place}
use Rattle.part_numbers.proofs.card_file.placed_latch.Goals as goal

pub latch-requires : goal.latch-requires
latch-requires c = latch_place c.args.file.now c.args.places.now c.requires.are c.args.model c.args.index c.requires.there

pub words_at-requires : goal.words_at-requires
words_at-requires c = record { there = latch_part c.args.file.now c.args.places.now c.requires.are c.args.model c.args.index c.requires.there c.latch.result c.latch.ensures }

pub returns : goal.returns
returns c = latch_is c.args.file.now c.args.places.now c.requires.are c.args.model c.args.index c.requires.there c.latch.result c.latch.ensures
    (part_by_words c.words_at.result) c.words_at.ensures
