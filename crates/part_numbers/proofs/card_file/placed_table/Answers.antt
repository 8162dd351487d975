use Rattle.part_numbers.specs.WordCards.{part_by_words}
use Rattle.part_numbers.proofs.PlacedCards.{table_is, table_part, table_place}
use Rattle.part_numbers.proofs.card_file.placed_table.Goals as goal

pub table-requires : goal.table-requires
table-requires c = table_place c.args.file.now c.args.places.now c.requires.are c.args.model c.args.index c.requires.there

pub words_at-requires : goal.words_at-requires
words_at-requires c = record { there = table_part c.args.file.now c.args.places.now c.requires.are c.args.model c.args.index c.requires.there c.table.result c.table.ensures }

pub returns : goal.returns
returns c = table_is c.args.file.now c.args.places.now c.requires.are c.args.model c.args.index c.requires.there c.table.result c.table.ensures
    (part_by_words c.words_at.result) c.words_at.ensures
