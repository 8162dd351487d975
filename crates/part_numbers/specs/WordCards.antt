-- The cards that a file of BLIF, the Berkeley Logic Interchange Format, by numbers lends: the words and rows of its parts.
use Rattle.model_calls.specs.Expanded.{BodyCard}
use Rattle.numbered_file.specs.Numbered.{Part, named, part_by}
use Rattle.card_places.specs.PartCards.{part_card}
use Rattle.part_numbers.specs.declared.word_card.WordCard.{WordCard}

-- the part that stands in these words and rows
abbrev pub part_by_words : WordCard → Part
part_by_words w = part_by w.text.now w.kind w.line (named w.names.now w.words.now) w.rows.now

abbrev pub card_by_words : WordCard → BodyCard
card_by_words w = part_card (part_by_words w)
