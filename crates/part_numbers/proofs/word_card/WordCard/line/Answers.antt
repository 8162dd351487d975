use Rattle.std.proofs.Common.{sym, ◌∙◌}
use Rattle.numbered_file.specs.Numbered.{named}
use Rattle.part_numbers.proofs.WordCards.{line_by}
use Rattle.part_numbers.proofs.word_card.WordCard.line.Goals as goal

pub returns : goal.returns
returns c = let w = c.args.self.now in c.from.ensures ∙ sym (line_by w.text.now w.line (named w.names.now w.words.now) w.rows.now w.kind)
