use Rattle.std.proofs.Common.{Some, ap, sym, ◌∙◌}
use Rattle.numbered_file.specs.Numbered.{named}
use Rattle.part_numbers.proofs.WordCards.{input_by}
use Rattle.part_numbers.proofs.word_card.WordCard.input.Goals as goal

pub returns : goal.returns
returns c =
    let w = c.args.self.now in
    input_by w.text.now w.line (named w.names.now w.words.now) w.rows.now w.kind c.args.index c.requires.there ∙ ap Some (sym c.name.ensures)
