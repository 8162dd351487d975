use Rattle.std.proofs.Common.{Some, ap, sym, ◌∙◌}
use Rattle.numbered_file.specs.Numbered.{named}
use Rattle.part_numbers.proofs.WordCards.{control_by}
use Rattle.part_numbers.proofs.word_card.WordCard.control.Goals as goal

pub returns : goal.returns
returns c =
    let w = c.args.self.now in
    control_by w.text.now w.line (named w.names.now w.words.now) w.rows.now w.kind c.requires.there ∙ ap Some (sym c.name.ensures)
