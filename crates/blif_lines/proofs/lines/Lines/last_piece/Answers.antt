use Rattle.std.proofs.Common.{ap, subst, sym, take, ◌∙◌}
use Rattle.std.proofs.lemmas.List.{take_rest}
use Rattle.blif_lines.specs.Cuts.{own_part}
use Rattle.blif_lines.specs.Pieces.{behind_line}
use Rattle.blif_lines.specs.TextPlaces.{IsRestOf, StandsAt}
use Rattle.blif_lines.proofs.PieceEnds.{behind-last_word, behind-rest, front-take, front-whole, stands}
use Rattle.blif_lines.proofs.lines.Lines.last_piece.Goals as goal

pub returns-in_err-push_word-clause-behind : goal.returns-in_err-push_word-clause-behind
returns-in_err-push_word-clause-behind c =
    c.behind_line-self.ensures ∙ ap behind_line (take_rest c.args.self.now.rest.now c.args.word.end)
    ∙ behind-last_word c.args.self.now.rest.now c.args.word.end c.requires.end.end_is

pub returns-in_err-push_word-clause-rest : goal.returns-in_err-push_word-clause-rest
returns-in_err-push_word-clause-rest c =
    let is = c.behind_line-self.ensures ∙ ap behind_line (take_rest c.args.self.now.rest.now c.args.word.end)
    ∙ behind-last_word c.args.self.now.rest.now c.args.word.end c.requires.end.end_is in
    subst (IsRestOf c.args.self.now.text.now) (sym is) (behind-rest c.args.self.now.text.now c.args.self.now.rest.now c.requires.rest)

pub returns-clause-behind : goal.returns-clause-behind
returns-clause-behind c =
    c.behind_line-self.ensures ∙ ap behind_line (take_rest c.args.self.now.rest.now c.args.word.end)
    ∙ behind-last_word c.args.self.now.rest.now c.args.word.end c.requires.end.end_is

pub returns-clause-rest : goal.returns-clause-rest
returns-clause-rest c =
    let is = c.behind_line-self.ensures ∙ ap behind_line (take_rest c.args.self.now.rest.now c.args.word.end)
    ∙ behind-last_word c.args.self.now.rest.now c.args.word.end c.requires.end.end_is in
    subst (IsRestOf c.args.self.now.text.now) (sym is) (behind-rest c.args.self.now.text.now c.args.self.now.rest.now c.requires.rest)

pub returns-clause-noted : goal.returns-clause-noted
returns-clause-noted c =
    let text = c.args.self.now.text.now in
    let rest = c.args.self.now.rest.now in
    let own = own_part c.last_line-line.result.now in
    let front = front-whole own (take c.args.word.end rest) rest c.last_line-line.ensures.front (front-take c.args.word.end rest) in
    let there = subst (λ place. StandsAt text place own) (sym c.place-place.ensures) (stands text rest own c.requires.rest front) in
    c.in_ok-push_word.ensures.noted text c.requires.noted (subst (StandsAt text c.place-place.result) (sym c.own_part-last.ensures) there)
