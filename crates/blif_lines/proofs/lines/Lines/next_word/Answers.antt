use Rattle.std.proofs.Common.{◌+◌, subst, sym}
use Rattle.std.proofs.lemmas.List.{take_rest}
use Rattle.blif_lines.specs.TextPlaces.{IsRestOf}
use Rattle.blif_lines.specs.Pieces.{IsStep}
use Rattle.blif_lines.proofs.PieceEnds.{rest-drop, step}
use Rattle.blif_lines.proofs.lines.Lines.next_word.Goals as goal

pub returns-in_err-push_word-clause-rest : goal.returns-in_err-push_word-clause-rest
returns-in_err-push_word-clause-rest c =
    let rest = c.args.self.now.rest.now in
    subst (IsRestOf c.args.self.now.text.now) (sym (take_rest rest (c.args.word.end + 1))) (rest-drop c.args.self.now.text.now rest (c.args.word.end + 1) c.requires.rest)

pub returns-in_err-push_word-clause-step : goal.returns-in_err-push_word-clause-step
returns-in_err-push_word-clause-step c =
    let rest = c.args.self.now.rest.now in
    subst (λ next. IsStep rest next c.args.word.end) (sym (take_rest rest (c.args.word.end + 1))) (step rest c.args.word.end c.requires.end.end_is c.requires.blank)

pub returns-clause-rest : goal.returns-clause-rest
returns-clause-rest c =
    let rest = c.args.self.now.rest.now in
    subst (IsRestOf c.args.self.now.text.now) (sym (take_rest rest (c.args.word.end + 1))) (rest-drop c.args.self.now.text.now rest (c.args.word.end + 1) c.requires.rest)

pub returns-clause-step : goal.returns-clause-step
returns-clause-step c =
    let rest = c.args.self.now.rest.now in
    subst (λ next. IsStep rest next c.args.word.end) (sym (take_rest rest (c.args.word.end + 1))) (step rest c.args.word.end c.requires.end.end_is c.requires.blank)
