use Rattle.std.proofs.Common.{sym, ap, ◌∙◌, rules}
use Rattle.std.specs.List.{list_any}
use Rattle.std.proofs.lemmas.List.{take_all}
use Rattle.std.proofs.lemmas.List.Folds.{list_any_at}
use Rattle.dom_base.proofs.Lists.{list_any-map}
use Rattle.command_words.specs.Written.{is_same}
use Rattle.command_words.proofs.items.is_among.Goals as goal

pub returns-then-is_same : goal.returns-then-is_same
returns-then-is_same c =
    sym (list_any-map (is_same c.args.word.now) (λ n. n.now) c.args.names.now ∙ search (rules, list_any_at))

pub returns : goal.returns
returns c =
    let all = take_all c.loop-name.name-index c.args.names.now c.loop-name-test.false in
    sym (list_any-map (is_same c.args.word.now) (λ n. n.now) c.args.names.now
    ∙ ap (list_any (λ n. is_same c.args.word.now n.now)) (sym all) ∙ c.loop-name.invariant)
