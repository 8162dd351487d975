use Rattle.std.proofs.Common.{◌+◌, arith, ap, drop, length, sym, ◌∙◌}
use Rattle.std.proofs.lemmas.List.{drop_all, take_rest}
use Rattle.dom_base.proofs.Texts.{place_of_first, place_of_none}
use Rattle.blif_lines.proofs.cut.behind_feed.Goals as goal

pub returns-in-Some : goal.returns-in-Some
returns-in-Some c = take_rest c.args.text.now (c.in-Some.end + 1) ∙ ap (λ n. drop (n + 1) c.args.text.now) (sym (place_of_first 10 c.args.text.now c.in-Some.end c.in-Some.ensures))

pub returns-in-None : goal.returns-in-None
returns-in-None c =
    let text = c.args.text.now in
    let none = place_of_none 10 text c.in-None.ensures in
    take_rest text (length text) ∙ drop_all (length text) text (omega arith) ∙ sym (ap (λ n. drop (n + 1) text) none ∙ drop_all (length text + 1) text (omega arith))
