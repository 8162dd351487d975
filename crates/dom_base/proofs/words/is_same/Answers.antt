use Rattle.std.proofs.Common.{arith, ◌≤◌, length, sym, ◌∙◌}
use Rattle.std.proofs.lemmas.List.{take_all}
use Rattle.std.specs.Cmp.Lexicographic.{bytes_decides}
use Rattle.dom_base.proofs.words.is_same.Goals as goal

pub returns : goal.returns
returns c =
    let word = c.args.word.now in
    let other = c.args.other.now in
    let far : length other ≤ c.loop-index.index = omega (arith, c.loop-index-test.false, c.if-word-other.false) in
    sym ((bytes_decides word other).1 (sym (take_all c.loop-index.index word c.loop-index-test.false) ∙ c.loop-index.invariant ∙ take_all c.loop-index.index other far))
