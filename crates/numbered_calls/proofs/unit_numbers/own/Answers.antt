use Rattle.std.proofs.Common.{◌≡◌, ◌+◌, ◌-◌, Some, ap, arith, length, refl, ◌∙◌}
use Rattle.std.proofs.lemmas.Option.{slice_get_read}
use Rattle.numbered_calls.proofs.unit_numbers.own.Goals as goal

pub returns-then-index-ne0-clause-other : goal.returns-then-index-ne0-clause-other
returns-then-index-ne0-clause-other c = λ f.
    let owners = c.args.owners.now.items in
    let owner = c.index.result.now in
    let some : owner ≡ owner - 1 + 1 = omega (arith, c.if-index-ne0.true) in
    (owner - 1, slice_get_read owners (length owners) c.args.name owner refl c.requires.within c.index.ensures ∙ ap Some some)

pub returns-clause-free : goal.returns-clause-free
returns-clause-free c = λ t.
    let owners = c.args.owners.now.items in
    let owner = c.index.result.now in
    let none : owner ≡ 0 = omega (arith, c.if-index-ne0.false) in
    slice_get_read owners (length owners) c.args.name owner refl c.requires.within c.index.ensures ∙ ap Some none
