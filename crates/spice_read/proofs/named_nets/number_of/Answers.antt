use Rattle.std.proofs.Common.{slice_get, ap, sym, ◌∙◌}
use Rattle.std.specs.Str.{str_to_ascii_lowercase}
use Rattle.deck.proofs.KnownNumbers.{known_net, known_number}
use Rattle.spice_read.proofs.named_nets.number_of.Goals as goal

pub returns-then-is_named-clause-number : goal.returns-then-is_named-clause-number
returns-then-is_named-clause-number c =
    let guess = c.in-Some.guess in
    let at = ap (λ nets. slice_get nets guess) (sym c.as_slice.ensures.keys) ∙ c.is_named.ensures c.if-is_named.true in
    sym (known_number c.args.nets.now.keys (str_to_ascii_lowercase c.args.word.now) guess c.as_slice.ensures.unique at)

pub returns-then-is_named-clause-keys : goal.returns-then-is_named-clause-keys
returns-then-is_named-clause-keys c =
    let guess = c.in-Some.guess in
    let at = ap (λ nets. slice_get nets guess) (sym c.as_slice.ensures.keys) ∙ c.is_named.ensures c.if-is_named.true in
    sym (known_net c.args.nets.now.keys (str_to_ascii_lowercase c.args.word.now) guess c.as_slice.ensures.unique at)
