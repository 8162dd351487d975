use Rattle.std.proofs.Common.{ap, ◌∙◌, length, take}
use Rattle.std.specs.Str.{str_to_ascii_lowercase}
use Rattle.deck.specs.Nets.{with_net}
use Rattle.spice_read.proofs.NamedNets.{begins-with_nets}
use Rattle.spice_read.proofs.named_nets.number_ends.Goals as goal

pub returns-clause-begins : goal.returns-clause-begins
returns-clause-begins c =
    let nets = c.args.nets.now.keys in
    let drain = str_to_ascii_lowercase c.word.result.now in
    let gate = str_to_ascii_lowercase c.word-2.result.now in
    let source = str_to_ascii_lowercase c.word-3.result.now in
    let keys = c.in_ok-source.ensures.keys ∙ ap (λ l. with_net l source) (c.in_ok-gate.ensures.keys ∙ ap (λ l. with_net l gate) c.in_ok-drain.ensures.keys) in
    ap (take (length nets)) keys ∙ begins-with_nets nets drain gate source
