use Rattle.std.proofs.Common.{◌≡◌, Some, ap, length, refl, sym, ◌∙◌}
use Rattle.std.proofs.lemmas.Option.{slice_get_read}
use Rattle.std.specs.Cmp.Lexicographic.{bytes_decides}
use Rattle.deck.proofs.net_at.NetAt.number_in.Goals as goal

pub returns-then-eq : goal.returns-then-eq
returns-then-eq c =
    let nets = c.args.nets.now in
    let there = c.in_ok-there.there.now in
    let found = c.in_ok-there.ensures.lookup in
    let same : there ≡ c.args.self.name.now = (bytes_decides there c.args.self.name.now).0 (sym c.eq.ensures ∙ c.if-eq.true) in
    slice_get_read nets (length nets) c.in_ok-number.number there refl found.3.0 found.1 ∙ ap Some same
