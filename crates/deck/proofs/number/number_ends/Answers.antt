use Rattle.std.proofs.Common.{◌∙◌, ap, subst, sym}
use Rattle.deck.specs.Nets.{with_net}
use Rattle.deck.specs.NetsAt.{StandsAt}
use Rattle.deck.proofs.NetsAt.{StandsAt-later}
use Rattle.deck.proofs.number.number_ends.Goals as goal

pub number-requires-2-clause-stands : goal.number-requires-2-clause-stands
number-requires-2-clause-stands c =
    subst (λ l. StandsAt l c.args.gate.number c.args.gate.name.now) (sym c.in_ok-drain.ensures.keys)
    (StandsAt-later c.args.nets.now.keys c.args.drain.name.now c.args.gate.number c.args.gate.name.now c.requires.gate)

pub number-requires-3-clause-stands : goal.number-requires-3-clause-stands
number-requires-3-clause-stands c =
    let one = with_net c.args.nets.now.keys c.args.drain.name.now in
    subst (λ l. StandsAt l c.args.source.number c.args.source.name.now)
    (sym (c.in_ok-gate.ensures.keys ∙ ap (λ l. with_net l c.args.gate.name.now) c.in_ok-drain.ensures.keys))
    (StandsAt-later one c.args.gate.name.now c.args.source.number c.args.source.name.now
    (StandsAt-later c.args.nets.now.keys c.args.drain.name.now c.args.source.number c.args.source.name.now c.requires.source))
