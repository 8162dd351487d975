use Rattle.std.proofs.Common.{get_or, length, subst, ◌<◌}
use Rattle.link_reduce.specs.Parts.{IsOnce}
use Rattle.audit_deck.specs.Numberings.{NumberingData}
use Rattle.audit_deck.proofs.Numberings.{numbering_once, numbering_within}
use Rattle.audit_deck.proofs.numbering.Numbering.nets.Goals as goal

pub returns-clause-once : goal.returns-clause-once
returns-clause-once c = subst (λ (v : NumberingData). IsOnce v.nets) c.self.view_is (numbering_once c.self.inside.numbers.items c.self.inside.nets.items c.self.invariant)

pub returns-clause-within : goal.returns-clause-within
returns-clause-within c = λ i d.
    subst (λ (v : NumberingData). i < length v.nets → get_or v.nets i d < v.room) c.self.view_is
    (numbering_within c.self.inside.numbers.items c.self.inside.nets.items c.self.invariant i d)
