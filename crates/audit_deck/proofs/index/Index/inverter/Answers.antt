use Rattle.std.proofs.Common.{get_or, ℕ}
use Rattle.audit_deck.specs.Fronts.{IsInverterAt, IsPairAt}
use Rattle.audit_deck.specs.declared.fronts.Inverter.{Inverter}
use Rattle.deck_audit.specs.Words.{IsInverterOutput}
use Rattle.audit_deck.proofs.Found.{no_pair, not_two, pair_inverts, turned_inverts}
use Rattle.link_reduce.proofs.Options.{none_weaker}
use Rattle.dom_base.proofs.Options.{some_weaker}
use Rattle.audit_deck.proofs.index.Index.inverter.Goals as goal

pub returns-then-ending-ne2-clause-none : goal.returns-then-ending-ne2-clause-none
returns-then-ending-ne2-clause-none c =
    not_two c.args.self.now.devices c.args.net c.ending-ending.result.now c.ending-ending.ensures.are c.if-ending-ne2.true

pub returns-in_default-clause-some : goal.returns-in_default-clause-some
returns-in_default-clause-some c =
    let l = c.ending-ending.result.now in
    some_weaker c.pair-in_default.result (IsPairAt c.args.self.now.devices c.args.net (get_or l 1 0) (get_or l 0 0)) (IsInverterAt c.args.self.now.devices c.args.net)
    (turned_inverts c.args.self.now.devices c.args.net l c.ending-ending.ensures.are c.if-ending-ne2.false) c.pair-in_default.ensures.some

pub returns-in_default-clause-none : goal.returns-in_default-clause-none
returns-in_default-clause-none c =
    let l = c.ending-ending.result.now in
    none_weaker c.pair-in_default.result ((i : Inverter) → IsPairAt c.args.self.now.devices c.args.net (get_or l 1 0) (get_or l 0 0) i → ⊥)
    ((input : ℕ) → IsInverterOutput c.args.self.now.devices c.args.net input → ⊥)
    (λ none. no_pair c.args.self.now.devices c.args.net l c.ending-ending.ensures.are c.if-ending-ne2.false c.in_default.ensures.none none)
    c.pair-in_default.ensures.none

pub returns-clause-some : goal.returns-clause-some
returns-clause-some c =
    pair_inverts c.args.self.now.devices c.args.net c.ending-ending.result.now c.ending-ending.ensures.are c.if-ending-ne2.false c.in-Some.inverter c.in-Some.ensures.some
