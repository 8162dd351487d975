use Rattle.std.proofs.Common.{arith, ◌∙◌, ◌≡◌, subst, get_or, ℕ}
use Rattle.std.proofs.lemmas.List.{get_or_default}
use Rattle.deck.specs.Switches.{value_of}
use Rattle.switch_model.specs.Found.{class_at}
use Rattle.switch_model.specs.Joins.{above}
use Rattle.switch_model.proofs.Forests.{top_top}
use Rattle.switch_model.proofs.room.Room.start.Goals as goal

pub returns-clause-alone : goal.returns-clause-alone
returns-clause-alone c = λ net at.
    let parents = c.loop-net.self.parents.items in
    let e : get_or c.args.nets.now at.0 0 ≡ net = get_or_default c.args.nets.now at.0 0 net at.1 ∙ at.2 in
    top_top parents c.loop-net.invariant.room.forest net (subst (λ (n : ℕ). above parents n ≡ n) e (c.loop-net.invariant.alone at.0 (omega (arith, at.1, c.loop-net-test.false))))

pub returns-clause-charge : goal.returns-clause-charge
returns-clause-charge c = λ net at.
    let e : get_or c.args.nets.now at.0 0 ≡ net = get_or_default c.args.nets.now at.0 0 net at.1 ∙ at.2 in
    subst (λ (n : ℕ). (class_at c.loop-net.self.classes.items n).charge ≡ value_of c.args.values.now n) e (c.loop-net.invariant.charge at.0 (omega (arith, at.1, c.loop-net-test.false)))
