use Rattle.std.proofs.Common.{◌≡◌, ◌∙◌, IfOk, ap, subst, sym}
use Rattle.deck.specs.Nets.{net_number}
use Rattle.subckt_expand.specs.Units.{definitions}
use Rattle.subckt_expand.specs.Frames.{name_at}
use Rattle.subckt_expand.proofs.DevicesMade.{noted}
use Rattle.subckt_expand.proofs.expand.Expanding.+names.Goals as goal

pub number-note-requires-clause-number : goal.number-note-requires-clause-number
number-note-requires-clause-number t c =
    noted c.args.self.now c.number_own.new.self c.args.level c.args.net c.in_ok-number.number c.in_ok-number.ensures.place c.in_ok-number.ensures.nets c.in_ok-number.ensures.number

pub number_own-returns-then-level-eq0-clause-number :
    goal.number_own-returns-then-level-eq0-clause-number
number_own-returns-then-level-eq0-clause-number t c =
    let e = c.args.self.now in
    let own = c.in_ok-name.name in
    let first = ap (λ level. name_at (definitions e.units) e.main e.calls level own) c.if-level-eq0.true in
    subst (λ name. IfOk c.number_main.result (λ i. i ≡ net_number e.nets name)) (sym first ∙ c.in_ok-name.ensures) c.number_main.ensures.number

pub number_of-returns-then-level-eq0-clause-number :
    goal.number_of-returns-then-level-eq0-clause-number
number_of-returns-then-level-eq0-clause-number t c =
    let e = c.args.self.now in
    subst (λ level. IfOk c.number_main.result (λ i. i ≡ net_number e.nets (name_at (definitions e.units) e.main e.calls level c.args.name))) (sym c.if-level-eq0.true) c.number_main.ensures.number
