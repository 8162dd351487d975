use Rattle.std.proofs.Common.{◌≡◌, ◌≤◌, [], ◌∷◌, ◌++◌, ap, ◌∙◌, arith, subst, sym}
use Rattle.deck.specs.PortLayout.{first_pin}
use Rattle.deck.specs.declared.role.Roles.{Roles}
use Rattle.trace_tool.specs.Moves.{evaluation_by, set_bits}
use Rattle.trace_tool.specs.RunData.{raised}
use Rattle.trace_tool.specs.SetupData.{SetupData}
use Rattle.trace_tool.proofs.MoveLists.{evaluation_are}
use Rattle.trace_tool.proofs.MoveRuns.{halts-after, halts-before, runs-all}
use Rattle.trace_tool.proofs.RaisedClocks.{fewer_raised}
use Rattle.trace_tool.proofs.run.Run.evaluate.Goals as goal

pub returns-in_err-set-clause-runs : goal.returns-in_err-set-clause-runs
returns-in_err-set-clause-runs g c =
    let setup = c.args.self.now.setup in
    let some : 1 ≤ setup.roles.clocks = subst (λ (r : Roles). 1 ≤ r.clocks) c.roles.ensures.roles c.roles.ensures.some in
    halts-before (λ pick step count place. g.F.Fn.post pick (step, (count, tt)) place) c.args.self.now c.drive.new.self
    (set_bits c.first_pin.result c.args.pins.now ∷ []) (raised setup.clocking 0 setup.roles.clocks)
    (evaluation_by setup.clocking setup.roles c.args.pins.now) c.in_err-set.field-0.0 c.from_residual.result
    (evaluation_are setup.clocking setup.roles c.first_pin.result c.args.pins.now some
    (c.first_pin.ensures ∙ ap (λ (r : Roles). first_pin r) c.roles.ensures.roles)) c.from_residual.ensures.1 c.in_err-set.ensures

pub returns-in_err-raised-clause-runs : goal.returns-in_err-raised-clause-runs
returns-in_err-raised-clause-runs g c =
    let setup = c.args.self.now.setup in
    let later = c.drive.new.self.setup in
    let set = set_bits c.first_pin.result c.args.pins.now ∷ [] in
    let some : 1 ≤ setup.roles.clocks = subst (λ (r : Roles). 1 ≤ r.clocks) c.roles.ensures.roles c.roles.ensures.some in
    halts-after (λ pick step count place. g.F.Fn.post pick (step, (count, tt)) place) c.args.self.now c.drive.new.self
    c.raise_clocks.new.self
    set (raised later.clocking 0 later.roles.clocks)
    (evaluation_by setup.clocking setup.roles c.args.pins.now) c.in_ok-set.set c.in_err-raised.field-0.0
    c.from_residual-in_err-raised.result
    (ap (λ (x : SetupData). set ++ raised x.clocking 0 x.roles.clocks) c.in_ok-set.ensures.1.same_setup
    ∙ evaluation_are setup.clocking setup.roles c.first_pin.result c.args.pins.now some
    (c.first_pin.ensures ∙ ap (λ (r : Roles). first_pin r) c.roles.ensures.roles))
    c.from_residual-in_err-raised.ensures.1 c.in_ok-set.ensures c.in_err-raised.ensures

pub overflow_add-result : goal.overflow_add-result
overflow_add-result g c =
    let setup = c.args.self.now.setup in
    let later = c.drive.new.self.setup in
    let same = ap (λ (x : SetupData). x.roles.clocks) c.in_ok-set.ensures.1.same_setup in
    let here = ap (λ (r : Roles). r.clocks) c.roles.ensures.roles in
    let few = fewer_raised later.clocking later.roles.clocks (omega (arith, same, here, c.roles.ensures.some)) in
    omega (arith, c.in_ok-set.ensures.3, c.in_ok-raised.ensures.3, few, here, same, c.roles.ensures.few)

pub returns-clause-few : goal.returns-clause-few
returns-clause-few g c =
    let setup = c.args.self.now.setup in
    let later = c.drive.new.self.setup in
    let same = ap (λ (x : SetupData). x.roles.clocks) c.in_ok-set.ensures.1.same_setup in
    let here = ap (λ (r : Roles). r.clocks) c.roles.ensures.roles in
    let few = fewer_raised later.clocking later.roles.clocks (omega (arith, same, here, c.roles.ensures.some)) in
    omega (arith, c.in_ok-set.ensures.3, c.in_ok-raised.ensures.3, few, here, same, c.roles.ensures.few)

pub returns-clause-runs : goal.returns-clause-runs
returns-clause-runs g c =
    let setup = c.args.self.now.setup in
    let later = c.drive.new.self.setup in
    let set = set_bits c.first_pin.result c.args.pins.now ∷ [] in
    let some : 1 ≤ setup.roles.clocks = subst (λ (r : Roles). 1 ≤ r.clocks) c.roles.ensures.roles c.roles.ensures.some in
    runs-all (λ pick step count place. g.F.Fn.post pick (step, (count, tt)) place) c.args.self.now c.drive.new.self
    c.raise_clocks.new.self
    set (raised later.clocking 0 later.roles.clocks)
    (evaluation_by setup.clocking setup.roles c.args.pins.now) c.in_ok-set.set c.in_ok-raised.raised
    (ap (λ (x : SetupData). set ++ raised x.clocking 0 x.roles.clocks) c.in_ok-set.ensures.1.same_setup
    ∙ evaluation_are setup.clocking setup.roles c.first_pin.result c.args.pins.now some
    (c.first_pin.ensures ∙ ap (λ (r : Roles). first_pin r) c.roles.ensures.roles))
    c.in_ok-set.ensures c.in_ok-raised.ensures
