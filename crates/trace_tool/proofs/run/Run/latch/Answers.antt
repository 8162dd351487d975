use Rattle.std.proofs.Common.{[], ◌∷◌, ◌++◌, ◌+◌, replicate, refl, ap, ◌∙◌, take, false}
use Rattle.dom_base.specs.declared.tri.Tri.TheVariants.{Zero}
use Rattle.deck.specs.PortLayout.{first_clock, master_pair, slave_pair}
use Rattle.deck.specs.declared.role.Roles.{Roles}
use Rattle.trace_tool.specs.Moves.{close_pair, latching_moves, open_pair, set_bits}
use Rattle.trace_tool.proofs.MoveLists.{latching_are, some_of_four}
use Rattle.trace_tool.proofs.MoveRuns.{halts-after, halts-before, runs-after, runs-all, runs-more}
use Rattle.trace_tool.proofs.run.Run.latch.Goals as goal

pub returns-in_err-master : goal.returns-in_err-master
returns-in_err-master g c =
    let roles = c.args.self.now.setup.roles in
    let clocks = c.roles-roles.result.clocks in
    halts-before (λ pick step count place. g.F.Fn.post pick (step, (count, tt)) place) c.args.self.now c.open_and_close.new.self
    (open_pair c.master_pair.result ∷ close_pair c.master_pair.result ∷ []) _ (latching_moves roles) c.in_err-master.field-0.0 c.from_residual.result
    (latching_are roles c.master_pair.result first_clock (slave_pair roles) (take clocks (false ∷ false ∷ false ∷ false ∷ [])) (c.master_pair.ensures ∙ ap (λ (r : Roles). master_pair r) c.roles-roles.ensures.roles) refl refl
    (some_of_four clocks c.roles-roles.ensures.few ∙ ap (λ (r : Roles). replicate r.clocks Zero) c.roles-roles.ensures.roles))
    c.from_residual.ensures.1 c.in_err-master.ensures

pub returns-in_err-fallen : goal.returns-in_err-fallen
returns-in_err-fallen g c =
    let roles = c.args.self.now.setup.roles in
    let clocks = c.roles-roles.result.clocks in
    let falls = set_bits c.first_clock.result (take clocks (false ∷ false ∷ false ∷ false ∷ [])) ∷ [] in
    halts-before (λ pick step count place. g.F.Fn.post pick (step, (count, tt)) place) c.args.self.now c.drive.new.self
    ((open_pair c.master_pair.result ∷ close_pair c.master_pair.result ∷ []) ++ falls) (open_pair (slave_pair roles) ∷ close_pair (slave_pair roles) ∷ [])
    (latching_moves roles) c.in_err-fallen.field-0.0 c.from_residual-in_err-fallen.result
    (latching_are roles c.master_pair.result c.first_clock.result (slave_pair roles) (take clocks (false ∷ false ∷ false ∷ false ∷ [])) (c.master_pair.ensures ∙ ap (λ (r : Roles). master_pair r) c.roles-roles.ensures.roles) c.first_clock.ensures refl
    (some_of_four clocks c.roles-roles.ensures.few ∙ ap (λ (r : Roles). replicate r.clocks Zero) c.roles-roles.ensures.roles))
    c.from_residual-in_err-fallen.ensures.1
    (runs-after (λ pick step count place. g.F.Fn.post pick (step, (count, tt)) place) c.args.self.now c.open_and_close.new.self c.drive.new.self
    (open_pair c.master_pair.result ∷ close_pair c.master_pair.result ∷ []) falls c.in_ok-master.master c.in_err-fallen.field-0.0 c.in_ok-master.ensures c.in_err-fallen.ensures)

pub returns-in_err-slave : goal.returns-in_err-slave
returns-in_err-slave g c =
    let roles = c.args.self.now.setup.roles in
    let clocks = c.roles-roles.result.clocks in
    let falls = set_bits c.first_clock.result (take clocks (false ∷ false ∷ false ∷ false ∷ [])) ∷ [] in
    halts-after (λ pick step count place. g.F.Fn.post pick (step, (count, tt)) place) c.args.self.now c.drive.new.self c.open_and_close-2.new.self
    ((open_pair c.master_pair.result ∷ close_pair c.master_pair.result ∷ []) ++ falls) (open_pair c.slave_pair.result ∷ close_pair c.slave_pair.result ∷ [])
    (latching_moves roles) (c.in_ok-master.master + c.in_ok-fallen.fallen) c.in_err-slave.field-0.0 c.from_residual-in_err-slave.result
    (latching_are roles c.master_pair.result c.first_clock.result c.slave_pair.result (take clocks (false ∷ false ∷ false ∷ false ∷ [])) (c.master_pair.ensures ∙ ap (λ (r : Roles). master_pair r) c.roles-roles.ensures.roles) c.first_clock.ensures
    (c.slave_pair.ensures ∙ ap (λ (r : Roles). slave_pair r) c.roles-roles.ensures.roles)
    (some_of_four clocks c.roles-roles.ensures.few ∙ ap (λ (r : Roles). replicate r.clocks Zero) c.roles-roles.ensures.roles))
    c.from_residual-in_err-slave.ensures.1
    (runs-more (λ pick step count place. g.F.Fn.post pick (step, (count, tt)) place) c.args.self.now c.open_and_close.new.self c.drive.new.self
    (open_pair c.master_pair.result ∷ close_pair c.master_pair.result ∷ []) falls c.in_ok-master.master c.in_ok-fallen.fallen c.in_ok-master.ensures c.in_ok-fallen.ensures)
    c.in_err-slave.ensures

pub returns : goal.returns
returns g c =
    let roles = c.args.self.now.setup.roles in
    let clocks = c.roles-roles.result.clocks in
    let falls = set_bits c.first_clock.result (take clocks (false ∷ false ∷ false ∷ false ∷ [])) ∷ [] in
    runs-all (λ pick step count place. g.F.Fn.post pick (step, (count, tt)) place) c.args.self.now c.drive.new.self c.open_and_close-2.new.self
    ((open_pair c.master_pair.result ∷ close_pair c.master_pair.result ∷ []) ++ falls) (open_pair c.slave_pair.result ∷ close_pair c.slave_pair.result ∷ [])
    (latching_moves roles) (c.in_ok-master.master + c.in_ok-fallen.fallen) c.in_ok-slave.slave
    (latching_are roles c.master_pair.result c.first_clock.result c.slave_pair.result (take clocks (false ∷ false ∷ false ∷ false ∷ [])) (c.master_pair.ensures ∙ ap (λ (r : Roles). master_pair r) c.roles-roles.ensures.roles) c.first_clock.ensures
    (c.slave_pair.ensures ∙ ap (λ (r : Roles). slave_pair r) c.roles-roles.ensures.roles)
    (some_of_four clocks c.roles-roles.ensures.few ∙ ap (λ (r : Roles). replicate r.clocks Zero) c.roles-roles.ensures.roles))
    (runs-more (λ pick step count place. g.F.Fn.post pick (step, (count, tt)) place) c.args.self.now c.open_and_close.new.self c.drive.new.self
    (open_pair c.master_pair.result ∷ close_pair c.master_pair.result ∷ []) falls c.in_ok-master.master c.in_ok-fallen.fallen c.in_ok-master.ensures c.in_ok-fallen.ensures)
    c.in_ok-slave.ensures
