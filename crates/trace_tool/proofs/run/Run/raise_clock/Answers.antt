use Rattle.std.proofs.Common.{[], ◌∷◌, ◌+◌, ◌-◌, ap, ◌∙◌, refl, sym, true, false}
use Rattle.deck.specs.PortLayout.{first_clock}
use Rattle.trace_tool.specs.Moves.{set_bits}
use Rattle.trace_tool.specs.RunData.{clock_moves}
use Rattle.trace_tool.proofs.MoveRuns.{halts-after, halts-before, runs-all}
use Rattle.trace_tool.proofs.RaisedClocks.{clock-and-before}
use Rattle.trace_tool.proofs.run.Run.raise_clock.Goals as goal

pub returns-in_err-risen-in-Overlapping : goal.returns-in_err-risen-in-Overlapping
returns-in_err-risen-in-Overlapping g c =
    let setup = c.args.self.now.setup in
    let port = c.first_clock.result + c.from.result in
    let at = ap (λ n. n + c.from.result) c.first_clock.ensures ∙ ap (λ n. first_clock + n) c.from.ensures in
    halts-before (λ pick step count place. g.F.Fn.post pick (step, (count, tt)) place) c.args.self.now c.drive.new.self
    (set_bits port (true ∷ []) ∷ []) (set_bits (port - 1) (false ∷ []) ∷ [])
    (clock_moves setup.clocking c.args.clock) c.in_err-risen-in-Overlapping.field-0.0 c.from_residual.result
    (clock-and-before setup.clocking c.args.clock port (port - 1)
    (sym c.clocking.ensures ∙ c.in-Overlapping.is) c.if-clock-gt0.true at refl)
    c.from_residual.ensures.1 c.in_err-risen-in-Overlapping.ensures

pub returns-in_err-fallen-in-Overlapping : goal.returns-in_err-fallen-in-Overlapping
returns-in_err-fallen-in-Overlapping g c =
    let setup = c.args.self.now.setup in
    let port = c.first_clock.result + c.from.result in
    let at = ap (λ n. n + c.from.result) c.first_clock.ensures ∙ ap (λ n. first_clock + n) c.from.ensures in
    halts-after (λ pick step count place. g.F.Fn.post pick (step, (count, tt)) place) c.args.self.now c.drive.new.self
    c.drive-in-Overlapping.new.self
    (set_bits port (true ∷ []) ∷ []) (set_bits (port - 1) (false ∷ []) ∷ [])
    (clock_moves setup.clocking c.args.clock) c.in_ok-risen-in-Overlapping.risen
    c.in_err-fallen-in-Overlapping.field-0.0 c.from_residual-in_err-fallen-in-Overlapping.result
    (clock-and-before setup.clocking c.args.clock port (port - 1)
    (sym c.clocking.ensures ∙ c.in-Overlapping.is) c.if-clock-gt0.true at refl)
    c.from_residual-in_err-fallen-in-Overlapping.ensures.1 c.in_ok-risen-in-Overlapping.ensures c.in_err-fallen-in-Overlapping.ensures

pub returns-in_ok-fallen-in-Overlapping : goal.returns-in_ok-fallen-in-Overlapping
returns-in_ok-fallen-in-Overlapping g c =
    let setup = c.args.self.now.setup in
    let port = c.first_clock.result + c.from.result in
    let at = ap (λ n. n + c.from.result) c.first_clock.ensures ∙ ap (λ n. first_clock + n) c.from.ensures in
    runs-all (λ pick step count place. g.F.Fn.post pick (step, (count, tt)) place) c.args.self.now c.drive.new.self
    c.drive-in-Overlapping.new.self
    (set_bits port (true ∷ []) ∷ []) (set_bits (port - 1) (false ∷ []) ∷ [])
    (clock_moves setup.clocking c.args.clock) c.in_ok-risen-in-Overlapping.risen
    c.in_ok-fallen-in-Overlapping.fallen
    (clock-and-before setup.clocking c.args.clock port (port - 1)
    (sym c.clocking.ensures ∙ c.in-Overlapping.is) c.if-clock-gt0.true at refl)
    c.in_ok-risen-in-Overlapping.ensures c.in_ok-fallen-in-Overlapping.ensures
