use Rattle.std.proofs.Common.{◌+◌, ◌++◌, ◌∙◌, ap, sym, take, get_or, append_assoc}
use Rattle.std.specs.List.{enumerate_from, flat_map}
use Rattle.synth_flow.specs.SummaryLines.{clock_line}
use Rattle.synth_flow.proofs.FigureLoops.{clock_lines_next}
use Rattle.synth_flow.proofs.figures.append_clocks.Goals as goal

pub clocks-preserved : goal.clocks-preserved
clocks-preserved c =
    let cells = c.args.cells.now in
    let k = c.clocks.k in
    let before = c.args.text.now.items in
    let lines = flat_map clock_line (enumerate_from 1 (take k cells)) in
    let line = clock_line (k + 1, get_or cells k 0) in
    c.in_ok-append_clock.ensures
    ∙ ap (λ l. l ++ line) c.clocks.invariant
    ∙ append_assoc before lines line
    ∙ ap (λ l. before ++ l) (sym (clock_lines_next cells k c.clocks-test.true))
