use Rattle.std.proofs.Common.{◌≡◌, false, slice_index_or, arith, rules, ◌∙◌}
use Rattle.std.proofs.lemmas.Option.{slice_get-get_or}
use Rattle.trace_tool.specs.Traces.{outputs}
use Rattle.trace_tool.proofs.WrongOutputs.{bits_more}
use Rattle.trace_tool.proofs.run.Run.first_wrong.Goals as goal

pub loop-index-preserved : goal.loop-index-preserved
loop-index-preserved g c =
    let same : c.output.result ≡ c.value_of.result = search rules in
    bits_more c.args.wanted.now (outputs c.args.self.now.setup.roles c.args.self.now.state.values) c.loop-index.index (slice_index_or c.args.wanted.now c.loop-index.index false) c.output.result
    c.loop-index.invariant
    (slice_get-get_or c.args.wanted.now c.loop-index.index false (omega (arith, c.loop-index-test.true, c.output_count-index-end.ensures.count, c.requires)))
    c.output.ensures (same ∙ c.value_of.ensures)
