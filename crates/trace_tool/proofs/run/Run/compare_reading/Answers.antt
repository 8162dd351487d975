use Rattle.std.proofs.Common.{ap, arith, false, slice_index_or}
use Rattle.std.proofs.lemmas.Option.{slice_get-get_or, slice_get_within}
use Rattle.trace_tool.specs.Moves.{evaluation_by}
use Rattle.trace_tool.specs.SetupData.{SetupData}
use Rattle.trace_tool.proofs.ComparedCycles.{differs, passes, reads_by, unevaluated, unlatched}
use Rattle.trace_tool.proofs.MoveRuns.{runs-setup}
use Rattle.trace_tool.proofs.run.Run.compare_reading.Goals as goal

pub returns-in_err-evaluate : goal.returns-in_err-evaluate
returns-in_err-evaluate g c =
    reads_by (λ pick step count place. g.F.Fn.post pick (step, (count, tt)) place) c.args.self.now c.evaluate.new.self c.args.number c.args.pins.now c.args.wanted.now
    c.in_err-evaluate.field-0.0 c.from_residual.result c.from_residual.ensures.1
    (unevaluated (λ pick step count place. g.F.Fn.post pick (step, (count, tt)) place) c.args.self.now c.evaluate.new.self c.evaluate.new.self c.args.number c.args.pins.now c.args.wanted.now
    c.in_err-evaluate.field-0.0 c.in_err-evaluate.ensures.runs)

pub output_name-requires : goal.output_name-requires
output_name-requires g c =
    omega (
      arith,
      slice_get_within c.args.wanted.now c.in-Some.index c.in-Some.ensures.one c.in-Some.ensures.wanted_is,
      c.requires.outputs,
      ap (λ (s : SetupData). s.roles.outs)
          (runs-setup (λ pick step count place. g.F.Fn.post pick (step, (count, tt)) place) c.args.self.now c.evaluate.new.self
          (evaluation_by c.args.self.now.setup.clocking c.args.self.now.setup.roles c.args.pins.now) c.in_ok-evaluate.field-0 c.in_ok-evaluate.ensures.runs),
    )

pub bounds-wanted-index : goal.bounds-wanted-index
bounds-wanted-index g c = slice_get_within c.args.wanted.now c.in-Some.index c.in-Some.ensures.one c.in-Some.ensures.wanted_is

pub output-requires : goal.output-requires
output-requires g c =
    omega (
      arith,
      slice_get_within c.args.wanted.now c.in-Some.index c.in-Some.ensures.one c.in-Some.ensures.wanted_is,
      c.requires.outputs,
      ap (λ (s : SetupData). s.roles.outs)
          (runs-setup (λ pick step count place. g.F.Fn.post pick (step, (count, tt)) place) c.args.self.now c.evaluate.new.self
          (evaluation_by c.args.self.now.setup.clocking c.args.self.now.setup.roles c.args.pins.now) c.in_ok-evaluate.field-0 c.in_ok-evaluate.ensures.runs),
    )

pub returns-in-Some : goal.returns-in-Some
returns-in-Some g c =
    differs (λ pick step count place. g.F.Fn.post pick (step, (count, tt)) place) c.args.self.now c.evaluate.new.self c.args.number c.args.pins.now c.args.wanted.now
    c.in_ok-evaluate.field-0 c.in-Some.index c.in_ok-output_name.field-0 (slice_index_or c.args.wanted.now c.in-Some.index false) c.output.result
    c.in_ok-evaluate.ensures.runs c.in-Some.ensures c.in_ok-output_name.ensures
    (slice_get-get_or c.args.wanted.now c.in-Some.index false (slice_get_within c.args.wanted.now c.in-Some.index c.in-Some.ensures.one c.in-Some.ensures.wanted_is))
    c.output.ensures

pub returns-in_err-latch : goal.returns-in_err-latch
returns-in_err-latch g c =
    reads_by (λ pick step count place. g.F.Fn.post pick (step, (count, tt)) place) c.args.self.now c.latch.new.self c.args.number c.args.pins.now c.args.wanted.now
    c.in_err-latch.field-0.0 c.from_residual-in_err-latch.result c.from_residual-in_err-latch.ensures.1
    (unlatched (λ pick step count place. g.F.Fn.post pick (step, (count, tt)) place) c.args.self.now c.evaluate.new.self c.latch.new.self c.args.number c.args.pins.now c.args.wanted.now
    c.in_ok-evaluate.field-0 c.in_err-latch.field-0.0 c.in_ok-evaluate.ensures.runs c.in_default.ensures c.in_err-latch.ensures)

pub returns : goal.returns
returns g c =
    passes (λ pick step count place. g.F.Fn.post pick (step, (count, tt)) place) c.args.self.now c.evaluate.new.self c.latch.new.self c.args.number c.args.pins.now c.args.wanted.now
    c.in_ok-evaluate.field-0 c.in_ok-latch.field-0 c.in_ok-evaluate.ensures.runs c.in_default.ensures c.in_ok-latch.ensures
