use Rattle.std.proofs.Common.{arith}
use Rattle.std.specs.Prelude.{slice_index_or}
use Rattle.std.proofs.lemmas.Option.{slice_get-get_or}
use Rattle.numbered_calls.proofs.Owned.{instance_here}
use Rattle.numbered_calls.proofs.formals.is_bound.Goals as goal

pub returns-clause-bad : goal.returns-clause-bad
returns-clause-bad c = λ f. record {
  part = c.args.index;
  unit = slice_index_or c.args.units.now c.args.index 0;
  there = slice_get-get_or c.args.units.now c.args.index 0 (omega (arith, c.requires.within, c.requires.count));
  instance = instance_here c.args.file.now c.args.index c.parts.result.now c.parts.ensures (c.is_instance.ensures.instance c.if-not-is_instance.false);
  bad = c.bind.ensures.bad f;
}
