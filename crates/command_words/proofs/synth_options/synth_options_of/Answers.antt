use Rattle.std.proofs.Common.{arith, map, sym, ◌∙◌}
use Rattle.std.specs.Prelude.{codes}
use Rattle.std.specs.String.{string_bytes}
use Rattle.command_words.specs.Written.{values_of, written}
use Rattle.command_words.proofs.AskedOnce.{given_most}
use Rattle.command_words.proofs.synth_options.synth_options_of.Goals as goal

pub overflow_cast-result : goal.overflow_cast-result
overflow_cast-result c =
    let values = values_of (codes "--width") (written (map string_bytes c.args.words.now)) in
    let few = given_most 2 8 4 (omega arith) (omega arith) values c.in_ok-width.width (sym c.number_given.ensures ∙ c.in_ok-width.was) in
    omega (arith, few)
