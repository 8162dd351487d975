use Rattle.std.proofs.Common.{length, ap, arith}
use Rattle.part_numbers.proofs.NumberedMains.{models_there}
use Rattle.part_numbers.proofs.card_file.main_at.Goals as goal

pub first_of-requires : goal.first_of-requires
first_of-requires c = omega (arith, ap length c.models.ensures, models_there c.args.file.now c.requires.some)
