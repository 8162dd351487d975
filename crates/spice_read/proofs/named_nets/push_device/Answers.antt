use Rattle.std.proofs.Common.{arith}
use Rattle.deck.proofs.DeviceNumbers.{numbers_fit}
use Rattle.spice_read.proofs.named_nets.push_device.Goals as goal

pub overflow_cast-drain : goal.overflow_cast-drain
overflow_cast-drain c = let fits = numbers_fit c.args.nets.now.keys _ _ _ _ c.requires.few c.in_ok-drain.ensures.numbers in omega (arith, fits.0)

pub overflow_cast-gate : goal.overflow_cast-gate
overflow_cast-gate c = let fits = numbers_fit c.args.nets.now.keys _ _ _ _ c.requires.few c.in_ok-drain.ensures.numbers in omega (arith, fits.1)

pub overflow_cast-source : goal.overflow_cast-source
overflow_cast-source c = let fits = numbers_fit c.args.nets.now.keys _ _ _ _ c.requires.few c.in_ok-drain.ensures.numbers in omega (arith, fits.2)
