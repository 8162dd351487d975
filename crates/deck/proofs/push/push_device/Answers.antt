use Rattle.std.proofs.Common.{arith}
use Rattle.deck.proofs.DeviceNumbers.{numbers_fit}
use Rattle.deck.proofs.push.push_device.Goals as goal

pub overflow_cast-device : goal.overflow_cast-device
overflow_cast-device c = let fits = numbers_fit c.args.nets.now.keys _ _ _ _ c.requires.few c.in_ok-drain.ensures.numbers in omega (arith, fits.0)

pub overflow_cast-device-2 : goal.overflow_cast-device-2
overflow_cast-device-2 c = let fits = numbers_fit c.args.nets.now.keys _ _ _ _ c.requires.few c.in_ok-drain.ensures.numbers in omega (arith, fits.1)

pub overflow_cast-device-3 : goal.overflow_cast-device-3
overflow_cast-device-3 c = let fits = numbers_fit c.args.nets.now.keys _ _ _ _ c.requires.few c.in_ok-drain.ensures.numbers in omega (arith, fits.2)
