use Rattle.std.proofs.Common.{◌==◌, map, rules, tests}
use Rattle.stim_text.proofs.PinLetters.{pins_are}
use Rattle.stim_text.proofs.letters.push_pins.Goals as goal

pub returns : goal.returns
returns c = (map (λ b. b == 49) c.args.letters.now, pins_are c.args.width c.args.letters.now (search (rules, tests)) c.requires, c.in_ok-push_bits.ensures)
