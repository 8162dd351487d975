use Rattle.std.proofs.Common.{rules, tests}
use Rattle.stim_text.proofs.PlainLines.{read_plain}
use Rattle.stim_text.proofs.reader.read_line.Goals as goal

pub returns-then-is_good-clause-cycle : goal.returns-then-is_good-clause-cycle
returns-then-is_good-clause-cycle c =
    read_plain c.args.width c.args.line.now c.args.bits.now.items c.push_pins.new.bits.items (search (rules, tests)) c.in_ok-push_pins.ensures
