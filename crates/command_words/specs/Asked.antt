-- A command that was read from the words, as plain data.
use Rattle.command_words.specs.Commands.{Command, Synth, Flat, Run, Sim, Cosim, Report, Bench, Audit}
use Rattle.command_words.specs.declared.command.Command.{Command as Read}
use Rattle.command_words.specs.declared.command.Command.TheVariants as read

abbrev pub asked_command : Read → Command
asked_command (read.Synth file options method) = Synth file.now options method
asked_command (read.Flat file) = Flat file.now
asked_command (read.Run file stim) = Run file.now stim.now
asked_command (read.Sim deck stim options clocking) = Sim deck.now stim.now options clocking
asked_command (read.Cosim file deck stim order seed) = Cosim file.now deck.now stim.now order seed
asked_command (read.Report file options) = Report file.now options
asked_command (read.Bench seed size options) = Bench seed size options
asked_command (read.Audit deck) = Audit deck.now
