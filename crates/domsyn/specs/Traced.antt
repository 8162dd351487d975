-- The answer of a command that has no fault of its own, as one of any command.
use Rattle.std.specs.Prelude.{Result, Ok, Err}
use Rattle.trace_tool.specs.declared.fault.TraceFault.{TraceFault}
use Rattle.command_answers.specs.declared.fault.Fault.{Fault}
use Rattle.command_answers.specs.declared.fault.Fault.TheVariants.{Traced}

abbrev pub traced : {A : Type 0} → Result A TraceFault → Result A Fault
traced (Ok answer) = Ok answer
traced (Err fault) = Err (Traced fault)
