use Rattle.std.proofs.Common.{◌≡◌}
use Rattle.numbered_file.specs.Slots.{AreFound, AreNumbered, OthersGrow}
use Rattle.numbered_file.proofs.name_table.NameTable.make_room.Given as goal

pub record Keeps (l : goal.Live-loop-number) : Type 0 where
  pub names : l.self-inside.names.items ≡ l.initial.self-inside.names.items
  pub slots : l.self-inside.slots.items ≡ l.initial.self-inside.slots.items
  pub numbered : AreNumbered l.self-inside.names.items l.self-inside.others
  pub grown : OthersGrow l.initial.self-inside.others l.self-inside.others
  pub found : AreFound l.self-inside.names.items l.slots.items l.self-inside.others l.number

abbrev pub invariant-loop-number : goal.invariant-loop-number
invariant-loop-number l = Keeps l
