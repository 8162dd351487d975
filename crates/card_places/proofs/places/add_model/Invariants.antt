use Rattle.std.proofs.Common.{take}
use Rattle.numbered_file.specs.Numbered.{InstancePart, LatchPart, TablePart, between, instance_in, latch_in, parts_of, table_in}
use Rattle.card_places.proofs.KindPlaces.{AreSoFar}
use Rattle.card_places.proofs.places.add_model.Given as goal

pub record Places (l : goal.Live-loop-index) : Type 0 where
  pub tables : AreSoFar table_in TablePart l.file l.start (take l.index (between l.start l.end (parts_of l.file))) l.fn.tables l.tables
  pub latches : AreSoFar latch_in LatchPart l.file l.start (take l.index (between l.start l.end (parts_of l.file))) l.fn.latches l.latches
  pub instances : AreSoFar instance_in InstancePart l.file l.start (take l.index (between l.start l.end (parts_of l.file))) l.fn.instances
      l.instances

abbrev pub invariant-loop-index : goal.invariant-loop-index
invariant-loop-index l = Places l
