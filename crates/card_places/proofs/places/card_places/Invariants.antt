use Rattle.std.proofs.Common.{◌≡◌}
use Rattle.numbered_file.specs.Numbered.{InstancePart, LatchPart, TablePart, instance_in, latch_in, table_in}
use Rattle.numbered_file.specs.Places.{first_part}
use Rattle.card_places.specs.KindPlaces.{AreLists, AreModelKindPlaces}
use Rattle.card_places.proofs.places.card_places.Given as goal

pub record Places (l : goal.Live-loop-index) : Type 0 where
  pub start : l.start ≡ first_part l.file l.index
  pub tables : AreLists (AreModelKindPlaces table_in TablePart l.file) l.index l.tables
  pub latches : AreLists (AreModelKindPlaces latch_in LatchPart l.file) l.index l.latches
  pub instances : AreLists (AreModelKindPlaces instance_in InstancePart l.file) l.index l.instances

abbrev pub invariant-loop-index : goal.invariant-loop-index
invariant-loop-index l = Places l
