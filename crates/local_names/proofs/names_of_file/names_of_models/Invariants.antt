use Rattle.std.proofs.Common.{◌≡◌, [], length, map, take}
use Rattle.std.specs.List.{AllByRecursion}
use Rattle.numbered_file.specs.Numbered.{AreBelow, models_in, named}
use Rattle.part_numbers.specs.SignalNumbers.{model_names}
use Rattle.local_names.proofs.names_of_file.names_of_models.Given as goal

pub record AreNamed (l : goal.Live-loop-model) : Type 0 where
  pub count : length l.place ≡ length l.fn.place
  pub next : l.models.next ≡ []
  pub names : map (named l.file.names) l.models.lists ≡ map model_names (take l.model (models_in l.file))
  pub below : AllByRecursion (AreBelow (length l.file.names)) l.models.lists

abbrev pub invariant-loop-model : goal.invariant-loop-model
invariant-loop-model l = AreNamed l
