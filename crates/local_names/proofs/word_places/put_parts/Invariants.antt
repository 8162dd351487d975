use Rattle.local_names.specs.Placed.{AreWordsPlaced}
use Rattle.local_names.proofs.word_places.put_parts.Given as goal

abbrev pub invariant-loop-part : goal.invariant-loop-part
invariant-loop-part l = AreWordsPlaced l.file l.lookup.models.now.lists l.part l.words.items
