use Rattle.std.proofs.Common.{◌≡◌, take}
use Rattle.dom_base.proofs.words.is_same.Given as goal

abbrev pub invariant-loop-index : goal.invariant-loop-index
invariant-loop-index l = take l.index l.word ≡ take l.index l.other
