use Rattle.std.proofs.Common.{◌≡◌, ◌++◌, map, take}
use Rattle.dom_base.specs.Tri.{letter_of}
use Rattle.stim_text.proofs.write.put_outs.Given as goal

abbrev pub invariant-loop-out : goal.invariant-loop-out
invariant-loop-out l = l.text.items ≡ l.fn.text.items ++ map letter_of (take l.out-index l.outs)
