use Rattle.numbered_file.specs.Numbered.{between, parts_of}
use Rattle.file_copies.proofs.Copying.{IsCopied}
use Rattle.file_copies.proofs.copy.push_parts.Given as goal

abbrev pub invariant-loop-index : goal.invariant-loop-index
invariant-loop-index l = IsCopied l.file l.parts (between l.start l.end (parts_of l.file)) l.fn.model l.model l.index l.before.words l.before.rows
