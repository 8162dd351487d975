use Rattle.std.proofs.Common.{sym}
use Rattle.numbered_file.proofs.Places.{last-of}
use Rattle.local_names.proofs.KeptNumbers.{behind-next}
use Rattle.local_names.proofs.distinct.note_all.Goals as goal

pub numbers-preserved : goal.numbers-preserved
numbers-preserved c =
    let l = c.numbers in
    behind-next _ _ c.args.numbers.now l.rest.now _ c.args.kept.now.items l.kept.items c.note.new.kept.items l.place c.note.new.place l.invariant
    (sym (last-of l.rest.now 0 c.in-len1-up.len_at_least)) c.note.ensures.length c.in_ok-note.ensures.noted
