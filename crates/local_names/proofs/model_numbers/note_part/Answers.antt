use Rattle.numbered_file.specs.Places.{words_at}
use Rattle.local_names.proofs.Gathered.{noted-instance, noted-latch}
use Rattle.local_names.proofs.model_numbers.note_part.Goals as goal

pub returns-in-Latch-Latch-clause-noted : goal.returns-in-Latch-Latch-clause-noted
returns-in-Latch-Latch-clause-noted c = noted-latch _ c.args.kind c.args.part c.in-Latch-Latch.edge c.in-Latch-Latch.init-1 c.in-Latch-Latch.is-0
    c.in-Latch-Latch.is-1 c.args.kept.now.items c.note_latch.new.kept.items c.words_of.result.now (words_at c.args.file.now c.args.index)
    c.words_of.ensures c.is_some.result c.is_some.ensures c.note_latch.result c.note_latch.ensures.form c.note_latch.ensures.noted

pub returns-in-Instance-Instance-clause-noted : goal.returns-in-Instance-Instance-clause-noted
returns-in-Instance-Instance-clause-noted c = noted-instance _ c.args.kind c.args.part c.in-Instance-Instance.is-0 c.in-Instance-Instance.is-1
    c.args.kept.now.items c.note_actuals.new.kept.items c.words_of-in-Instance-Instance.result.now (words_at c.args.file.now c.args.index)
    c.words_of-in-Instance-Instance.ensures c.note_actuals.result c.note_actuals.ensures.noted
