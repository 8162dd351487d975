use Rattle.blif_numbers.proofs.WordParts.{formal_at, actual_at, formal_none, actual_none}
use Rattle.blif_numbers.proofs.forms.sides.Goals as goal

pub returns-in-Some-clause-formal : goal.returns-in-Some-clause-formal
returns-in-Some-clause-formal c = formal_at c.args.word.now c.in-Some.place c.in-Some.ensures

pub returns-in-Some-clause-actual : goal.returns-in-Some-clause-actual
returns-in-Some-clause-actual c = actual_at c.args.word.now c.in-Some.place c.in-Some.ensures

pub returns-in-None-clause-formal : goal.returns-in-None-clause-formal
returns-in-None-clause-formal c = formal_none c.args.word.now c.in-None.ensures

pub returns-in-None-clause-actual : goal.returns-in-None-clause-actual
returns-in-None-clause-actual c = actual_none c.args.word.now c.in-None.ensures
