use Rattle.plan_text.proofs.NameLists.{IsLeft}
use Rattle.plan_text.proofs.name_list.NameList.find.Given as goal

abbrev pub invariant-names : goal.invariant-names
invariant-names l = IsLeft l.self l.name l.sizes l.words l.start l.place
