use Rattle.std.proofs.Common.{◌∙◌, [], ap}
use Rattle.std.proofs.lemmas.List.{take_all}
use Rattle.dom_base.proofs.Names.{names_equal}
use Rattle.indexmap.proofs.SetLemmas.{set_all_distinct}
use Rattle.deck.specs.Numbers.{with_all}
use Rattle.subckt_expand.proofs.circuit.set_of.Goals as goal

pub returns : goal.returns
returns c =
    c.loop-name.invariant ∙ ap (with_all []) (take_all c.loop-name.name-index c.args.names.now c.loop-name-test.false)
    ∙ set_all_distinct names_equal [] c.args.names.now c.requires
