use Rattle.std.proofs.Common.{map, ap, sym, ◌∙◌}
use Rattle.dom_base.proofs.Options.{if_ok-weaker}
use Rattle.numbered_signals.specs.PartRoots.{part_of_roots}
use Rattle.numbered_signals.specs.ScopeRoots.{local_root}
use Rattle.numbered_signals.proofs.parts.number_words.Goals as goal

pub returns-in-Table : goal.returns-in-Table
returns-in-Table c = if_ok-weaker c.number_table.result
    (λ numbered is. is ∙ ap (λ kind. part_of_roots c.args.part kind (map (local_root c.args.roots.now c.args.part.scope) c.args.words.now)) (sym c.in-Table.is))
    (c.number_table.ensures c.in-Table.on)

pub returns-in-Latch : goal.returns-in-Latch
returns-in-Latch c = if_ok-weaker c.number_latch.result
    (λ numbered is. is ∙ ap (λ kind. part_of_roots c.args.part kind (map (local_root c.args.roots.now c.args.part.scope) c.args.words.now)) (sym c.in-Latch.is))
    (c.number_latch.ensures c.in-Latch.init)
