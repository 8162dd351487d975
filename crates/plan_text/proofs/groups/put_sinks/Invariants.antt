use Rattle.std.proofs.Common.{◌≡◌, ◌+◌, Bool, List, length, map, take, zip}
use Rattle.deck_form.specs.ChosenDecks.{end_at_cell}
use Rattle.deck_form.specs.DeckNets.{named_sink, sink_nets}
use Rattle.tree_map.specs.MappedCover.{root_cell_numbers}
use Rattle.plan_text.specs.DeviceTexts.{with_groups}
use Rattle.plan_text.proofs.groups.put_sinks.Given as goal

abbrev pub invariant-sinks : goal.invariant-sinks
invariant-sinks l =
    (kept starts : List Bool) → l.cells ≡ root_cell_numbers kept → length l.ends ≡ length l.outs + length starts
    → l.cards ≡ with_groups l.fn.cards (map (named_sink l.pins) (take l.k (zip (sink_nets l.outs starts) (map (end_at_cell kept) l.ends))))
