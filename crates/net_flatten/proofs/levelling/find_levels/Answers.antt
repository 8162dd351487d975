use Rattle.net_flatten.proofs.LevelsFound.{levels_found}
use Rattle.net_flatten.proofs.levelling.find_levels.Goals as goal

pub returns : goal.returns
returns c = levels_found c.args.signals c.args.parts.now c.requires.parts c.args.nodes.now c.args.order.now c.in_ok-tables.tables c.set_levels.new.levels.items
    c.requires.nodes c.requires.order c.in_ok-tables.ensures c.set_levels.ensures
