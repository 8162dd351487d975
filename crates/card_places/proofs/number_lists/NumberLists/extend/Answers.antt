use Rattle.card_places.proofs.ListEnds.{extend-lists, extend-rise}
use Rattle.card_places.proofs.number_lists.NumberLists.extend.Goals as goal

pub invariant_of-self-2 : goal.invariant_of-self-2
invariant_of-self-2 c = extend-rise c.self.inside.items.items c.self.inside.ends.items c.args.self.now c.self.invariant c.self.view_is
    c.args.numbers.now c.extend_from_slice.new.self.items c.in_ok-extend_from_slice.ensures.items

pub returns : goal.returns
returns c = extend-lists c.self.inside.items.items c.self.inside.ends.items c.args.self.now c.self.invariant c.self.view_is c.args.numbers.now
    c.extend_from_slice.new.self.items c.in_ok-extend_from_slice.ensures.items
