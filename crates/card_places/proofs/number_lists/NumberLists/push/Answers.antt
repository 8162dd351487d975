use Rattle.card_places.proofs.ListEnds.{push-lists, push-rise}
use Rattle.card_places.proofs.number_lists.NumberLists.push.Goals as goal

pub invariant_of-self-2 : goal.invariant_of-self-2
invariant_of-self-2 c = push-rise c.self.inside.items.items c.self.inside.ends.items c.args.self.now c.self.invariant c.self.view_is
    c.args.number c.push.new.self.items c.in_ok-push.ensures.items

pub returns : goal.returns
returns c = push-lists c.self.inside.items.items c.self.inside.ends.items c.args.self.now c.self.invariant c.self.view_is c.args.number
    c.push.new.self.items c.in_ok-push.ensures.items
