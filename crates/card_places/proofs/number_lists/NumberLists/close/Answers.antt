use Rattle.std.proofs.Common.{◌≡◌, length, rules}
use Rattle.card_places.proofs.ListEnds.{close-lists, close-rise}
use Rattle.card_places.proofs.number_lists.NumberLists.close.Goals as goal

pub invariant_of-self-2 : goal.invariant_of-self-2
invariant_of-self-2 c =
    let is : c.in_ok-end.end ≡ length c.self.inside.items.items = search rules in
    close-rise c.self.inside.items.items c.self.inside.ends.items c.args.self.now c.self.invariant c.self.view_is c.in_ok-end.end
    c.push.new.self.items is c.in_ok-push.ensures.items

pub returns : goal.returns
returns c =
    let is : c.in_ok-end.end ≡ length c.self.inside.items.items = search rules in
    close-lists c.self.inside.items.items c.self.inside.ends.items c.args.self.now c.self.invariant c.self.view_is c.in_ok-end.end
    c.push.new.self.items is c.in_ok-push.ensures.items
