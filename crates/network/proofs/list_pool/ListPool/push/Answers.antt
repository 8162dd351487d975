use Rattle.std.proofs.Common.{[], ◌∷◌, ◌++◌, ap, ◌∙◌, rules}
use Rattle.network.specs.ListPools.{lists_in}
use Rattle.network.proofs.ListPools.{pushed_list}
use Rattle.network.proofs.list_pool.ListPool.push.Goals as goal

pub returns-clause-list : goal.returns-clause-list
returns-clause-list g c =
    let items = c.self.inside.items.items in
    let list = c.args.list.now in
    ap (λ xs. lists_in xs c.push.new.self.items) c.in_ok-extend_from_slice.ensures.items
    ∙ ap (lists_in (items ++ list)) c.in_ok-push.ensures.items
    ∙ pushed_list items list c.self.inside.places.items c.in_ok-at.at c.self.invariant (search rules) (search rules)
    ∙ ap (λ lists. lists ++ list ∷ []) c.self.view_is
