use Rattle.std.proofs.Common.{ap, ◌∙◌}
use Rattle.network.specs.ListPools.{list_in, lists_in}
use Rattle.network.proofs.ListPools.{map-list_in}
use Rattle.network.proofs.list_pool.ListPool.lists.Goals as goal

pub returns : goal.returns
returns g c =
    let items = c.self.inside.items.items in
    ap (λ xs. lists_in xs c.of.result.now) c.as_slice.ensures.value
    ∙ ap (lists_in items) c.of.ensures
    ∙ ap (λ places. lists_in items (list_in places c.args.at)) c.as_slice-2.ensures.value
    ∙ map-list_in (list_in items) c.self.inside.places.items c.args.at
    ∙ ap (λ lists. list_in lists c.args.at) c.self.view_is
