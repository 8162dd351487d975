use Rattle.std.proofs.Common.{get_or, ◌≡◌, [], sym, ◌∙◌}
use Rattle.std.proofs.lemmas.Option.{get_or_from_slice_get, slice_get-get_or}
use Rattle.deck.specs.Nets.{net_name}
use Rattle.domino_cell.proofs.tree.TreeNames.inner_at.Goals as goal

pub returns-clause-name : goal.returns-clause-name
returns-clause-name c =
    let names = c.args.self.now.inner.now in
    let k = c.args.inner in
    let x = get_or names k c.index-self-inner.result in
    let found : net_name names k ≡ x = get_or_from_slice_get names k x [] (slice_get-get_or names k c.index-self-inner.result c.requires) in
    c.checked.ensures.name ∙ sym found
