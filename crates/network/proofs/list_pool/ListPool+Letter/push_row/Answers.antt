use Rattle.std.proofs.Common.{◌≡◌, [], ◌∷◌, ◌++◌, map, length, ap, sym, ◌∙◌, rules}
use Rattle.std.proofs.lemmas.List.{length-map}
use Rattle.blif_ast.specs.Models.{row_letter}
use Rattle.network.specs.ListPools.{lists_in}
use Rattle.network.proofs.ListPools.{pushed_list}
use Rattle.network.proofs.list_pool.ListPool+Letter.push_row.Goals as goal

pub returns-clause-list : goal.returns-clause-list
returns-clause-list c =
    let items = c.self.inside.items.items in
    let list = map row_letter c.args.bytes.now in
    let count = c.in_ok-at.ensures.count ∙ sym (length-map c.args.bytes.now row_letter) in
    ap (λ xs. lists_in xs c.push.new.self.items) c.in_ok-extend_by_letters.ensures.items
    ∙ ap (lists_in (items ++ list)) c.in_ok-push.ensures.items
    ∙ pushed_list items list c.self.inside.places.items c.in_ok-at.at c.self.invariant (search rules) count
    ∙ ap (λ lists. lists ++ list ∷ []) c.self.view_is
