use Rattle.std.proofs.Common.{◌≡◌, [], ◌∷◌, ◌++◌, ap, sym, ◌∙◌, rules}
use Rattle.network.proofs.IndexedLists.{take_next}
use Rattle.net_flatten.proofs.one_model.copies.Goals as goal

pub loop-k-preserved : goal.loop-k-preserved
loop-k-preserved c =
    let row = c.list.result.now in
    let more : c.push.new.self.items ≡ c.loop-k.copies.items ++ row ∷ [] = search rules in
    more ∙ ap (λ rows. rows ++ row ∷ []) c.loop-k.invariant ∙ sym (take_next c.args.rows.now c.loop-k.k row c.list.ensures)
