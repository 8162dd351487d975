use Rattle.std.proofs.Common.{◌≡◌, ◌-◌, ◌+◌, take, ap, sym, ◌∙◌, arith}
use Rattle.std.proofs.lemmas.Option.{slice_get-get_or}
use Rattle.std.specs.Prelude.{slice_index_or}
use Rattle.card_places.specs.NumberLists.{last_end}
use Rattle.card_places.proofs.ListEnds.{last-before}
use Rattle.card_places.proofs.number_lists.start_at.Goals as goal

pub returns : goal.returns
returns c =
    let ends = c.args.ends.now in
    let k = c.args.index - 1 in
    let next : k + 1 ≡ c.args.index = omega (arith, c.if-index-eq0.false) in
    sym (ap (λ n. last_end 0 (take n ends)) (sym next)
    ∙ last-before ends k (slice_index_or ends k 0) (slice_get-get_or ends k 0 (omega (arith, c.requires, c.if-index-eq0.false))))
