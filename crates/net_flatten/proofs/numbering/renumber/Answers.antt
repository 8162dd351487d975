use Rattle.std.proofs.Common.{◌<◌, ℕ, arith}
use Rattle.std.specs.Prelude.{slice_index_or}
use Rattle.std.proofs.lemmas.Option.{slice_get-get_or}
use Rattle.net_flatten.proofs.Renumbering.{places_at_end, places_at_next}
use Rattle.net_flatten.proofs.numbering.renumber.Goals as goal
use Rattle.dom_base.proofs.Lists.{All-at}

pub loop-index-preserved : goal.loop-index-preserved
loop-index-preserved c =
    let number : ℕ = slice_index_or c.args.numbers.now c.loop-index.index 0 in
    let at = slice_get-get_or c.args.numbers.now c.loop-index.index 0 c.loop-index-test.true in
    places_at_next c.args.signals c.args.numbers.now c.loop-index.index c.loop-index.places.items number at
    (All-at (λ x. x < c.args.signals) c.args.numbers.now c.loop-index.index number c.requires.within at) c.loop-index.invariant

pub returns : goal.returns
returns c = places_at_end c.args.signals c.args.numbers.now c.loop-index.index c.loop-index.places.items (omega arith) c.loop-index.invariant
