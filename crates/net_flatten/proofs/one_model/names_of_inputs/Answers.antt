use Rattle.std.proofs.Common.{◌<◌, ◌∙◌, [], ◌∷◌, ◌++◌, length, slice_index_or, ap, sym, subst, arith}
use Rattle.std.proofs.lemmas.Option.{slice_get-get_or}
use Rattle.network.specs.NetworkData.{NetworkData}
use Rattle.network.specs.Networks.{IsNetwork}
use Rattle.network.proofs.IndexedLists.{take_next}
use Rattle.net_flatten.proofs.one_model.names_of_inputs.Goals as goal

pub name_of-requires : goal.name_of-requires
name_of-requires c =
    let is = subst IsNetwork c.network.view_is c.network.invariant in
    omega (arith, is.count, ap (λ (n : NetworkData). n.inputs) c.network.view_is, c.loop-k-test.true)

pub loop-k-preserved : goal.loop-k-preserved
loop-k-preserved c =
    let names = c.args.network.now.names in
    let k = c.loop-k.k in
    let is = subst IsNetwork c.network.view_is c.network.invariant in
    let low : k < length names = omega (arith, is.count, ap (λ (n : NetworkData). n.inputs) c.network.view_is, c.loop-k-test.true) in
    let name = slice_index_or names k [] in
    c.in_ok-push.ensures.items ∙ (λ i. c.loop-k.invariant i ++ c.in_ok-name_of.ensures i ∷ [])
    ∙ sym (take_next names k name (slice_get-get_or names k [] low))
