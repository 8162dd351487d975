use Rattle.std.proofs.Common.{◌<◌, ◌∷◌, [], All, subst, sym, take, arith}
use Rattle.std.proofs.lemmas.List.{take_all}
use Rattle.std.proofs.lemmas.List.Elements.{All-append, All-from_recursion}
use Rattle.network.proofs.IndexedLists.{take_next}
use Rattle.synth_flow.proofs.bare.see_names.Goals as goal

pub names-preserved : goal.names-preserved
names-preserved c =
    let names = c.args.names.now in
    let k = c.names.k in
    let name = c.list.result.now in
    subst (All (λ name. All (λ b. b < 256) name)) (sym (take_next names k name c.list.ensures))
    (All-append (λ name. All (λ b. b < 256) name) (take k names) (name ∷ []) c.names.invariant
    (All-from_recursion (λ name. All (λ b. b < 256) name) (name ∷ []) (c.see_bytes.ensures, tt)))

pub returns : goal.returns
returns c =
    subst (All (λ name. All (λ b. b < 256) name)) (take_all c.names.k c.args.names.now (omega (arith, c.names-test.false))) c.names.invariant
