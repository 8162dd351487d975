use Rattle.std.proofs.Common.{arith, ap, ◌∙◌, ◌≡◌, ◌<◌, sym, subst, set, length, ℕ}
use Rattle.std.proofs.lemmas.List.{get_or_read}
use Rattle.switch_model.specs.Joins.{IsJoinForest, above, top_of}
use Rattle.switch_model.proofs.Forests.{halved_forest, halved_here, halved_tops, up_twice}
use Rattle.switch_model.proofs.joins.lower.Goals as goal

pub index-requires : goal.index-requires
index-requires c =
    let p = c.args.parents.now in
    let once : c.index-once.result.now ≡ above p.items c.args.net = get_or_read p.items c.args.net c.index-once.result.now c.requires.within c.index-once.ensures c.args.net in
    omega (arith, once, c.requires.forest c.args.net, c.requires.within, p.ok.0)

pub returns-clause-forest : goal.returns-clause-forest
returns-clause-forest c =
    let p = c.args.parents.now.items in
    let net = c.args.net in
    let once : c.index-once.result.now ≡ above p net = get_or_read p net c.index-once.result.now c.requires.within c.index-once.ensures net in
    let lt : c.index-once.result.now < length p = omega (arith, once, c.requires.forest net, c.requires.within) in
    let twice : c.index.result.now ≡ up_twice p c.requires.forest net c.requires.within =
    get_or_read p c.index-once.result.now c.index.result.now lt c.index.ensures c.index-once.result.now ∙ ap (above p) once in
    subst (λ (s : ℕ). IsJoinForest (set p net s)) (sym twice) (halved_forest p c.requires.forest net c.requires.within)

pub returns-clause-tops : goal.returns-clause-tops
returns-clause-tops c =
    let p = c.args.parents.now.items in
    let net = c.args.net in
    let once : c.index-once.result.now ≡ above p net = get_or_read p net c.index-once.result.now c.requires.within c.index-once.ensures net in
    let lt : c.index-once.result.now < length p = omega (arith, once, c.requires.forest net, c.requires.within) in
    let twice : c.index.result.now ≡ up_twice p c.requires.forest net c.requires.within =
    get_or_read p c.index-once.result.now c.index.result.now lt c.index.ensures c.index-once.result.now ∙ ap (above p) once in
    subst (λ (s : ℕ). (n : ℕ) → top_of (set p net s) n ≡ top_of p n) (sym twice) (halved_tops p c.requires.forest net c.requires.within)

pub returns-clause-above : goal.returns-clause-above
returns-clause-above c =
    let p = c.args.parents.now.items in
    let net = c.args.net in
    let once : c.index-once.result.now ≡ above p net = get_or_read p net c.index-once.result.now c.requires.within c.index-once.ensures net in
    let lt : c.index-once.result.now < length p = omega (arith, once, c.requires.forest net, c.requires.within) in
    let twice : c.index.result.now ≡ up_twice p c.requires.forest net c.requires.within =
    get_or_read p c.index-once.result.now c.index.result.now lt c.index.ensures c.index-once.result.now ∙ ap (above p) once in
    subst (λ (s : ℕ). above (set p net s) net ≡ up_twice p c.requires.forest net c.requires.within) (sym twice) (halved_here p c.requires.forest net c.requires.within)
