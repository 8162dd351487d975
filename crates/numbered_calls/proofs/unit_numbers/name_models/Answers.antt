use Rattle.std.proofs.Common.{◌≡◌, ◌+◌, ◌∷◌, ◌++◌, ◌<◌, [], ap, ◌∙◌, length, sym, subst, arith, take}
use Rattle.std.specs.Prelude.{slice_set}
use Rattle.std.proofs.lemmas.List.{length-replicate, length-set, length-take-le, take_all}
use Rattle.numbered_file.specs.declared.parts.ModelAt.{ModelAt}
use Rattle.dom_base.proofs.Lists.{AllByRecursion-contains, Contains-slice_get}
use Rattle.network.proofs.IndexedLists.{take_next}
use Rattle.numbered_calls.specs.Owners.{AreOwners}
use Rattle.numbered_calls.proofs.Owned.{next_owner, no_owners, owned_twice}
use Rattle.numbered_calls.proofs.unit_numbers.name_models.Goals as goal

pub loop-index-init : goal.loop-index-init
loop-index-init c =
    let none = c.in_ok-owners.ensures.items_if_clones_equal (λ y e. e) in record {
      count = ap length none ∙ length-replicate c.args.count 0;
      owners = subst (AreOwners []) (sym none) (no_owners c.args.count);
    }

pub own-requires : goal.own-requires
own-requires c =
    let at = c.model_at-name.result in
    let named = AllByRecursion-contains (λ (m : ModelAt). m.name < c.args.count) c.args.models.now at c.requires.names (Contains-slice_get c.args.models.now c.loop-index.index at c.model_at-name.ensures) in
    record {
      within = omega (arith, named, c.loop-index.invariant.count);
      few = omega (arith, c.loop-index-test.true, c.if-models-ge-MOST.false);
    }

pub loop-index-preserved : goal.loop-index-preserved
loop-index-preserved c =
    let models = c.args.models.now in
    let i = c.loop-index.index in
    let at = c.model_at-name.result in
    let count : length (take i models) ≡ i = length-take-le i models (omega (arith, c.loop-index-test.true)) in
    let set = c.own.ensures.owned c.if-not-own.false in
    record {
      count = ap length set ∙ length-set c.loop-index.owners.items at.name (i + 1) ∙ c.loop-index.invariant.count;
      owners = subst (λ l. AreOwners (take (i + 1) models) l) (sym set)
          (subst (λ l. AreOwners l (slice_set c.loop-index.owners.items at.name (i + 1))) (sym (take_next models i at c.model_at-name.ensures))
          (subst (λ n. AreOwners (take i models ++ at ∷ []) (slice_set c.loop-index.owners.items at.name (n + 1))) count
          (next_owner (take i models) c.loop-index.owners.items at c.loop-index.invariant.owners (c.own.ensures.free c.if-not-own.false))));
    }

pub returns-then-not-own-clause-twice : goal.returns-then-not-own-clause-twice
returns-then-not-own-clause-twice c =
    let owner = c.own.ensures.other c.if-not-own.true in
    owned_twice c.args.models.now c.loop-index.owners.items c.loop-index.index owner.0 c.model_at-name.result c.loop-index.invariant.owners c.model_at-name.ensures owner.1

pub returns-clause-owners : goal.returns-clause-owners
returns-clause-owners c = subst (λ l. AreOwners l c.loop-index.owners.items) (take_all c.loop-index.index c.args.models.now (omega (arith, c.loop-index-test.false))) c.loop-index.invariant.owners
