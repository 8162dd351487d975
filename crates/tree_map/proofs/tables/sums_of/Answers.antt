use Rattle.std.proofs.Common.{◌≡◌, sym, ap, ap₂, subst, ◌∙◌, ◌+◌, ◌*◌, ℕ, length, map, arith}
use Rattle.std.proofs.lemmas.List.{length-append}
use Rattle.dual_rail.specs.ForestData.{ForestData}
use Rattle.dual_rail.specs.ForestOrder.{IsForest}
use Rattle.tree_map.specs.CoverRows.{AreFewCosts, AreSmall, entry_of}
use Rattle.tree_map.specs.CoverSums.{AreLeastBefore, SumsData}
use Rattle.tree_map.proofs.TabledRows.{all_least, row_at, turn_least, turn_of, turn_small, turn_there}
use Rattle.tree_map.proofs.tables.sums_of.Goals as goal

more : (m n : ℕ) → m * n + n ≡ (m + 1) * n
more m n = omega arith

pub offers_of-requires : goal.offers_of-requires
offers_of-requires c =
    let forest = c.args.forest.now in
    let is : IsForest forest = subst IsForest c.forest.view_is c.forest.invariant in
    let same : c.deref-pair-items.result.now ≡ forest.pairs = c.deref-pair-items.ensures.value ∙ ap (λ (f : ForestData). f.pairs) c.forest.view_is in
    let turn = turn_of forest c.deref-pair-items.result.now _ c.args.bounds.w c.args.bounds.h c.loop-pair.pair-index c.loop-pair.table c.arms-left.result is same c.loop-pair-test.true
    c.requires.width c.requires.height c.loop-pair.invariant.width c.loop-pair.invariant.height c.loop-pair.invariant.least c.arms-left.ensures.left c.arms-left.ensures.right in
    record { there = (turn_there forest c.args.bounds.w c.args.bounds.h c.loop-pair.pair-index c.loop-pair.table c.arms-left.result _ turn c.args.free.now c.requires.free).0 }

pub offers_of-requires-in-loop-pair : goal.offers_of-requires-in-loop-pair
offers_of-requires-in-loop-pair c =
    let forest = c.args.forest.now in
    let is : IsForest forest = subst IsForest c.forest.view_is c.forest.invariant in
    let same : c.deref-pair-items.result.now ≡ forest.pairs = c.deref-pair-items.ensures.value ∙ ap (λ (f : ForestData). f.pairs) c.forest.view_is in
    let turn = turn_of forest c.deref-pair-items.result.now _ c.args.bounds.w c.args.bounds.h c.loop-pair.pair-index c.loop-pair.table c.arms-left.result is same c.loop-pair-test.true
    c.requires.width c.requires.height c.loop-pair.invariant.width c.loop-pair.invariant.height c.loop-pair.invariant.least c.arms-left.ensures.left c.arms-left.ensures.right in
    record { there = (turn_there forest c.args.bounds.w c.args.bounds.h c.loop-pair.pair-index c.loop-pair.table c.arms-left.result _ turn c.args.free.now c.requires.free).1 }

pub join_arms-requires-clause-lefts : goal.join_arms-requires-clause-lefts
join_arms-requires-clause-lefts c =
    let forest = c.args.forest.now in
    let is : IsForest forest = subst IsForest c.forest.view_is c.forest.invariant in
    let same : c.deref-pair-items.result.now ≡ forest.pairs = c.deref-pair-items.ensures.value ∙ ap (λ (f : ForestData). f.pairs) c.forest.view_is in
    let turn = turn_of forest c.deref-pair-items.result.now _ c.args.bounds.w c.args.bounds.h c.loop-pair.pair-index c.loop-pair.table c.arms-left.result is same c.loop-pair-test.true
    c.requires.width c.requires.height c.loop-pair.invariant.width c.loop-pair.invariant.height c.loop-pair.invariant.least c.arms-left.ensures.left c.arms-left.ensures.right in
    let few : AreFewCosts c.loop-pair.table.costs = subst AreFewCosts (sym c.loop-pair.invariant.costs) c.requires.costs in
    let ls = c.offers_of.new.offers.items in
    let rs = c.offers_of-in-loop-pair.new.offers.items in
    let small = turn_small forest c.args.bounds.w c.args.bounds.h c.loop-pair.pair-index c.loop-pair.table c.arms-left.result _ turn c.args.free.now c.requires.free ls rs c.in_ok-offers_of.ensures c.in_ok-offers_of-2.ensures few in
    subst (λ xs. AreSmall (map entry_of xs)) (sym c.deref.ensures.value) small.0

pub join_arms-requires-clause-rights : goal.join_arms-requires-clause-rights
join_arms-requires-clause-rights c =
    let forest = c.args.forest.now in
    let is : IsForest forest = subst IsForest c.forest.view_is c.forest.invariant in
    let same : c.deref-pair-items.result.now ≡ forest.pairs = c.deref-pair-items.ensures.value ∙ ap (λ (f : ForestData). f.pairs) c.forest.view_is in
    let turn = turn_of forest c.deref-pair-items.result.now _ c.args.bounds.w c.args.bounds.h c.loop-pair.pair-index c.loop-pair.table c.arms-left.result is same c.loop-pair-test.true
    c.requires.width c.requires.height c.loop-pair.invariant.width c.loop-pair.invariant.height c.loop-pair.invariant.least c.arms-left.ensures.left c.arms-left.ensures.right in
    let few : AreFewCosts c.loop-pair.table.costs = subst AreFewCosts (sym c.loop-pair.invariant.costs) c.requires.costs in
    let ls = c.offers_of.new.offers.items in
    let rs = c.offers_of-in-loop-pair.new.offers.items in
    let small = turn_small forest c.args.bounds.w c.args.bounds.h c.loop-pair.pair-index c.loop-pair.table c.arms-left.result _ turn c.args.free.now c.requires.free ls rs c.in_ok-offers_of.ensures c.in_ok-offers_of-2.ensures few in
    subst (λ xs. AreSmall (map entry_of xs)) (sym c.deref-in-loop-pair.ensures.value) small.1

pub push_pair-requires-clause-costs : goal.push_pair-requires-clause-costs
push_pair-requires-clause-costs c = subst AreFewCosts (sym c.loop-pair.invariant.costs) c.requires.costs

pub push_pair-requires-clause-lefts : goal.push_pair-requires-clause-lefts
push_pair-requires-clause-lefts c =
    let forest = c.args.forest.now in
    let is : IsForest forest = subst IsForest c.forest.view_is c.forest.invariant in
    let same : c.deref-pair-items.result.now ≡ forest.pairs = c.deref-pair-items.ensures.value ∙ ap (λ (f : ForestData). f.pairs) c.forest.view_is in
    let turn = turn_of forest c.deref-pair-items.result.now _ c.args.bounds.w c.args.bounds.h c.loop-pair.pair-index c.loop-pair.table c.arms-left.result is same c.loop-pair-test.true
    c.requires.width c.requires.height c.loop-pair.invariant.width c.loop-pair.invariant.height c.loop-pair.invariant.least c.arms-left.ensures.left c.arms-left.ensures.right in
    let few : AreFewCosts c.loop-pair.table.costs = subst AreFewCosts (sym c.loop-pair.invariant.costs) c.requires.costs in
    let ls = c.offers_of.new.offers.items in
    let rs = c.offers_of-in-loop-pair.new.offers.items in
    let small = turn_small forest c.args.bounds.w c.args.bounds.h c.loop-pair.pair-index c.loop-pair.table c.arms-left.result _ turn c.args.free.now c.requires.free ls rs c.in_ok-offers_of.ensures c.in_ok-offers_of-2.ensures few in
    subst (λ xs. AreSmall (map entry_of xs)) (sym c.deref-in-loop-pair-2.ensures.value) small.0

pub push_pair-requires-clause-rights : goal.push_pair-requires-clause-rights
push_pair-requires-clause-rights c =
    let forest = c.args.forest.now in
    let is : IsForest forest = subst IsForest c.forest.view_is c.forest.invariant in
    let same : c.deref-pair-items.result.now ≡ forest.pairs = c.deref-pair-items.ensures.value ∙ ap (λ (f : ForestData). f.pairs) c.forest.view_is in
    let turn = turn_of forest c.deref-pair-items.result.now _ c.args.bounds.w c.args.bounds.h c.loop-pair.pair-index c.loop-pair.table c.arms-left.result is same c.loop-pair-test.true
    c.requires.width c.requires.height c.loop-pair.invariant.width c.loop-pair.invariant.height c.loop-pair.invariant.least c.arms-left.ensures.left c.arms-left.ensures.right in
    let few : AreFewCosts c.loop-pair.table.costs = subst AreFewCosts (sym c.loop-pair.invariant.costs) c.requires.costs in
    let ls = c.offers_of.new.offers.items in
    let rs = c.offers_of-in-loop-pair.new.offers.items in
    let small = turn_small forest c.args.bounds.w c.args.bounds.h c.loop-pair.pair-index c.loop-pair.table c.arms-left.result _ turn c.args.free.now c.requires.free ls rs c.in_ok-offers_of.ensures c.in_ok-offers_of-2.ensures few in
    subst (λ xs. AreSmall (map entry_of xs)) (sym c.deref-in-loop-pair-3.ensures.value) small.1

pub push_pair-requires-clause-row : goal.push_pair-requires-clause-row
push_pair-requires-clause-row c =
    row_at c.args.costs c.loop-pair.table c.args.bounds.w c.args.bounds.h _ _ _ _ _ c.join_arms.new.row c.loop-pair.invariant.costs c.loop-pair.invariant.width c.loop-pair.invariant.height
    (ap (map entry_of) (c.deref.ensures.value ∙ sym c.deref-in-loop-pair-2.ensures.value)) (ap (map entry_of) (c.deref-in-loop-pair.ensures.value ∙ sym c.deref-in-loop-pair-3.ensures.value))
    c.join_arms.ensures

pub loop-pair-preserved : goal.loop-pair-preserved
loop-pair-preserved c =
    let forest = c.args.forest.now in
    let is : IsForest forest = subst IsForest c.forest.view_is c.forest.invariant in
    let same : c.deref-pair-items.result.now ≡ forest.pairs = c.deref-pair-items.ensures.value ∙ ap (λ (f : ForestData). f.pairs) c.forest.view_is in
    let turn = turn_of forest c.deref-pair-items.result.now _ c.args.bounds.w c.args.bounds.h c.loop-pair.pair-index c.loop-pair.table c.arms-left.result is same c.loop-pair-test.true
    c.requires.width c.requires.height c.loop-pair.invariant.width c.loop-pair.invariant.height c.loop-pair.invariant.least c.arms-left.ensures.left c.arms-left.ensures.right in
    let few : AreFewCosts c.loop-pair.table.costs = subst AreFewCosts (sym c.loop-pair.invariant.costs) c.requires.costs in
    let ls = c.offers_of.new.offers.items in
    let rs = c.offers_of-in-loop-pair.new.offers.items in
    let small = turn_small forest c.args.bounds.w c.args.bounds.h c.loop-pair.pair-index c.loop-pair.table c.arms-left.result _ turn c.args.free.now c.requires.free ls rs c.in_ok-offers_of.ensures c.in_ok-offers_of-2.ensures few in
    let row = c.join_arms.new.row in
    let pushed = rw (c.deref-in-loop-pair-2.ensures.value, c.deref-in-loop-pair-3.ensures.value) at c.in_ok-push_pair.ensures in
    let is_row = row_at c.args.costs c.loop-pair.table c.args.bounds.w c.args.bounds.h _ _ _ _ _ row c.loop-pair.invariant.costs c.loop-pair.invariant.width c.loop-pair.invariant.height
    (ap (map entry_of) c.deref.ensures.value) (ap (map entry_of) c.deref-in-loop-pair.ensures.value) c.join_arms.ensures in
    record {
      width = ap (λ (t : SumsData). t.w) pushed ∙ c.loop-pair.invariant.width;
      height = ap (λ (t : SumsData). t.h) pushed ∙ c.loop-pair.invariant.height;
      costs = ap (λ (t : SumsData). t.costs) pushed ∙ c.loop-pair.invariant.costs;
      count = ap (λ (t : SumsData). length t.sums) pushed ∙ length-append c.loop-pair.table.sums row ∙ ap₂ (λ m n. m + n) c.loop-pair.invariant.count c.join_arms.ensures.count
          ∙ more c.loop-pair.pair-index (c.args.bounds.w * c.args.bounds.h);
      cuts = ap (λ (t : SumsData). length t.cuts) pushed ∙ length-append c.loop-pair.table.cuts _ ∙ ap (λ n. n + 1) c.loop-pair.invariant.cuts;
      row = c.join_arms.ensures.count;
      least = subst (AreLeastBefore forest (c.loop-pair.pair-index + 1)) (sym pushed)
          (turn_least forest c.args.bounds.w c.args.bounds.h c.loop-pair.pair-index c.loop-pair.table c.arms-left.result _ turn c.args.free.now c.requires.free ls rs c.in_ok-offers_of.ensures c.in_ok-offers_of-2.ensures row
          (rw (c.loop-pair.invariant.width, c.loop-pair.invariant.height) c.loop-pair.invariant.count) c.loop-pair.invariant.cuts is_row);
    }

pub returns-clause-sums : goal.returns-clause-sums
returns-clause-sums c =
    let forest = c.args.forest.now in
    let same : c.deref-pair-items.result.now ≡ forest.pairs = c.deref-pair-items.ensures.value ∙ ap (λ (f : ForestData). f.pairs) c.forest.view_is in
    let all : c.loop-pair.pair-index ≡ length forest.pairs = omega (arith, ap length same) in
    (all_least forest c.loop-pair.table (subst (λ n. AreLeastBefore forest n c.loop-pair.table) all c.loop-pair.invariant.least)).0

pub returns-clause-cuts : goal.returns-clause-cuts
returns-clause-cuts c =
    let forest = c.args.forest.now in
    let same : c.deref-pair-items.result.now ≡ forest.pairs = c.deref-pair-items.ensures.value ∙ ap (λ (f : ForestData). f.pairs) c.forest.view_is in
    let all : c.loop-pair.pair-index ≡ length forest.pairs = omega (arith, ap length same) in
    (all_least forest c.loop-pair.table (subst (λ n. AreLeastBefore forest n c.loop-pair.table) all c.loop-pair.invariant.least)).1
