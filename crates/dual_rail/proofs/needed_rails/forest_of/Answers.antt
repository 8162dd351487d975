-- What the parts of the forest ask of each other, and that they make one.
use Rattle.std.proofs.Common.{◌≡◌, ◌+◌, ℕ, Bool, sym, ap, ap₂, subst, ◌∙◌, length, map, sum_by, count_by, arith, All}
use Rattle.std.specs.List.{AllZip, range_with_len}
use Rattle.std.proofs.lemmas.Slice.Zip.{AllZip-long}
use Rattle.gate_decompose.specs.GatesData.{GatesData}
use Rattle.gate_decompose.specs.GatesOrder.{AreGates}
use Rattle.dual_rail.specs.ArmPlaces.{HasGates, HasPlacesOf}
use Rattle.dual_rail.specs.EndPlaces.{SinksHavePlaces}
use Rattle.dual_rail.specs.ForestData.{ForestData}
use Rattle.dual_rail.specs.Forests.{IsForestOf, IsPairOf, arms_of, is_end_from, is_pair_arm}
use Rattle.dual_rail.specs.Uses.{HasArmsThere, IsEndThere}
use Rattle.dual_rail.specs.WantedNodes.{AreOrderedNodes}
use Rattle.dual_rail.proofs.ForestOrders.{forests_are_in_place}
use Rattle.dual_rail.proofs.RailsOf.{arms_there, ends_there, nodes_ordered, origin_gates}
use Rattle.dual_rail.proofs.needed_rails.forest_of.Goals as goal

pub pairs_of-requires-clause-order : goal.pairs_of-requires-clause-order
pairs_of-requires-clause-order c =
    let is : AreGates c.args.gates.now = subst AreGates c.gates.view_is c.gates.invariant in
    let nodes : c.as_slice-nodes.result.now ≡ c.args.gates.now.nodes = c.as_slice-nodes.ensures.value ∙ ap (λ (g : GatesData). g.nodes) c.gates.view_is in
    subst AreOrderedNodes (sym nodes) (nodes_ordered c.args.gates.now is.in_place)

pub pairs_of-requires-clause-gates : goal.pairs_of-requires-clause-gates
pairs_of-requires-clause-gates c =
    let nodes : c.as_slice-nodes.result.now ≡ c.args.gates.now.nodes = c.as_slice-nodes.ensures.value ∙ ap (λ (g : GatesData). g.nodes) c.gates.view_is in
    subst (λ ns. All (λ (p : ℕ × Bool). HasGates ns p.0) c.as_slice-2.result.now) (sym nodes)
    (subst (All (λ (p : ℕ × Bool). HasGates c.args.gates.now.nodes p.0)) (sym c.as_slice-2.ensures.value) (origin_gates c.args.gates.now c.args.signs.now c.args.needed.pairs.items c.requires.needed))

pub pairs_of-requires-clause-closed : goal.pairs_of-requires-clause-closed
pairs_of-requires-clause-closed c =
    let nodes : c.as_slice-nodes.result.now ≡ c.args.gates.now.nodes = c.as_slice-nodes.ensures.value ∙ ap (λ (g : GatesData). g.nodes) c.gates.view_is in
    subst (λ ns. All (λ (p : ℕ × Bool). HasPlacesOf ns c.as_slice-2.result.now c.as_slice.result.now p.0 p.1) c.as_slice-2.result.now) (sym nodes)
    (subst (λ xs. All (λ (p : ℕ × Bool). HasPlacesOf c.args.gates.now.nodes xs c.as_slice.result.now p.0 p.1) xs) (sym c.as_slice-2.ensures.value)
    (subst (λ ys. All (λ (p : ℕ × Bool). HasPlacesOf c.args.gates.now.nodes c.args.needed.pairs.items ys p.0 p.1) c.args.needed.pairs.items) (sym c.as_slice.ensures.value) c.requires.parts))

pub ends_of-requires-clause-order : goal.ends_of-requires-clause-order
ends_of-requires-clause-order c =
    let is : AreGates c.args.gates.now = subst AreGates c.gates.view_is c.gates.invariant in
    nodes_ordered c.args.gates.now is.in_place

pub uses_of-requires-clause-pairs : goal.uses_of-requires-clause-pairs
uses_of-requires-clause-pairs c =
    subst (λ xs. All (HasArmsThere (length xs)) xs) (sym c.as_slice-4.ensures.value)
    (arms_there c.as_slice-nodes.result.now c.as_slice-2.result.now c.in_ok-pairs.pairs.items c.in_ok-pairs.ensures)

pub uses_of-requires-clause-ends : goal.uses_of-requires-clause-ends
uses_of-requires-clause-ends c =
    let long : length c.as_slice-4.result.now ≡ length c.args.needed.pairs.items =
    ap length c.as_slice-4.ensures.value ∙ AllZip-long (IsPairOf c.as_slice-nodes.result.now c.as_slice-2.result.now) c.as_slice-2.result.now c.in_ok-pairs.pairs.items c.in_ok-pairs.ensures
    ∙ ap length c.as_slice-2.ensures.value in
    let ends = c.in_ok-ends.ensures.ends c.args.needed.pairs.items (subst (SinksHavePlaces c.args.gates.now c.args.signs.now c.args.needed.pairs.items) (sym c.as_slice-3.ensures.value) c.requires.sinks) in
    subst (All (IsEndThere (length c.as_slice-4.result.now))) (sym c.as_slice-5.ensures.value)
    (ends_there c.args.gates.now c.args.signs.now c.args.needed.pairs.items (length c.as_slice-4.result.now) c.in_ok-ends.ends.items long c.requires.signs c.in_ok-ends.ensures.count ends)

pub uses_of-requires-clause-fits : goal.uses_of-requires-clause-fits
uses_of-requires-clause-fits c =
    let is : AreGates c.args.gates.now = subst AreGates c.gates.view_is c.gates.invariant in
    let long : length c.as_slice-4.result.now ≡ length c.args.needed.pairs.items =
    ap length c.as_slice-4.ensures.value ∙ AllZip-long (IsPairOf c.as_slice-nodes.result.now c.as_slice-2.result.now) c.as_slice-2.result.now c.in_ok-pairs.pairs.items c.in_ok-pairs.ensures
    ∙ ap length c.as_slice-2.ensures.value in
    let end_count : length c.as_slice-5.result.now ≡ length c.args.gates.now.sinks = ap length c.as_slice-5.ensures.value ∙ c.in_ok-ends.ensures.count in
    omega (arith, long, end_count, c.requires.few, is.few_operators, is.few_sinks)

pub invariant_of-result : goal.invariant_of-result
invariant_of-result c =
    let is : AreGates c.args.gates.now = subst AreGates c.gates.view_is c.gates.invariant in
    let nodes : c.as_slice-nodes.result.now ≡ c.args.gates.now.nodes = c.as_slice-nodes.ensures.value ∙ ap (λ (g : GatesData). g.nodes) c.gates.view_is in
    let long : length c.as_slice-4.result.now ≡ length c.args.needed.pairs.items =
    ap length c.as_slice-4.ensures.value ∙ AllZip-long (IsPairOf c.as_slice-nodes.result.now c.as_slice-2.result.now) c.as_slice-2.result.now c.in_ok-pairs.pairs.items c.in_ok-pairs.ensures
    ∙ ap length c.as_slice-2.ensures.value in
    let ends = c.in_ok-ends.ensures.ends c.args.needed.pairs.items (subst (SinksHavePlaces c.args.gates.now c.args.signs.now c.args.needed.pairs.items) (sym c.as_slice-3.ensures.value) c.requires.sinks) in
    let pair_count : length c.in_ok-pairs.pairs.items ≡ length c.args.needed.pairs.items = sym (ap length c.as_slice-4.ensures.value) ∙ long in
    let leaves : c.gates.inside.leaves ≡ c.args.gates.now.leaves = ap (λ (g : GatesData). g.leaves) c.gates.view_is in
    let forest : ForestData =
    record {
      leaves = c.gates.inside.leaves;
      pairs = c.in_ok-pairs.pairs.items;
      origin = c.args.needed.pairs.items;
      uses = c.in_ok-uses.uses.items;
      ends = c.in_ok-ends.ends.items;
    } in
    let of : IsForestOf c.args.gates.now c.args.signs.now forest =
    record {
      leaves_are = leaves;
      origin_is = c.requires.needed;
      pairs_are = subst (λ ns. AllZip (IsPairOf ns c.args.needed.pairs.items) c.args.needed.pairs.items c.in_ok-pairs.pairs.items) nodes
          (subst (λ xs. AllZip (IsPairOf c.as_slice-nodes.result.now xs) xs c.in_ok-pairs.pairs.items) c.as_slice-2.ensures.value c.in_ok-pairs.ensures);
      uses_are = c.in_ok-uses.ensures
          ∙ ap₂ (λ ps es. map (λ p. sum_by (λ pair. count_by (is_pair_arm p) (arms_of pair)) ps + count_by (is_end_from p) es) (range_with_len 0 (length ps)))
          c.as_slice-4.ensures.value c.as_slice-5.ensures.value;
      signs_are = c.requires.signs;
      ends_count = c.in_ok-ends.ensures.count;
      ends_are = ends;
    } in
    record {
      in_place = forests_are_in_place c.args.gates.now c.args.signs.now forest is.in_place of;
      few_leaves = omega (arith, leaves, is.few_leaves);
      few_pairs = omega (arith, pair_count, c.requires.few, is.few_operators);
      few_ends = omega (arith, c.in_ok-ends.ensures.count, is.few_sinks);
    }
