-- The clocks of a domino deck rise along what its cells read.
use Rattle.std.proofs.Common.{◌≡◌, inl, inr, sym, ap, subst, ℕ, ◌-◌, ◌≤◌, List, [], ◌∷◌, map, zip, get_or, arith}
use Rattle.std.proofs.lemmas.Option.{get_or_from_slice_get}
use Rattle.sp_network.specs.Tree.{Tree}
use Rattle.deck_form.specs.DeckClocks.{ClocksRise}
use Rattle.deck_form.specs.DeckNets.{CellPlan}
use Rattle.clock_phase.specs.Levels.{cells_read, clock_of, greatest}
use Rattle.gate_decompose.specs.Sinks.{leaf_count}
use Rattle.gate_decompose.specs.Items.{Among}
use Rattle.gate_decompose.proofs.Among.{among_map, contains-among}
use Rattle.deck_form.proofs.DeckForms.{zipped_get}
use Rattle.network.proofs.Lists.{get_of_map}
use Rattle.clock_phase.proofs.Levels.{clock_rises, level_at_most}

greatest_among : (x : ℕ) (xs : List ℕ) → Among x xs → x ≤ greatest xs
greatest_among x [] at = absurd at
greatest_among x (y ∷ xs) (inl e) = omega arith
greatest_among x (y ∷ xs) (inr at) = let more = greatest_among x xs at in omega arith

pub clocks_rise : ClocksRise
clocks_rise = λ network options circuit is k j reader read at_k at_j reads.
    let make : Tree ℕ × ℕ → CellPlan = λ p. record { tree = p.0; clock = clock_of options.phases (greatest is.levels) p.1 } in
    let m = get_of_map make (zip is.trees is.levels) k reader at_k in
    let n = get_of_map make (zip is.trees is.levels) j read at_j in
    let x = zipped_get is.trees is.levels k m.0 m.1 in
    let y = zipped_get is.trees is.levels j n.0 n.1 in
    let level = is.levels_are.levels_are k (m.0).0 (m.0).1 x.0 x.1 in
    let tree : (m.0).0 ≡ reader.tree = ap (λ (c : CellPlan). c.tree) m.2 in
    let among = among_map (λ cell. get_or is.levels cell 0) j (cells_read (leaf_count network) reader.tree) (contains-among (cells_read (leaf_count network) reader.tree) j reads) in
    let low : get_or is.levels j 0 ≤ greatest (map (λ cell. get_or is.levels cell 0) (cells_read (leaf_count network) (m.0).0)) =
    subst (λ t. get_or is.levels j 0 ≤ greatest (map (λ cell. get_or is.levels cell 0) (cells_read (leaf_count network) t))) (sym tree)
    (greatest_among (get_or is.levels j 0) (map (λ cell. get_or is.levels cell 0) (cells_read (leaf_count network) reader.tree)) among) in
    let own : get_or is.levels j 0 ≡ (n.0).1 = get_or_from_slice_get is.levels j (n.0).1 0 y.1 in
    let less : (n.0).1 - 1 ≤ (m.0).1 - 1 = omega (arith, level, low, own) in
    let clock_read : clock_of options.phases (greatest is.levels) (n.0).1 ≡ read.clock = ap (λ (c : CellPlan). c.clock) n.2 in
    let clock_reader : clock_of options.phases (greatest is.levels) (m.0).1 ≡ reader.clock = ap (λ (c : CellPlan). c.clock) m.2 in
    let high = level_at_most is.levels k (m.0).1 x.1 in
    let rise = clock_rises options.phases (greatest is.levels) (n.0).1 (m.0).1 (omega (arith, level, high)) less in
    omega (arith, clock_read, clock_reader, rise)
