-- Levels rise along what cells read, and clocks with levels.
use Rattle.std.proofs.Common.{◌≡◌, ap, subst, ℕ, zero, suc, ◌-◌, ◌*◌, ◌/◌, ◌≤◌, ◌<◌, List, [], ◌∷◌, map, get_or, Some, slice_get, Contains, arith, mul_comm, mul-lt-mul_of_pos_right, div-lt_iff_lt-mul, mul-le-mul_right, le-div_iff_mul-le, div-mul-le_self, le_trans}
use Rattle.std.proofs.lemmas.Option.{get_or_from_slice_get}
use Rattle.clock_phase.specs.Levels.{CellsReadLowerLevels, ClocksAreInRange, ClocksRiseWithLevels, cells_read, greatest}

-- a level is at most the greatest
pub level_at_most : (levels : List ℕ) (k level : ℕ) → slice_get levels k ≡ Some level → level ≤ greatest levels
level_at_most [] k level e = absurd (cc)
level_at_most (x ∷ levels) zero level e = let here : x ≡ level = cc in omega arith
level_at_most (x ∷ levels) (suc k) level e = let more = level_at_most levels k level e in omega arith

pub greatest_mapped : (f : ℕ → ℕ) (cells : List ℕ) (j : ℕ) → Contains cells j → f j ≤ greatest (map f cells)
greatest_mapped f [] j (k, lt, e) = absurd (omega arith)
greatest_mapped f (c ∷ cells) j (zero, lt, e) = let same = ap f e in omega arith
greatest_mapped f (c ∷ cells) j (suc k, lt, e) = let more = greatest_mapped f cells j (k, omega arith, e) in omega arith

pub clock_within : ClocksAreInRange
clock_within = λ phases top level some low high.
    let less : (level - 1) * phases < phases * top = subst (λ n. (level - 1) * phases < n) (mul_comm top phases) (mul-lt-mul_of_pos_right (omega arith) (omega arith)) in
    let lt : (level - 1) * phases / top < phases = (div-lt_iff_lt-mul (omega arith)).1 less in
    (omega arith, omega arith)

pub clock_rises : ClocksRiseWithLevels
clock_rises = λ phases top a b some le.
    let more : (a - 1) * phases ≤ (b - 1) * phases = mul-le-mul_right phases le in
    let low : (a - 1) * phases / top * top ≤ (b - 1) * phases = le_trans (div-mul-le_self ((a - 1) * phases) top) more in
    let step : (a - 1) * phases / top ≤ (b - 1) * phases / top = (le-div_iff_mul-le (omega arith)).1 low in
    omega arith

pub reads_lower : CellsReadLowerLevels
reads_lower = λ leaf_count trees levels k j tree level read is at_tree at_level at_read reads.
    let own = is.levels_are k tree level at_tree at_level in
    let low = greatest_mapped (λ cell. get_or levels cell 0) (cells_read leaf_count tree) j reads in
    let same = get_or_from_slice_get levels j read 0 at_read in
    (omega arith, level_at_most levels k level at_level)
