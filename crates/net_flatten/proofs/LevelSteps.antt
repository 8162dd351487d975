-- Levels of signals, found one by one in an order in which each stands behind those that it depends on.
use Rattle.std.proofs.Common.{◌≡◌, ℕ, zero, suc, ◌<◌, ◌≤◌, ◌+◌, ◌⊎◌, inl, inr, max, Bool, true, false, List, [], ◌∷◌, length, map, replicate, set, take, Some, refl, ap, sym, ◌∙◌, subst, arith}
use Rattle.std.specs.Prelude.{Contains, slice_get, slice_index_or}
use Rattle.std.specs.List.{AllByRecursion, fold}
use Rattle.std.proofs.lemmas.Bool.{cases_eq, true≢false}
use Rattle.std.proofs.lemmas.List.{get_or-set_other, get_or-set_same, length-replicate, length-set}
use Rattle.std.proofs.lemmas.List.Elements.{Contains-append_cases}
use Rattle.std.proofs.lemmas.Option.{get_or_from_slice_get, slice_get_read}
use Rattle.dom_base.proofs.Lists.{AllByRecursion-weaker, Contains-slice_get}
use Rattle.graph_order.specs.Orders.{IsOrder, successors}
use Rattle.net_flatten.specs.Dependences.{level_at}
use Rattle.net_flatten.specs.LevelSteps.{AreLevelsSoFar, level_by}
use Rattle.model_calls.proofs.Fitting.{contains_cons}
use Rattle.network.proofs.IndexedLists.{index_of, take_get, take_next}
use Rattle.network.proofs.Lists.{get_take, map_same}

all_zero : (n k : ℕ) → level_at (replicate n 0) k ≡ 0
all_zero zero k = refl
all_zero (suc n) zero = refl
all_zero (suc n) (suc k) = all_zero n k

pub greatest_low : (bound : ℕ) (start : ℕ) (xs : List ℕ) → start ≤ bound → AllByRecursion (λ x. x ≤ bound) xs → fold max start xs ≤ bound
greatest_low bound start [] l h = l
greatest_low bound start (x ∷ xs) l h = greatest_low bound (max start x) xs (let a = h.0 in omega (arith, l, a)) h.1

each_low : (bound : ℕ) (levels numbers : List ℕ) → ((number : ℕ) → level_at levels number ≤ bound) → AllByRecursion (λ x. x ≤ bound) (map (level_at levels) numbers)
each_low bound levels [] low = tt
each_low bound levels (x ∷ xs) low = (low x, each_low bound levels xs low)

module _ (nodes : List (List ℕ)) (order : List ℕ) (tables : List Bool) (signals : ℕ) where
  pub levels_at_start : AreLevelsSoFar nodes order tables signals 0 (replicate signals 0)
  levels_at_start = record {
    count = length-replicate signals 0;
    done = λ number c. absurd (omega (arith, c.1));
    others = λ number e. all_zero signals number;
    low = λ number. omega (arith, all_zero signals number);
  }

  module _ (index : ℕ) (levels : List ℕ) (s : AreLevelsSoFar nodes order tables signals index levels) where
    -- one level more is still small
    pub next_low : (number : ℕ) → fold max 0 (map (level_at levels) (successors nodes number)) ≤ index
    next_low number = greatest_low index 0 (map (level_at levels) (successors nodes number)) (omega arith) (each_low index levels (successors nodes number) s.low)

    module _ (b : ℕ) (at : slice_get order index ≡ Some b) where
      either : (number : ℕ) → Contains (take (index + 1) order) number → Contains (take index order) number ⊎ (b ≡ number)
      either number c = elim (Contains-append_cases (take index order) (b ∷ []) number (subst (λ l. Contains l number) (take_next order index b at) c)) [
        | inl old ↦ inl old
        | inr new ↦ elim (contains_cons b [] number new) [ inl is ↦ inr is | inr none ↦ absurd (omega (arith, none.1)) ]
      ]

      -- a number that no table drives stays at 0
      pub levels_at_other : (slice_get tables b ≡ Some true → ⊥) → AreLevelsSoFar nodes order tables signals (index + 1) levels
      levels_at_other other = record {
        count = s.count;
        done = λ number c table. elim (either number c) [ inl old ↦ s.done number old table | inr is ↦ absurd (never number is table) ];
        others = s.others;
        low = λ number. omega (arith, s.low number);
      }
        where
          never : (number : ℕ) → b ≡ number → slice_get tables number ≡ Some true → ⊥
          never number is table = other (ap (slice_get tables) is ∙ table)

      module _ (ordered : IsOrder nodes order) (within : b < signals) (table : slice_get tables b ≡ Some true) where
        abbrev new : List ℕ
        new = set levels b (level_by nodes levels b)

        inside : b < length levels
        inside = omega (arith, within, s.count)

        at_b : level_at new b ≡ level_by nodes levels b
        at_b = get_or-set_same levels b (level_by nodes levels b) 0 inside

        never_other : (number : ℕ) → number ≡ b → slice_get tables number ≡ Some false → ⊥
        never_other number is other = let d : Some false ≡ Some true = sym other ∙ ap (slice_get tables) is ∙ table in let e : false ≡ true = cc in true≢false (sym e)

        -- what was done keeps its level
        same_before : (number : ℕ) → Contains (take index order) number → level_at new number ≡ level_at levels number
        same_before number old = elim (cases_eq number b) [
          | inl is ↦ ap (level_at new) is ∙ at_b ∙ sym (s.done b (subst (Contains (take index order)) is old) table) ∙ ap (level_at levels) (sym is)
          | inr apart ↦ get_or-set_other levels b number (level_by nodes levels b) 0 apart
        ]

        same_levels : (number : ℕ) → AllByRecursion (Contains (take index order)) (successors nodes number) → level_by nodes new number ≡ level_by nodes levels number
        same_levels number each = ap (λ l. 1 + fold max 0 l) (map_same (level_at new) (level_at levels) (successors nodes number)
            (AllByRecursion-weaker (Contains (take index order)) (λ k. level_at new k ≡ level_at levels k) same_before (successors nodes number) each))

        longer : (j k : ℕ) → j < index → Contains (take j order) k → Contains (take index order) k
        longer j k l c =
            let i = index_of (take j order) k c in
            let t = take_get order j i.0 k i.1 in
            Contains-slice_get (take index order) i.0 k (get_take order i.0 index k (omega (arith, l, t.0)) t.1)

        earlier : (number : ℕ) → Contains (take index order) number → AllByRecursion (Contains (take index order)) (successors nodes number)
        earlier number old =
            let i = index_of (take index order) number old in
            let t = take_get order index i.0 number i.1 in
            AllByRecursion-weaker (Contains (take i.0 order)) (Contains (take index order)) (λ k c. longer i.0 k t.0 c) (successors nodes number) (ordered.earlier i.0 number t.1)

        -- a number that a table drives gets its level
        pub levels_at_table : AreLevelsSoFar nodes order tables signals (index + 1) (set levels b (level_by nodes levels b))
        levels_at_table = record {
          count = length-set levels b (level_by nodes levels b) ∙ s.count;
          done = λ number c t. elim (either number c) [
            | inl old ↦ same_before number old ∙ s.done number old t ∙ sym (same_levels number (earlier number old))
            | inr is ↦ ap (level_at new) (sym is) ∙ at_b ∙ sym (same_levels b (ordered.earlier index b at)) ∙ ap (level_by nodes new) is
          ];
          others = λ number other. elim (cases_eq number b) [
            | inl is ↦ absurd (never_other number is other)
            | inr apart ↦ get_or-set_other levels b number (level_by nodes levels b) 0 apart ∙ s.others number other
          ];
          low = λ number. elim (cases_eq number b) [
            | inl is ↦ omega (arith, ap (level_at new) is, at_b, next_low b)
            | inr apart ↦ omega (arith, get_or-set_other levels b number (level_by nodes levels b) 0 apart, s.low number)
          ];
        }

-- the level of a number, as it was worked out from what its node leads to
pub level_worked_out : (nodes : List (List ℕ)) (b : ℕ) (levels seen numbers node : List ℕ) (greatest : ℕ) → seen ≡ levels → numbers ≡ node → b < length nodes → node ≡ slice_index_or nodes b node
    → greatest ≡ fold max 0 (map (level_at seen) numbers) → 1 + greatest ≡ level_by nodes levels b
level_worked_out nodes b levels seen numbers node greatest same is within found e =
    let at : successors nodes b ≡ node = get_or_from_slice_get nodes b node [] (slice_get_read nodes (length nodes) b node refl within found) in
    ap (λ g. 1 + g) (e ∙ ap (λ l. fold max 0 (map (level_at l) numbers)) same ∙ ap (λ l. fold max 0 (map (level_at levels) l)) (is ∙ sym at))
