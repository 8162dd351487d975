-- The levels of all signals, where all were found in an order.
use Rattle.std.proofs.Common.{◌≡◌, ℕ, zero, suc, ◌<◌, ◌≤◌, ◌+◌, ◌⊎◌, inl, inr, cond, max, Bool, true, false, List, [], ◌∷◌, length, map, Some, refl, ap, sym, ◌∙◌, subst, arith}
use Rattle.std.specs.Prelude.{All, Contains, filter, slice_get, slice_index_or}
use Rattle.std.specs.List.{fold}
use Rattle.std.proofs.lemmas.Bool.{cases_lt, true≢false}
use Rattle.std.proofs.lemmas.List.{take_all}
use Rattle.std.proofs.lemmas.List.Elements.{recursion_from_All}
use Rattle.std.proofs.lemmas.Option.{slice_get-get_or}
use Rattle.dom_base.proofs.Lists.{AllByRecursion-contains, AllByRecursion-filter, Contains-first, Contains-later, Contains-slice_get}
use Rattle.graph_order.specs.Orders.{IsOrder}
use Rattle.net_flatten.specs.Dependences.{AreDependences, AreTableLevels, IsDrivingTable, is_table, level_at}
use Rattle.net_flatten.specs.LevelSteps.{AreLevelsSoFar}
use Rattle.model_calls.specs.NumberSets.{IsSetOf}
use Rattle.part_numbers.specs.NumberedFaults.{IsPartWithin}
use Rattle.part_numbers.specs.NumberedFiles.{NumberedPartData}
use Rattle.net_flatten.specs.TableNumbers.{driven_by_tables, tables_among}
use Rattle.model_calls.proofs.EachPart.{each_itself}
use Rattle.model_calls.proofs.Fitting.{contains_cons}
use Rattle.network.proofs.IndexedLists.{index_of}
use Rattle.network.proofs.Lists.{contains_map, get_map}

-- what stands in a filtered list stands in the list, and passes the test
pub contains_filter : {X : Type 0} (test : X → Bool) (xs : List X) (x : X) → Contains (filter test xs) x → (test x ≡ true) × Contains xs x
contains_filter test xs x c = AllByRecursion-contains (λ y. (test y ≡ true) × Contains xs y) (filter test xs) x (AllByRecursion-filter (Contains xs) test xs (each_itself xs)) c

pub filter_contains : {X : Type 0} (test : X → Bool) (xs : List X) (x : X) → test x ≡ true → Contains xs x → Contains (filter test xs) x
filter_contains test [] x e c = absurd (omega (arith, c.1))
filter_contains {X = X} test (y ∷ ys) x e c = by (filter_contains test ys x e) (contains_cons y ys x c) (test y) refl
  where
    by : (Contains ys x → Contains (filter test ys) x) → (y ≡ x) ⊎ Contains ys x → (b : Bool) → test y ≡ b → Contains (cond b (y ∷ filter test ys) (filter test ys)) x
    by deeper (inl same) true is = subst (Contains (y ∷ filter test ys)) same (Contains-first y (filter test ys))
    by deeper (inl same) false is = absurd (true≢false (sym (ap test same ∙ e) ∙ is))
    by deeper (inr later) true is = Contains-later y (filter test ys) x (deeper later)
    by deeper (inr later) false is = deeper later

get_past : (xs : List ℕ) (k : ℕ) → length xs ≤ k → slice_index_or xs k 0 ≡ 0
get_past [] k l = refl
get_past (x ∷ xs) zero l = absurd (omega (arith, l))
get_past (x ∷ xs) (suc k) l = get_past xs k (omega (arith, l))

module _ (signals : ℕ) (parts : List NumberedPartData) where
  table_of_number : (number : ℕ) → Contains (driven_by_tables parts) number → (p : NumberedPartData) × IsDrivingTable parts number p
  table_of_number number c =
      let m = contains_map (λ (p : NumberedPartData). p.drives) (tables_among parts) number c in
      let f = contains_filter (λ (p : NumberedPartData). is_table p.card) parts m.0 m.1 in
      (m.0, record { there = f.1; table = f.0; drives_is = sym m.2 })

  number_of_table : (number : ℕ) (p : NumberedPartData) → IsDrivingTable parts number p → Contains (driven_by_tables parts) number
  number_of_table number p t =
      let i = index_of (tables_among parts) p (filter_contains (λ (q : NumberedPartData). is_table q.card) parts p t.table t.there) in
      Contains-slice_get (driven_by_tables parts) i.0 number (get_map (λ (q : NumberedPartData). q.drives) (tables_among parts) i.0 p i.1 ∙ ap Some t.drives_is)

  module _ (within : All (IsPartWithin signals) parts) (nodes : List (List ℕ)) (order : List ℕ) (tables : List Bool) (levels : List ℕ)
      (d : AreDependences signals parts nodes) (ordered : IsOrder nodes order) (set : IsSetOf signals (driven_by_tables parts) tables) (s : AreLevelsSoFar nodes order tables (length nodes) (length order) levels) where
    pub levels_found : AreTableLevels signals parts levels
    levels_found = record {
      count = s.count ∙ d.count;
      tables = λ number p t. table_level number p t (small number p t) (slice_index_or tables number false) (slice_get-get_or tables number false (let l = small number p t in omega (arith, l, set.length_is)));
      others = λ number none. elim (cases_lt number signals) [
        | inl l ↦ other_level number none (slice_index_or tables number false) (slice_get-get_or tables number false (omega (arith, l, set.length_is)))
        | inr past ↦ get_past levels number (omega (arith, past, s.count, d.count))
      ];
    }
      where
        small : (number : ℕ) (p : NumberedPartData) → IsDrivingTable parts number p → number < signals
        small number p t =
            let w = (AllByRecursion-contains (IsPartWithin signals) parts p (recursion_from_All (IsPartWithin signals) parts within) t.there).drives in
            omega (arith, w, t.drives_is)

        table_level : (number : ℕ) (p : NumberedPartData) → IsDrivingTable parts number p → number < signals → (b : Bool) → slice_get tables number ≡ Some b → level_at levels number ≡ 1 + fold max 0 (map (level_at levels) p.reads)
        table_level number p t l true marked =
            s.done number (subst (λ o. Contains o number) (sym (take_all (length order) order (omega arith))) (ordered.all number (omega (arith, l, d.count)))) marked
            ∙ ap (λ ns. 1 + fold max 0 (map (level_at levels) ns)) (d.reads number p t)
        table_level number p t l false unmarked = absurd (set.unmarked number unmarked (number_of_table number p t))

        other_level : (number : ℕ) → ((p : NumberedPartData) → IsDrivingTable parts number p → ⊥) → (b : Bool) → slice_get tables number ≡ Some b → level_at levels number ≡ 0
        other_level number none true marked = let t = table_of_number number (set.marked number marked) in absurd (none t.0 t.1)
        other_level number none false unmarked = s.others number unmarked
