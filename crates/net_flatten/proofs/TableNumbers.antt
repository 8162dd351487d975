-- The tables among the parts before an index.
use Rattle.std.proofs.Common.{◌≡◌, ℕ, ◌+◌, Bool, true, false, List, [], ◌∷◌, ◌++◌, append-nil, filter, map, set, take, Some, refl, ap, sym, ◌∙◌, subst, cond}
use Rattle.std.specs.Prelude.{slice_get}
use Rattle.std.proofs.lemmas.List.{map-append}
use Rattle.net_flatten.specs.Dependences.{is_table}
use Rattle.model_calls.specs.NumberSets.{IsSetOf}
use Rattle.part_numbers.specs.NumberedFiles.{NumberedPartData}
use Rattle.net_flatten.specs.TableNumbers.{driven_by_tables, tables_among}
use Rattle.network.proofs.IndexedLists.{take_next}
use Rattle.model_calls.proofs.NumberSets.{set_with}

pub filter-append : {X : Type 0} (test : X → Bool) (xs ys : List X) → filter test (xs ++ ys) ≡ filter test xs ++ filter test ys
filter-append test [] ys = refl
filter-append test (x ∷ xs) ys = by (test x) (filter-append test xs ys)
  where
    by : (b : Bool) → filter test (xs ++ ys) ≡ filter test xs ++ filter test ys → cond b (x ∷ filter test (xs ++ ys)) (filter test (xs ++ ys)) ≡ cond b (x ∷ filter test xs) (filter test xs) ++ filter test ys
    by true e = ap (λ l. x ∷ l) e
    by false e = e

module _ (parts : List NumberedPartData) (index : ℕ) (p : NumberedPartData) (at : slice_get parts index ≡ Some p) where
  among_next : tables_among (take (index + 1) parts) ≡ tables_among (take index parts) ++ tables_among (p ∷ [])
  among_next = ap tables_among (take_next parts index p at) ∙ filter-append (λ (q : NumberedPartData). is_table q.card) (take index parts) (p ∷ [])

  -- one more table, or none
  pub tables_at_table : is_table p.card ≡ true → tables_among (take (index + 1) parts) ≡ tables_among (take index parts) ++ p ∷ []
  tables_at_table table = among_next ∙ ap (λ b. tables_among (take index parts) ++ cond b (p ∷ []) []) table

  pub tables_at_latch : is_table p.card ≡ false → tables_among (take (index + 1) parts) ≡ tables_among (take index parts)
  tables_at_latch latch = among_next ∙ ap (λ b. tables_among (take index parts) ++ cond b (p ∷ []) []) latch ∙ append-nil (tables_among (take index parts))

  module _ (signals : ℕ) (marks : List Bool) (s : IsSetOf signals (driven_by_tables (take index parts)) marks) where
    pub set_at_table : is_table p.card ≡ true → IsSetOf signals (driven_by_tables (take (index + 1) parts)) (set marks p.drives true)
    set_at_table table = subst (λ l. IsSetOf signals l (set marks p.drives true))
        (sym (ap (map (λ (q : NumberedPartData). q.drives)) (tables_at_table table) ∙ map-append (λ (q : NumberedPartData). q.drives) (tables_among (take index parts)) (p ∷ [])))
        (set_with signals (driven_by_tables (take index parts)) marks p.drives s)

    pub set_at_latch : is_table p.card ≡ false → IsSetOf signals (driven_by_tables (take (index + 1) parts)) marks
    set_at_latch latch = subst (λ l. IsSetOf signals l marks) (ap (map (λ (q : NumberedPartData). q.drives)) (sym (tables_at_latch latch))) s
