-- What signals depend on through tables, part by part.
use Rattle.std.proofs.Common.{◌≡◌, ℕ, zero, suc, ◌<◌, ◌+◌, ◌⊎◌, inl, inr, true, false, List, [], ◌∷◌, length, replicate, set, take, Some, refl, ap, sym, ◌∙◌, subst, arith}
use Rattle.std.specs.Prelude.{◌≢◌, Contains, slice_get}
use Rattle.std.proofs.lemmas.Bool.{cases_eq, true≢false}
use Rattle.std.proofs.lemmas.List.{get_or-set_other, get_or-set_same, length-replicate, length-set}
use Rattle.std.proofs.lemmas.List.Elements.{Contains-append_cases, Contains-append_left, Contains-append_right}
use Rattle.dom_base.proofs.Lists.{Contains-first}
use Rattle.graph_order.specs.Orders.{successors}
use Rattle.net_flatten.specs.Dependences.{AreDependences, AreDrivenOnce, is_table}
use Rattle.part_numbers.specs.NumberedFiles.{NumberedPartData}
use Rattle.model_calls.proofs.Fitting.{contains_cons}
use Rattle.network.proofs.IndexedLists.{index_of, take_get, take_next}

no_successors : (n a : ℕ) → successors (replicate n []) a ≡ []
no_successors zero a = refl
no_successors (suc n) zero = refl
no_successors (suc n) (suc a) = no_successors n a

pub dependences_at_start : (signals : ℕ) (parts : List NumberedPartData) → AreDependences signals (take 0 parts) (replicate signals [])
dependences_at_start signals parts = record {
  count = length-replicate signals [];
  reads = λ number p t. absurd (omega (arith, t.there.1));
  only = λ a b s. absurd (none (subst (λ l. Contains l b) (no_successors signals a) s));
}
  where
    none : {b : ℕ} → Contains [] b → ⊥
    none c = omega (arith, c.1)

module _ (parts : List NumberedPartData) (index : ℕ) (p : NumberedPartData) (at : slice_get parts index ≡ Some p) where
  -- a part before the next index is one before this, or the one here
  pub either_before : (q : NumberedPartData) → Contains (take (index + 1) parts) q → Contains (take index parts) q ⊎ (p ≡ q)
  either_before q c = elim (Contains-append_cases (take index parts) (p ∷ []) q (subst (λ l. Contains l q) (take_next parts index p at) c)) [
    | inl old ↦ inl old
    | inr new ↦ elim (contains_cons p [] q new) [ inl is ↦ inr is | inr none ↦ absurd (omega (arith, none.1)) ]
  ]

  pub still_before : (q : NumberedPartData) → Contains (take index parts) q → Contains (take (index + 1) parts) q
  still_before q c = subst (λ l. Contains l q) (sym (take_next parts index p at)) (Contains-append_left (take index parts) (p ∷ []) q c)

  pub now_before : Contains (take (index + 1) parts) p
  now_before = subst (λ l. Contains l p) (sym (take_next parts index p at)) (Contains-append_right (take index parts) (p ∷ []) p (Contains-first p []))

  module _ (signals : ℕ) (nodes : List (List ℕ)) (d : AreDependences signals (take index parts) nodes) where
    -- a latch adds nothing
    pub dependences_at_latch : is_table p.card ≡ false → AreDependences signals (take (index + 1) parts) nodes
    dependences_at_latch latch = record {
      count = d.count;
      reads = λ number q t. elim (either_before q t.there) [
        | inl old ↦ d.reads number q (record { there = old; table = t.table; drives_is = t.drives_is })
        | inr same ↦ absurd (true≢false (sym t.table ∙ ap (λ (r : NumberedPartData). is_table r.card) (sym same) ∙ latch))
      ];
      only = λ a b s. let w = d.only a b s in (w.0, record { there = still_before w.0 w.1.there; table = w.1.table; drives_is = w.1.drives_is }, w.2);
    }

    -- a table that drives what no part before it drives sets its node
    pub dependences_at_table : is_table p.card ≡ true → p.drives < signals → AreDrivenOnce parts → AreDependences signals (take (index + 1) parts) (set nodes p.drives p.reads)
    dependences_at_table table within once = record {
      count = length-set nodes p.drives p.reads ∙ d.count;
      reads = λ number q t. elim (either_before q t.there) [
        | inl old ↦ get_or-set_other nodes p.drives number p.reads [] (other number q old t.drives_is) ∙ d.reads number q (record { there = old; table = t.table; drives_is = t.drives_is })
        | inr same ↦ ap (successors (set nodes p.drives p.reads)) (sym t.drives_is ∙ ap (λ (r : NumberedPartData). r.drives) (sym same)) ∙ get_or-set_same nodes p.drives p.reads [] inside ∙ ap (λ (r : NumberedPartData). r.reads) same
      ];
      only = λ a b s. elim (cases_eq a p.drives) [
        | inl is ↦ (p, record { there = now_before; table = table; drives_is = sym is }, subst (λ l. Contains l b) (ap (successors (set nodes p.drives p.reads)) is ∙ get_or-set_same nodes p.drives p.reads [] inside) s)
        | inr apart ↦ let w = d.only a b (subst (λ l. Contains l b) (get_or-set_other nodes p.drives a p.reads [] apart) s) in (w.0, record { there = still_before w.0 w.1.there; table = w.1.table; drives_is = w.1.drives_is }, w.2)
      ];
    }
      where
        inside : p.drives < length nodes
        inside = omega (arith, within, d.count)

        other : (number : ℕ) (q : NumberedPartData) → Contains (take index parts) q → q.drives ≡ number → number ≢ p.drives
        other number q old is same =
            let i = index_of (take index parts) q old in
            let t = take_get parts index i.0 q i.1 in
            let equal = once i.0 index q p t.1 at (is ∙ same) in
            omega (arith, equal, t.0)
