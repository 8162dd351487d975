-- The dynamic nets of an order of nets, as far as a pass has come.
use Rattle.std.specs.Prelude.{Contains, Some, slice_get, take, ◌⊎◌}
use Rattle.std.proofs.Common.{List, [], ap, arith, inl, inr, length, subst, sym, ℕ, ◌+◌, ◌<◌, ◌∙◌, ◌∷◌, ◌≡◌, ◌≤◌}
use Rattle.std.proofs.lemmas.Option.{slice_get-get_or, slice_get_within}
use Rattle.dom_base.proofs.Decided.{lt_or_ge}
use Rattle.dom_base.proofs.Lists.{AllByRecursion-contains, slice_get-append, slice_get-contained, slice_get-push, slice_get-push_cases}
use Rattle.deck.specs.declared.device.Device.{Device}
use Rattle.deck.specs.declared.role.Roles.{Roles}
use Rattle.graph_order.specs.Orders.{IsOrder, successors}
use Rattle.graph_order.proofs.Lists.{take_get}
use Rattle.deck_audit.specs.Rules.{Reads}
use Rattle.deck_audit.specs.Words.{IsDynamic}
use Rattle.link_reduce.specs.Parts.{IsOnce}
use Rattle.audit_deck.specs.Indexes.{AreInRange}
use Rattle.audit_deck.specs.Loops.{AreReads, IsCellOrder}
use Rattle.audit_deck.specs.Numberings.{AddsOne, IsMet}
use Rattle.audit_deck.proofs.Breaks.{dynamic_low}
use Rattle.audit_deck.proofs.ReadNets.{reader_to}

-- the dynamic nets of the first part of the order are met, each behind those that it reads
pub record AreMetUpto (ds : List Device) (roles : Roles) (order : List ℕ) (i : ℕ) (cells : List ℕ) : Type 0 where
  pub sound : (k x : ℕ) → slice_get cells k ≡ Some x → IsDynamic ds roles x
  pub full : (j x : ℕ) → j < i → slice_get order j ≡ Some x → IsDynamic ds roles x → IsMet cells x
  pub earlier : (k x y : ℕ) → slice_get cells k ≡ Some x → Reads ds roles x y → (j : ℕ) × (j < k) × (slice_get cells j ≡ Some y)

pub none_met : (ds : List Device) (roles : Roles) (order cells : List ℕ) → cells ≡ [] → AreMetUpto ds roles order 0 cells
none_met ds roles order cells none = record {
  sound = λ k x at. absurd (empty k x at);
  full = λ j x lt. absurd (omega (arith, lt));
  earlier = λ k x y at. absurd (empty k x at);
}
  where
    empty : (k x : ℕ) → slice_get cells k ≡ Some x → ⊥
    empty k x at = let z : slice_get [] k ≡ Some x = subst (λ l. slice_get l k ≡ Some x) none at in cc

module _ (ds : List Device) (roles : Roles) (nets : ℕ) (nodes : List (List ℕ)) (are : AreReads ds roles nets nodes) (in_range : AreInRange ds nets)
    (order : List ℕ) (is : IsOrder nodes order) where
  module _ (i x : ℕ) (at : slice_get order i ≡ Some x) (cells : List ℕ) (h : AreMetUpto ds roles order i cells) where
    here_or_before : (j y : ℕ) → j < i + 1 → slice_get order j ≡ Some y → (y ≡ x) ⊎ (j < i)
    here_or_before j y lt there = elim (lt_or_ge j i) [
      | inl low ↦ inr low
      | inr high ↦ let e : j ≡ i = omega (arith, high, lt) in let z : Some y ≡ Some x = sym there ∙ ap (slice_get order) e ∙ at in inl cc
    ]

    -- the next net is no dynamic net
    pub passed : (IsDynamic ds roles x → ⊥) → AreMetUpto ds roles order (i + 1) cells
    passed away = record {
      sound = h.sound;
      full = λ j y lt there dynamic. elim (here_or_before j y lt there) [
        | inl e ↦ absurd (away (subst (IsDynamic ds roles) e dynamic))
        | inr low ↦ h.full j y low there dynamic
      ];
      earlier = h.earlier;
    }

    -- what it reads is met before
    read_met : (y : ℕ) → IsDynamic ds roles x → Reads ds roles x y → IsMet cells y
    read_met y dynamic r =
        let s = reader_to ds roles nets nodes are in_range x y (dynamic, r) in
        let c = AllByRecursion-contains (Contains (take i order)) (successors nodes x) y (is.earlier i x at) s in
        let t = take_get order i c.0 y (slice_get-get_or (take i order) c.0 y c.1 ∙ ap Some c.2) in
        h.full c.0 y t.0 t.1 r.4

    -- it is one
    pub met_next : IsDynamic ds roles x → (after : List ℕ) → AddsOne cells x after → AreMetUpto ds roles order (i + 1) after
    met_next dynamic after (inl (met, same)) = subst (AreMetUpto ds roles order (i + 1)) (sym same) (record {
      sound = h.sound;
      full = λ j y lt there d. elim (here_or_before j y lt there) [
        | inl e ↦ subst (IsMet cells) (sym e) met
        | inr low ↦ h.full j y low there d
      ];
      earlier = h.earlier;
    })
    met_next dynamic after (inr (new, same)) = subst (AreMetUpto ds roles order (i + 1)) (sym same) (record {
      sound = λ k y there. elim (slice_get-push_cases cells x k y there) [
        | inl old ↦ h.sound k y old
        | inr e ↦ subst (IsDynamic ds roles) e.1 dynamic
      ];
      full = λ j y lt there d. elim (here_or_before j y lt there) [
        | inl e ↦ (length cells, slice_get-push cells x ∙ ap Some (sym e))
        | inr low ↦ let m = h.full j y low there d in (m.0, slice_get-append cells (x ∷ []) m.0 y m.1)
      ];
      earlier = λ k y z there r. elim (slice_get-push_cases cells x k y there) [
        | inl old ↦ let m = h.earlier k y z old r in (m.0, m.1, slice_get-append cells (x ∷ []) m.0 z m.2)
        | inr e ↦
            let m = read_met z dynamic (subst (λ n. Reads ds roles n z) (sym e.1) r) in
            let low = slice_get_within cells m.0 z m.1 in
            (m.0, omega (arith, low, e.0), slice_get-append cells (x ∷ []) m.0 z m.1)
      ];
    })

  -- the whole order was gone through
  pub all_met : (i : ℕ) (cells : List ℕ) → length order ≤ i → AreMetUpto ds roles order i cells → IsOnce cells → IsCellOrder ds roles cells
  all_met i cells done h once = record {
    are = record {
      sound = h.sound;
      full = λ x dynamic.
          let low = dynamic_low ds roles nets in_range x dynamic in
          let c = slice_get-contained order x (is.all x (omega (arith, low, are.count))) in
          h.full c.0 x (let z = slice_get_within order c.0 x c.1 in omega (arith, z, done)) c.1 dynamic;
      once = once;
    };
    earlier = h.earlier;
  }
