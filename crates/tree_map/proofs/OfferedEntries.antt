-- The offers for an arm give the entries of the arm.
use Rattle.std.proofs.Common.{◌≡◌, inl, sym, subst, ◌∙◌, ℕ, ◌≤◌, List, map, get_or, slice_get, Some}
use Rattle.std.proofs.lemmas.Option.{same_Some, slice_get-get_or, slice_get_within}
use Rattle.gate_decompose.specs.Items.{Among}
use Rattle.gate_decompose.proofs.Among.{among_left, among_map, among_mapped, among_place, among_right}
use Rattle.gate_decompose.proofs.Rising.{among_get}
use Rattle.cover_plan.specs.Covers.{Costs, IsChoice}
use Rattle.cover_plan.specs.CoverTables.{Entry, arm_entries, cut_entry, root_of, table}
use Rattle.cover_plan.specs.Parts.{Choice, CoverPart, CutOff, End, Join, Keep, Nothing, TreeShape}
use Rattle.cover_plan.proofs.Choices.{entry_choice}
use Rattle.cover_plan.proofs.Recurrence.{root_least, table_least}
use Rattle.tree_map.specs.declared.offers.Offer.{Offer}
use Rattle.tree_map.specs.CoverRows.{entry_of}
use Rattle.tree_map.specs.Offers.{AreOffers, choice_of}
use Rattle.tree_map.proofs.ArmEntries.{HaveSame}

-- what stands at a place is among the items
among_at : {X : Type 0} (xs : List X) (k : ℕ) (x : X) → slice_get xs k ≡ Some x → Among x xs
among_at xs k x at =
    let lt = slice_get_within xs k x at in
    subst (λ y. Among y xs) (same_Some (get_or xs k x) x (sym (slice_get-get_or xs k x lt) ∙ at)) (among_get xs k x lt)

module _ (c : Costs) (w h : ℕ) (wide : 1 ≤ w) (tall : 1 ≤ h) where
  -- each choice for an arm is an entry of it
  choice_entry : (part : CoverPart) (x : Choice) (shape : TreeShape) (sum : ℕ) → IsChoice c w h part x shape sum → Among (record { shape = shape; sum = sum }) (arm_entries c w h part)
  choice_entry End Nothing shape sum is = inl (λ i. record { shape = sym is.0 i; sum = sym is.1 i })
  choice_entry End (Keep k) shape sum is = absurd is
  choice_entry End CutOff shape sum is = absurd is
  choice_entry (Join op l r) Nothing shape sum is = absurd is
  choice_entry (Join op l r) (Keep k) shape sum (same, least) =
      among_left (record { shape = shape; sum = sum }) (table c w h op l r) (cut_entry (root_of c w h op l r))
      (subst (λ s. Among (record { shape = s; sum = sum }) (table c w h op l r)) (sym same) ((table_least c w h wide tall op l r (record { shape = k; sum = sum })).1 least))
  choice_entry (Join op l r) CutOff shape sum (leaf, (below, least, is_sum)) =
      let e : Entry = record { shape = shape; sum = sum } in
      among_right e (table c w h op l r) (cut_entry (root_of c w h op l r))
      (subst (λ o. Among e (cut_entry o)) (sym ((root_least c w h wide tall op l r below).1 least)) (inl (λ i. record { shape = sym leaf i; sum = sym is_sum i })))

  -- so the offers for an arm give its entries
  pub offered_same : (part : CoverPart) (xs : List Offer) → AreOffers c w h part xs → HaveSame (map entry_of xs) (arm_entries c w h part)
  offered_same part xs are e = (there, back)
    where
      there : Among e (map entry_of xs) → Among e (arm_entries c w h part)
      there at =
          let p = among_mapped entry_of e xs at in
          let k = among_place p.0 xs p.1 in
          subst (λ x. Among x (arm_entries c w h part)) p.2 (choice_entry part (choice_of (p.0).choice) (p.0).shape (p.0).sum (are.sound k.0 p.0 k.1))

      back : Among e (arm_entries c w h part) → Among e (map entry_of xs)
      back at =
          let x = entry_choice c w h wide tall part e at in
          let is = are.complete x.0 e.shape e.sum x.1 in
          subst (λ y. Among y (map entry_of xs)) (λ i. record { shape = is.shape_is i; sum = is.sum_is i })
          (among_map entry_of is.offer xs (among_at xs is.place is.offer is.at))
