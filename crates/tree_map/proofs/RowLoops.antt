-- Offers one by one, as loops over them go.
use Rattle.std.proofs.Common.{◌≡◌, min, Some, None, sym, ap, subst, ◌∙◌, ℕ, ◌+◌, ◌<◌, List, [], ◌∷◌, ◌++◌, length, map, take, get_or, append_assoc, append-nil, add-one, Option}
use Rattle.std.proofs.Math.Seq.{take-suc}
use Rattle.std.proofs.lemmas.Grind.{flat_map-append}
use Rattle.dom_base.proofs.Lists.{map-push}
use Rattle.gate_decompose.specs.Items.{Among}
use Rattle.gate_decompose.proofs.Among.{among_map}
use Rattle.gate_decompose.proofs.Rising.{among_get}
use Rattle.tree_map.specs.declared.offers.Offer.{Offer}
use Rattle.cover_plan.specs.Covers.{Costs}
use Rattle.cover_plan.specs.CoverTables.{Entry, combined, lower_of, lowest}
use Rattle.cover_plan.specs.Parts.{Operator}
use Rattle.tree_map.specs.CoverRows.{AreSmall, IsSmall, entry_of, joined_entry}
use Rattle.tree_map.proofs.Rows.{lowest-push}

-- the offer that is read at a place
module _ (xs : List Offer) (i : ℕ) (x : Offer) (lt : i < length xs) (is : x ≡ get_or xs i x) where
  entries_step : map entry_of (take (i + 1) xs) ≡ map entry_of (take i xs) ++ entry_of x ∷ []
  entries_step = rw (add-one, take-suc xs i x lt) (map-push entry_of (take i xs) (get_or xs i x)) ∙ ap (λ y. map entry_of (take i xs) ++ entry_of y ∷ []) (sym is)

  pub small_at : AreSmall (map entry_of xs) → IsSmall (entry_of x)
  small_at small = small (entry_of x) (among_map entry_of x xs (subst (λ y. Among y xs) (sym is) (among_get xs i x lt)))

  lowest_step : (o : Option ℕ) → o ≡ lowest (map entry_of (take i xs)) → lower_of x.sum o ≡ lowest (map entry_of (take (i + 1) xs))
  lowest_step o low = ap (lower_of x.sum) low ∙ sym (ap lowest entries_step ∙ lowest-push (map entry_of (take i xs)) (entry_of x))

  pub lowest_none : (o : Option ℕ) → o ≡ lowest (map entry_of (take i xs)) → o ≡ None → Some x.sum ≡ lowest (map entry_of (take (i + 1) xs))
  lowest_none o low none = ap (lower_of x.sum) (sym none) ∙ lowest_step o low

  pub lowest_some : (o : Option ℕ) (m r : ℕ) → o ≡ lowest (map entry_of (take i xs)) → o ≡ Some m → r ≡ min x.sum m → Some r ≡ lowest (map entry_of (take (i + 1) xs))
  lowest_some o m r low some less = ap Some less ∙ ap (lower_of x.sum) (sym some) ∙ lowest_step o low

  pub right_step : (f : Entry → Entry) (es : List Entry) (e : Entry) → e ≡ f (entry_of x)
      → (es ++ map f (map entry_of (take i xs))) ++ e ∷ [] ≡ es ++ map f (map entry_of (take (i + 1) xs))
  right_step f es e same =
      append_assoc es (map f (map entry_of (take i xs))) (e ∷ [])
      ∙ ap (λ ys. es ++ ys) (ap (λ y. map f (map entry_of (take i xs)) ++ y ∷ []) same ∙ sym (ap (map f) entries_step ∙ map-push f (map entry_of (take i xs)) (entry_of x)))

  pub left_step : (c : Costs) (op : Operator) (rs : List Entry)
      → combined c op (map entry_of (take i xs)) rs ++ map (joined_entry c op (entry_of x)) rs ≡ combined c op (map entry_of (take (i + 1) xs)) rs
  left_step c op rs =
      sym (ap (λ ls. combined c op ls rs) entries_step
      ∙ flat_map-append (λ a. map (joined_entry c op a) rs) (map entry_of (take i xs)) (entry_of x ∷ [])
      ∙ ap (λ ys. combined c op (map entry_of (take i xs)) rs ++ ys) (append-nil (map (joined_entry c op (entry_of x)) rs)))
