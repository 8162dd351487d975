-- The tables and latches of a network, one by one.
use Rattle.std.proofs.Common.{◌≡◌, ℕ, ◌<◌, ◌+◌, not, true, false, List, [], ◌∷◌, ◌++◌, append-nil, length, map, take, Option, Some, None, refl, ap, sym, ◌∙◌, cond}
use Rattle.std.specs.Prelude.{All, IsSome, option_and_then, slice_get}
use Rattle.std.proofs.lemmas.Bool.{true≢false}
use Rattle.std.proofs.lemmas.List.Elements.{All-contains}
use Rattle.std.proofs.lemmas.Option.{slice_get_within}
use Rattle.dom_base.proofs.Lists.{All-at, Contains-slice_get, map-push}
use Rattle.blif_ast.specs.BlifFileData.{BlifFileData}
use Rattle.network.specs.declared.network.NetLatch.{NetLatch}
use Rattle.net_flatten.specs.declared.table_order.LevelledTable.{LevelledTable}
use Rattle.net_flatten.specs.Dependences.{is_table}
use Rattle.network.specs.NetworkData.{NetTableData}
use Rattle.net_flatten.specs.NetworkNumbers.{latches_among}
use Rattle.net_flatten.specs.NetworkParts.{latch_in_network, levelled_in_network, table_in_network}
use Rattle.part_numbers.specs.NumberedFiles.{NumberedPartData}
use Rattle.network.proofs.IndexedLists.{take_next}
use Rattle.net_flatten.proofs.NetworkOrder.{contains_kept}
use Rattle.net_flatten.proofs.TableNumbers.{filter-append}

-- one more element with its image
image_next : {X Y : Type 0} (g : X → Option Y) (ys : List Y) (xs : List X) (x : X) (y : Y) → map Some ys ≡ map g xs → g x ≡ Some y
    → map Some (ys ++ y ∷ []) ≡ map g (xs ++ x ∷ [])
image_next g ys xs x y e is = map-push Some ys y ∙ ap (λ l. l ++ Some y ∷ []) e ∙ ap (λ o. map g xs ++ o ∷ []) (sym is)
    ∙ sym (map-push g xs x)

module _ (f : BlifFileData) (places : List ℕ) (parts : List NumberedPartData) where
  pub tables_next : (ordered : List LevelledTable) (index : ℕ) (t : LevelledTable) (tables more : List NetTableData)
      → slice_get ordered index ≡ Some t → map Some more ≡ map Some tables ++ levelled_in_network f places parts t ∷ []
      → map Some tables ≡ map (levelled_in_network f places parts) (take index ordered)
      → map Some more ≡ map (levelled_in_network f places parts) (take (index + 1) ordered)
  tables_next ordered index t tables more at is e =
      is ∙ ap (λ l. l ++ levelled_in_network f places parts t ∷ []) e
      ∙ sym (map-push (levelled_in_network f places parts) (take index ordered) t)
      ∙ ap (map (levelled_in_network f places parts)) (sym (take_next ordered index t at))

  module _ (index : ℕ) (p : NumberedPartData) (at : slice_get parts index ≡ Some p) where
    among_next : latches_among (take (index + 1) parts) ≡ latches_among (take index parts) ++ latches_among (p ∷ [])
    among_next = ap latches_among (take_next parts index p at)
        ∙ filter-append (λ (q : NumberedPartData). not (is_table q.card)) (take index parts) (p ∷ [])

    pub latch_there : is_table p.card ≡ false → All (λ p. IsSome (latch_in_network f places p)) (latches_among parts)
        → IsSome (latch_in_network f places p)
    latch_there latch_card all = All-contains (λ q. IsSome (latch_in_network f places q)) (latches_among parts) p all
        (contains_kept (λ (q : NumberedPartData). not (is_table q.card)) parts p (Contains-slice_get parts index p at) (ap not latch_card))

    pub latches_next : is_table p.card ≡ false → (latches : List NetLatch) (latch : NetLatch) → latch_in_network f places p ≡ Some latch
        → map Some latches ≡ map (latch_in_network f places) (latches_among (take index parts))
        → map Some (latches ++ latch ∷ []) ≡ map (latch_in_network f places) (latches_among (take (index + 1) parts))
    latches_next latch_card latches latch is e =
        image_next (latch_in_network f places) latches (latches_among (take index parts)) p latch e is
        ∙ ap (map (latch_in_network f places)) (ap (λ b. latches_among (take index parts) ++ cond (not b) (p ∷ []) []) (sym latch_card) ∙ sym among_next)

    pub latches_stay : is_table p.card ≡ true → (latches : List NetLatch)
        → map Some latches ≡ map (latch_in_network f places) (latches_among (take index parts))
        → map Some latches ≡ map (latch_in_network f places) (latches_among (take (index + 1) parts))
    latches_stay table latches e = e ∙ ap (map (latch_in_network f places))
        (sym (append-nil (latches_among (take index parts))) ∙ ap (λ b. latches_among (take index parts) ++ cond (not b) (p ∷ []) []) (sym table) ∙ sym among_next)
