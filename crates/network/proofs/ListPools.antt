-- Lists that stand in one list of all their items.
use Rattle.std.proofs.Common.{◌≡◌, List, [], ◌∷◌, ◌++◌, map, take, drop, length, ap, sym, ◌∙◌, arith}
use Rattle.std.proofs.Math.Seq.{drop-append_seam, take-length}
use Rattle.std.proofs.lemmas.List.{drop-append-le, drop-map, length-drop, map-append, take-append-le, take-map}
use Rattle.std.proofs.lemmas.List.Elements.{recursion_from_All}
use Rattle.dom_base.proofs.Lists.{AllByRecursion-weaker}
use Rattle.network.specs.declared.list_pool.ListAt.{ListAt}
use Rattle.network.specs.ListPools.{ArePlacesWithin, IsPlaceWithin, list_in, lists_in}
use Rattle.network.proofs.Lists.{map_same}

module _ {X : Type 0} (xs ys : List X) where
  -- items behind change no list before them
  pub list_in-append : (at : ListAt) → IsPlaceWithin (length xs) at → list_in (xs ++ ys) at ≡ list_in xs at
  list_in-append at within =
      ap (take at.count) (drop-append-le at.start xs ys (omega (arith, within)))
      ∙ take-append-le at.count (drop at.start xs) ys (omega (arith, within, length-drop at.start xs))

  pub lists_in-append : (places : List ListAt) → ArePlacesWithin (length xs) places → lists_in (xs ++ ys) places ≡ lists_in xs places
  lists_in-append places within = map_same (list_in (xs ++ ys)) (list_in xs) places
      (AllByRecursion-weaker (IsPlaceWithin (length xs)) (λ at. list_in (xs ++ ys) at ≡ list_in xs at) list_in-append places
      (recursion_from_All (IsPlaceWithin (length xs)) places within))

  -- a list of items behind
  pub list_behind : (at : ListAt) → at.start ≡ length xs → at.count ≡ length ys → list_in (xs ++ ys) at ≡ ys
  list_behind at start count =
      ap (λ n. take n (drop at.start (xs ++ ys))) count
      ∙ ap (λ n. take (length ys) (drop n (xs ++ ys))) start
      ∙ ap (take (length ys)) (drop-append_seam xs ys) ∙ take-length ys

  -- a list more
  pub pushed_list : (places : List ListAt) (at : ListAt) → ArePlacesWithin (length xs) places → at.start ≡ length xs → at.count ≡ length ys
      → lists_in (xs ++ ys) (places ++ at ∷ []) ≡ lists_in xs places ++ ys ∷ []
  pushed_list places at within start count =
      map-append (list_in (xs ++ ys)) places (at ∷ [])
      ∙ (λ i. lists_in-append places within i ++ list_behind at start count i ∷ [])

-- the lists at a place are those at the places that stand there
pub map-list_in : {X Y : Type 0} (f : X → Y) (xs : List X) (at : ListAt) → map f (list_in xs at) ≡ list_in (map f xs) at
map-list_in f xs at = sym (ap (take at.count) (drop-map f at.start xs) ∙ take-map f at.count (drop at.start xs))
