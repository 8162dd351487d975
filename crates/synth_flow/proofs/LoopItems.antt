-- What loops over lists share.
use Rattle.std.proofs.Common.{◌≡◌, ℕ, ◌<◌, List, [], ◌∷◌, ◌++◌, length, get_or, sym, ap, ◌∙◌, Some, slice_get}
use Rattle.std.proofs.lemmas.Option.{slice_get-get_or}

-- an item that was read at its place
pub item_at : {X : Type 0} (xs : List X) (i : ℕ) (x : X) → i < length xs → x ≡ get_or xs i x → slice_get xs i ≡ Some x
item_at xs i x lt is = slice_get-get_or xs i x lt ∙ ap Some (sym is)

-- an item that was pushed behind the others
pub pushed_item : {X : Type 0} {xs ys zs : List X} {x y : X} → xs ≡ ys ++ x ∷ [] → ys ≡ zs → x ≡ y → xs ≡ zs ++ y ∷ []
pushed_item is same item = is ∙ (λ i. same i ++ item i ∷ [])
