-- The last element of a list of which each element has an image.
use Rattle.std.proofs.Common.{◌≡◌, List, [], ◌∷◌, ◌++◌, map, Some, Option, refl, ap}

-- where the images of a list and of one element more are these elements, that one's image is the last
pub last_image : {X Y : Type 0} (g : X → Option Y) (xs : List X) (x : X) (ys : List Y) → map g (xs ++ x ∷ []) ≡ map Some ys
    → (front : List Y) × (y : Y) × (ys ≡ front ++ y ∷ []) × (map g xs ≡ map Some front) × (g x ≡ Some y)
last_image g [] x [] e = absurd cc
last_image g [] x (y ∷ []) e = let i : g x ≡ Some y = cc in ([], y, refl, refl, i)
last_image g [] x (y ∷ z ∷ ys) e = absurd cc
last_image g (u ∷ xs) x [] e = absurd cc
last_image g (u ∷ xs) x (y ∷ ys) e =
    let i : g u ≡ Some y = cc in
    let d : map g (xs ++ x ∷ []) ≡ map Some ys = cc in
    let h = last_image g xs x ys d in
    let rest : map g xs ≡ map Some h.0 = h.3 in
    (y ∷ h.0, h.1, ap (λ l. y ∷ l) h.2, cc, h.4)
