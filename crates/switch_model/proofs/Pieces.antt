-- Lists in pieces.
use Rattle.std.proofs.Common.{◌≡◌, ℕ, zero, suc, ◌+◌, ◌-◌, ◌<◌, ◌≤◌, List, [], ◌∷◌, ◌++◌, length, get_or, take, drop, take_all, refl, sym, ap, ◌∙◌, arith}
use Rattle.std.specs.List.{slice_range}
use Rattle.std.proofs.Math.Seq.{drop-append_seam}
use Rattle.std.proofs.lemmas.List.{drop-append-le, length-drop, take-append-le}
use Rattle.switch_model.specs.Pieces.{RisesUpTo, pieces}

pub rises-within : (a : ℕ) (starts : List ℕ) (end : ℕ) → RisesUpTo (a ∷ starts) end → a ≤ end
rises-within a [] end r = omega (arith, r)
rises-within a (b ∷ starts) end r = omega (arith, r.0, rises-within b starts end r.1)

pub rises-push : (starts : List ℕ) (end more : ℕ) → RisesUpTo starts end → end ≤ more → RisesUpTo (starts ++ more ∷ []) more
rises-push [] end more r le = absurd r
rises-push (a ∷ []) end more r le = (omega (arith, r, le), refl)
rises-push (a ∷ b ∷ starts) end more r le = (r.0, rises-push (b ∷ starts) end more r.1 le)

-- an element behind the first
later : (a : ℕ) (xs : List ℕ) (k : ℕ) → get_or (a ∷ xs) (suc k + 1) 0 ≡ get_or xs (k + 1) 0
later a xs k = ap (λ i. get_or (a ∷ xs) i 0) {x = suc k + 1} {y = suc (k + 1)} (omega arith)

-- two starts that follow each other
pub rises-at : (starts : List ℕ) (end k : ℕ) → RisesUpTo starts end → k + 1 < length starts → (get_or starts k 0 ≤ get_or starts (k + 1) 0) × (get_or starts (k + 1) 0 ≤ end)
rises-at [] end k r lt = absurd r
rises-at (a ∷ []) end k r lt = absurd (omega (arith, lt))
rises-at (a ∷ b ∷ starts) end zero r lt = (r.0, rises-within b starts end r.1)
rises-at (a ∷ b ∷ starts) end (suc k) r lt =
    let z = rises-at (b ∷ starts) end k r.1 (omega (arith, lt)) in
    let next = later a (b ∷ starts) k in
    (omega (arith, z.0, next), omega (arith, z.1, next))

pub pieces-length : (starts xs : List ℕ) (end : ℕ) → RisesUpTo starts end → length (pieces starts xs) + 1 ≡ length starts
pieces-length [] xs end r = absurd r
pieces-length (a ∷ []) xs end r = refl
pieces-length (a ∷ b ∷ starts) xs end r = omega (arith, pieces-length (b ∷ starts) xs end r.1)

pub pieces-at : (starts xs : List ℕ) (k : ℕ) → k + 1 < length starts → get_or (pieces starts xs) k [] ≡ slice_range xs (get_or starts k 0) (get_or starts (k + 1) 0)
pieces-at [] xs k lt = absurd (omega (arith, lt))
pieces-at (a ∷ []) xs k lt = absurd (omega (arith, lt))
pieces-at (a ∷ b ∷ starts) xs zero lt = refl
pieces-at (a ∷ b ∷ starts) xs (suc k) lt =
    pieces-at (b ∷ starts) xs k (omega (arith, lt)) ∙ ap (slice_range xs (get_or (b ∷ starts) k 0)) (sym (later a (b ∷ starts) k))

-- one piece more at the end
pub pieces-push : (starts xs ys : List ℕ) → RisesUpTo starts (length xs) → pieces (starts ++ (length xs + length ys) ∷ []) (xs ++ ys) ≡ pieces starts xs ++ ys ∷ []
pieces-push [] xs ys r = absurd r
pieces-push (a ∷ []) xs ys r = ap (λ p. p ∷ []) (ap (λ n. slice_range (xs ++ ys) n (length xs + length ys)) r ∙ whole)
  where
    whole : slice_range (xs ++ ys) (length xs) (length xs + length ys) ≡ ys
    whole = ap (take (length xs + length ys - length xs)) (drop-append_seam xs ys) ∙ take_all (length xs + length ys - length xs) ys (omega arith)
pieces-push (a ∷ b ∷ starts) xs ys r =
    let le : b ≤ length xs = rises-within b starts (length xs) r.1 in
    let first : slice_range (xs ++ ys) a b ≡ slice_range xs a b =
    ap (take (b - a)) (drop-append-le a xs ys (omega (arith, r.0, le))) ∙ take-append-le (b - a) (drop a xs) ys (omega (arith, length-drop a xs, r.0, le)) in
    let rest = pieces-push (b ∷ starts) xs ys r.1 in
    ap (λ p. p ∷ pieces (b ∷ starts ++ (length xs + length ys) ∷ []) (xs ++ ys)) first ∙ ap (λ ps. slice_range xs a b ∷ ps) rest
