-- Lists of sinks and of cells, item by item.
use Rattle.std.proofs.Common.{◌≡◌, ℕ, zero, suc, ◌+◌, ◌≤◌, ◌<◌, Bool, List, [], ◌∷◌, ◌++◌, length, map, take, zip, get_or, Some, slice_get, refl, ap, ◌∙◌, arith, add-one}
use Rattle.dom_base.proofs.Lists.{map-push}
use Rattle.std.proofs.lemmas.Option.{slice_get-get_or}
use Rattle.synth_flow.specs.SinkParts.{phase_of_sink}
use Rattle.synth_flow.proofs.LoopItems.{item_at}

zip_more : {X Y : Type 0} (xs : List X) (ys : List Y) (k : ℕ) (x : X) (y : Y) → slice_get xs k ≡ Some x → slice_get ys k ≡ Some y
    → take (suc k) (zip xs ys) ≡ take k (zip xs ys) ++ (x, y) ∷ []
zip_more [] ys k x y a b = absurd (cc)
zip_more (u ∷ xs) [] k x y a b = absurd (cc)
zip_more (u ∷ xs) (v ∷ ys) zero x y a b = let one : u ≡ x = cc in let two : v ≡ y = cc in λ i. (one i, two i) ∷ []
zip_more (u ∷ xs) (v ∷ ys) (suc k) x y a b = ap (λ l. (u, v) ∷ l) (zip_more xs ys k x y a b)

-- one more phase
pub phases_more : (nets : List (List ℕ)) (signs : List Bool) (k : ℕ) (net : List ℕ) (d : Bool) → k < length nets → k < length signs → net ≡ get_or nets k net
    → map phase_of_sink (take (k + 1) (zip nets signs)) ≡ map phase_of_sink (take k (zip nets signs)) ++ record { net = net; plus = get_or signs k d } ∷ []
phases_more nets signs k net d low few is =
    ap (λ n. map phase_of_sink (take n (zip nets signs))) (add-one k)
    ∙ ap (map phase_of_sink) (zip_more nets signs k net (get_or signs k d) (item_at nets k net low is) (slice_get-get_or signs k d few))
    ∙ map-push phase_of_sink (take k (zip nets signs)) (net, get_or signs k d)

-- the phases of all
pub all_zipped : {X Y : Type 0} (xs : List X) (ys : List Y) (k : ℕ) → length xs ≤ k → take k (zip xs ys) ≡ zip xs ys
all_zipped [] ys zero low = refl
all_zipped [] ys (suc k) low = refl
all_zipped (x ∷ xs) [] zero low = refl
all_zipped (x ∷ xs) [] (suc k) low = refl
all_zipped (x ∷ xs) (y ∷ ys) zero low = absurd (omega arith)
all_zipped (x ∷ xs) (y ∷ ys) (suc k) low = ap (λ l. (x, y) ∷ l) (all_zipped xs ys k (omega arith))
