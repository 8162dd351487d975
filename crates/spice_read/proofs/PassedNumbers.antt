-- The numbers of nets that are added in turn.
use Rattle.std.proofs.Common.{◌≡◌, ◌<◌, ℕ, zero, suc, ◌+◌, List, [], ◌∷◌, ◌++◌, length, map, take, slice_index_or, refl, sym, ap, ap₂, ◌∙◌, arith, append-nil}
use Rattle.std.specs.List.{AllByRecursion}
use Rattle.deck.specs.Nets.{net_name, net_number, with_net}
use Rattle.deck.specs.Numbers.{with_all}
use Rattle.deck.proofs.NetNumbers.{Longer, Longer-trans, number_fits, with_net-grows}
use Rattle.subckt_expand.proofs.MoreOpen.{all_longer}
use Rattle.subckt_expand.proofs.MoreParts.{name-kept}
use Rattle.spice_read.specs.ReadSubckts.{numbers_in}

all_grows : (nets names : List (List ℕ)) → Longer nets (with_all nets names)
all_grows nets [] = ([], sym (append-nil nets))
all_grows nets (n ∷ names) = Longer-trans nets (with_net nets n) (with_all (with_net nets n) names) (with_net-grows nets n) (all_grows (with_net nets n) names)

-- each number is that of a net
pub numbers_there : (nets names : List (List ℕ)) → AllByRecursion (λ net. net < length (with_all nets names)) (numbers_in nets names)
numbers_there nets [] = tt
numbers_there nets (n ∷ names) =
    let fits = number_fits nets n in
    (omega (arith, fits.length_then, all_longer (with_net nets n) names), numbers_there (with_net nets n) names)

-- and the nets of these numbers have these names
pub numbers_named : (nets names : List (List ℕ)) → map (net_name (with_all nets names)) (numbers_in nets names) ≡ names
numbers_named nets [] = refl
numbers_named nets (n ∷ names) =
    ap₂ (λ a b. a ∷ b) (name-kept nets (with_all (with_net nets n) names) n (all_grows (with_net nets n) names)) (numbers_named (with_net nets n) names)

pub numbers_count : (nets names : List (List ℕ)) → length (numbers_in nets names) ≡ length names
numbers_count nets [] = refl
numbers_count nets (n ∷ names) = omega (arith, numbers_count (with_net nets n) names)

-- one more name, as a loop adds it
numbers-index : {X : Type 0} (f : X → List ℕ) (nets : List (List ℕ)) (xs : List X) (i : ℕ) (d : X) → i < length xs
    → numbers_in nets (map f (take (suc i) xs)) ≡ numbers_in nets (map f (take i xs)) ++ net_number (with_all nets (map f (take i xs))) (f (slice_index_or xs i d)) ∷ []
numbers-index f nets [] i d lt = absurd (omega arith)
numbers-index f nets (y ∷ xs) zero d lt = refl
numbers-index f nets (y ∷ xs) (suc i) d lt = ap (λ l. net_number nets (f y) ∷ l) (numbers-index f (with_net nets (f y)) xs i d (omega arith))

pub numbers-step : {X : Type 0} (f : X → List ℕ) (nets : List (List ℕ)) (xs : List X) (i : ℕ) (d : X) (before after : List ℕ) (here : List (List ℕ)) (number : ℕ) (name : List ℕ)
    → after ≡ before ++ number ∷ [] → number ≡ net_number here name → name ≡ f (slice_index_or xs i d) → here ≡ with_all nets (map f (take i xs)) → before ≡ numbers_in nets (map f (take i xs)) → i < length xs
    → after ≡ numbers_in nets (map f (take (i + 1) xs))
numbers-step f nets xs i d before after here number name is number_is named here_is so_far lt =
    let next : i + 1 ≡ suc i = omega arith in
    let last : number ≡ net_number (with_all nets (map f (take i xs))) (f (slice_index_or xs i d)) = number_is ∙ ap₂ net_number here_is named in
    is ∙ ap₂ (λ a b. a ++ b ∷ []) so_far last ∙ sym (ap (λ (n : ℕ). numbers_in nets (map f (take n xs))) next ∙ numbers-index f nets xs i d lt)
