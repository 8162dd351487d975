-- Nets whose numbers are known.
use Rattle.std.proofs.Common.{◌≡◌, ◌<◌, ℕ, Bool, true, false, if◌then◌else◌, List, [], Some, slice_get, length, take, max, ◌+◌, nat_eq, sym, ap, ◌∙◌, subst, arith}
use Rattle.std.specs.List.{IsDistinct}
use Rattle.std.specs.Cmp.Lexicographic.{pointwise}
use Rattle.std.proofs.lemmas.List.{take_all}
use Rattle.std.proofs.lemmas.Option.{get_or_from_slice_get, slice_get_within}
use Rattle.deck.specs.Nets.{net_name, net_number, with_net}
use Rattle.deck.proofs.NetNumbers.{IsDistinct-with_net, net_number-take, with_net-take}

-- where a net stands at a number, this is its number
pub known_number : (nets : List (List ℕ)) (name : List ℕ) (i : ℕ) → IsDistinct (pointwise nat_eq) nets → slice_get nets i ≡ Some name
    → net_number nets name ≡ i
known_number nets name i apart at =
    let low : i < length nets = slice_get_within nets i name at in
    let is : net_name nets i ≡ name = get_or_from_slice_get nets i name [] at in
    let all : take (length nets) nets ≡ nets = take_all (length nets) nets (omega arith) in
    sym (λ j. net_number (all j) (is j)) ∙ net_number-take nets apart (length nets) i (omega arith) low

-- and it isn't added again
pub known_net : (nets : List (List ℕ)) (name : List ℕ) (i : ℕ) → IsDistinct (pointwise nat_eq) nets → slice_get nets i ≡ Some name
    → with_net nets name ≡ nets
known_net nets name i apart at =
    let low : i < length nets = slice_get_within nets i name at in
    let is : net_name nets i ≡ name = get_or_from_slice_get nets i name [] at in
    let all : take (length nets) nets ≡ nets = take_all (length nets) nets (omega arith) in
    let most : max (length nets) (i + 1) ≡ length nets = omega arith in
    sym (λ j. with_net (all j) (is j)) ∙ with_net-take nets apart (length nets) i (omega arith) low ∙ ap (λ (n : ℕ). take n nets) most ∙ all

-- names stay apart whether a net was added or not
pub distinct_either : (b : Bool) (nets : List (List ℕ)) (name : List ℕ) (after : List (List ℕ)) → after ≡ (if b then with_net nets name else nets)
    → IsDistinct (pointwise nat_eq) nets → IsDistinct (pointwise nat_eq) after
distinct_either true nets name after is apart = subst (IsDistinct (pointwise nat_eq)) (sym is) (IsDistinct-with_net nets name apart)
distinct_either false nets name after is apart = subst (IsDistinct (pointwise nat_eq)) (sym is) apart

pub ruleset known_numbers = (known_number, known_net)
