-- What is passed for a net of a called subcircuit: for a port the net at its place, for any other an inner name.
use Rattle.std.proofs.Common.{◌≡◌, ◌<◌, ◌≤◌, ℕ, zero, suc, ◌+◌, Bool, true, false, List, [], ◌∷◌, ◌++◌, length, take, refl, sym, ap, ◌∙◌, arith, nat_eq}
use Rattle.std.specs.Cmp.Lexicographic.{pointwise, bytes_decides}
use Rattle.deck.specs.Nets.{net_name, net_number}
use Rattle.deck.specs.Subckts.{passed_net}

-- two names are the same in either order
same_back : (a b : List ℕ) (t : Bool) → pointwise nat_eq a b ≡ t → pointwise nat_eq b a ≡ t
same_back a b true e = (bytes_decides b a).1 (sym ((bytes_decides a b).0 e))
same_back a b false e = by (pointwise nat_eq b a) refl
  where
    by : (t : Bool) → pointwise nat_eq b a ≡ t → pointwise nat_eq b a ≡ false
    by false f = f
    by true f =
        let same : pointwise nat_eq a b ≡ true = (bytes_decides a b).1 (sym ((bytes_decides b a).0 f)) in
        let never : true ≡ false = sym same ∙ e in
        absurd (let none : ⊥ = cc in none)

pub passed_port : (call : List ℕ) (nets : List (List ℕ)) (count : ℕ) (passed : List (List ℕ)) (own : List ℕ)
    → length passed ≡ count → net_number nets own < count → net_number nets own < length nets
    → passed_net call (take count nets) passed own ≡ net_name passed (net_number nets own)
passed_port call [] count passed own same low there = absurd (omega arith)
passed_port call (n ∷ ns) zero passed own same low there = absurd (omega arith)
passed_port call (n ∷ ns) (suc count) [] own same low there = absurd (omega arith)
passed_port call (n ∷ ns) (suc count) (p ∷ ps) own same low there = by (pointwise nat_eq own n) refl (λ s l t. passed_port call ns count ps own s l t)
  where
    by : (t : Bool) → pointwise nat_eq own n ≡ t
        → (length ps ≡ count → net_number ns own < count → net_number ns own < length ns → passed_net call (take count ns) ps own ≡ net_name ps (net_number ns own))
        → passed_net call (take (suc count) (n ∷ ns)) (p ∷ ps) own ≡ net_name (p ∷ ps) (net_number (n ∷ ns) own)
    by true e rest = let back = same_back own n true e in rw (e, back) refl
    by false e rest =
        let back = same_back own n false e in
        let next : 1 + net_number ns own ≡ suc (net_number ns own) = omega arith in
        let number : net_number (n ∷ ns) own ≡ suc (net_number ns own) = rw e next in
        rw back (rest (omega (arith, same)) (omega (arith, low, number)) (omega (arith, there, number))
        ∙ sym (ap (net_name (p ∷ ps)) number))

pub passed_inner : (call : List ℕ) (nets : List (List ℕ)) (count : ℕ) (passed : List (List ℕ)) (own : List ℕ)
    → count ≤ net_number nets own → passed_net call (take count nets) passed own ≡ call ++ 46 ∷ own
passed_inner call [] zero passed own high = refl
passed_inner call [] (suc count) passed own high = refl
passed_inner call (n ∷ ns) zero passed own high = refl
passed_inner call (n ∷ ns) (suc count) [] own high = refl
passed_inner call (n ∷ ns) (suc count) (p ∷ ps) own high = by (pointwise nat_eq own n) refl (λ h. passed_inner call ns count ps own h)
  where
    by : (t : Bool) → pointwise nat_eq own n ≡ t → (count ≤ net_number ns own → passed_net call (take count ns) ps own ≡ call ++ 46 ∷ own)
        → passed_net call (take (suc count) (n ∷ ns)) (p ∷ ps) own ≡ call ++ 46 ∷ own
    by true e rest = let first : net_number (n ∷ ns) own ≡ 0 = rw e refl in absurd (omega (arith, high, first))
    by false e rest =
        let back = same_back own n false e in
        let next : 1 + net_number ns own ≡ suc (net_number ns own) = omega arith in
        let number : net_number (n ∷ ns) own ≡ suc (net_number ns own) = rw e next in
        rw back (rest (omega (arith, high, number)))
