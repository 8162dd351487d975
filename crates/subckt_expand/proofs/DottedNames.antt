-- Names with a `.` are no ports of a subcircuit whose ports have none.
use Rattle.std.proofs.Common.{◌≡◌, ◌≤◌, ℕ, zero, suc, ◌+◌, ◌==◌, Bool, true, false, List, [], ◌∷◌, ◌++◌, length, take, refl, sym, ap, ◌∙◌, arith, nat_eq}
use Rattle.std.specs.Cmp.Lexicographic.{pointwise, bytes_decides}
use Rattle.std.proofs.lemmas.Bool.{true≢false}
use Rattle.deck.specs.Nets.{net_number}
use Rattle.subckt_expand.specs.Definitions.{has_dot, has_dotted}

-- the name of an inner net has one
pub dot_inside : (call own : List ℕ) → has_dot (call ++ 46 ∷ own) ≡ true
dot_inside [] own = refl
dot_inside (c ∷ call) own = by (c == 46) refl (dot_inside call own)
  where
    by : (t : Bool) → (c == 46) ≡ t → has_dot (call ++ 46 ∷ own) ≡ true → has_dot (c ∷ call ++ 46 ∷ own) ≡ true
    by true e rest = rw e refl
    by false e rest = rw e rest

pub dotted_high : (nets : List (List ℕ)) (count : ℕ) (own : List ℕ) → count ≤ length nets → has_dotted (take count nets) ≡ false → has_dot own ≡ true
    → count ≤ net_number nets own
dotted_high nets zero own le none dot = omega arith
dotted_high [] (suc count) own le none dot = absurd (omega (arith, le))
dotted_high (n ∷ ns) (suc count) own le none dot = by (has_dot n) refl (pointwise nat_eq own n) refl (λ h. dotted_high ns count own (omega (arith, le)) h dot)
  where
    by : (u : Bool) → has_dot n ≡ u → (t : Bool) → pointwise nat_eq own n ≡ t → (has_dotted (take count ns) ≡ false → count ≤ net_number ns own) → suc count ≤ net_number (n ∷ ns) own
    by true d t e rest = absurd (true≢false (let found : has_dotted (take (suc count) (n ∷ ns)) ≡ true = rw d refl in sym found ∙ none))
    by false d true e rest =
        let same : own ≡ n = (bytes_decides own n).0 e in
        absurd (true≢false (sym dot ∙ ap has_dot same ∙ d))
    by false d false e rest =
        let left : has_dotted (take (suc count) (n ∷ ns)) ≡ has_dotted (take count ns) = rw d refl in
        let next : net_number (n ∷ ns) own ≡ 1 + net_number ns own = rw e refl in
        omega (arith, rest (sym left ∙ none), next)
