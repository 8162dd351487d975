-- Lists of one length one behind the other: how many there are, one more, and one of them.
use Rattle.std.proofs.Common.{◌≡◌, ℕ, zero, suc, ◌<◌, ◌≤◌, ◌+◌, ◌*◌, List, [], ◌∷◌, ◌++◌, length, take, drop, refl, sym, ap, ◌∙◌, arith}
use Rattle.std.specs.Prelude.{Some, slice_get}
use Rattle.std.proofs.Math.Nat.{mul-le-mul_right, suc-mul, zero-mul}
use Rattle.std.proofs.lemmas.List.{drop-append-le, length-drop, take-append-le, take_all}
use Rattle.stim_text.specs.Rows.{rows}

pub length-rows : {X : Type 0} (width count : ℕ) (items : List X) → length (rows width count items) ≡ count
length-rows width zero items = refl
length-rows width (suc count) items = ap suc (length-rows width count (drop width items))

pub rows-push : {X : Type 0} (width count : ℕ) (items row : List X) → length items ≡ count * width → length row ≡ width
    → rows width (count + 1) (items ++ row) ≡ rows width count items ++ row ∷ []
rows-push width zero [] row long wide =
    let one : 0 + 1 ≡ suc zero = omega arith in
    ap (λ n. rows width n row) one ∙ ap (λ l. l ∷ []) (take_all width row (omega (arith, wide)))
rows-push width zero (x ∷ items) row long wide = absurd (omega (arith, long, zero-mul width))
rows-push width (suc count) items row long wide =
    let more = suc-mul count width in
    let enough : width ≤ length items = omega (arith, long, more) in
    let left : length (drop width items) ≡ count * width = omega (arith, length-drop width items, long, more) in
    let next : suc count + 1 ≡ suc (count + 1) = omega arith in
    ap (λ n. rows width n (items ++ row)) next
    ∙ ap (λ l. l ∷ rows width (count + 1) (drop width (items ++ row))) (take-append-le width items row enough)
    ∙ ap (λ l. take width items ∷ rows width (count + 1) l) (drop-append-le width items row enough)
    ∙ ap (λ l. take width items ∷ l) (rows-push width count (drop width items) row left wide)

-- one more list has room where it is below the count
pub row_within : (width count index : ℕ) → index < count → index * width + width ≤ count * width
row_within width count index within =
    let below : suc index ≤ count = omega (arith, within) in
    omega (arith, mul-le-mul_right width below, suc-mul index width)

drop_none : {X : Type 0} (n : ℕ) → drop {A = X} n [] ≡ []
drop_none zero = refl
drop_none (suc n) = refl

drop_both : {X : Type 0} (first more : ℕ) (items : List X) → drop more (drop first items) ≡ drop (first + more) items
drop_both zero more items = let n : more ≡ 0 + more = omega arith in ap (λ n. drop n items) n
drop_both (suc first) more [] = drop_none more ∙ sym (drop_none (suc first + more))
drop_both (suc first) more (x ∷ items) = drop_both first more items ∙ ap (λ n. drop n (x ∷ items)) (let n : suc (first + more) ≡ suc first + more = omega arith in n)

pub rows-get : {X : Type 0} (width count : ℕ) (items : List X) (index : ℕ) → index < count
    → slice_get (rows width count items) index ≡ Some (take width (drop (index * width) items))
rows-get width zero items index within = absurd (omega (arith, within))
rows-get width (suc count) items zero within = ap (λ n. Some (take width (drop n items))) (sym (zero-mul width))
rows-get width (suc count) items (suc index) within =
    rows-get width count (drop width items) index (omega (arith, within))
    ∙ ap (λ l. Some (take width l)) (drop_both width (index * width) items ∙ ap (λ n. drop n items) (let n : width + index * width ≡ suc index * width = omega (arith, suc-mul index width) in n))
