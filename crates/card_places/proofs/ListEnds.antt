-- Lists of numbers in one list: what stands at an index, and what a number more or a list more makes of them.
use Rattle.std.proofs.Common.{◌≡◌, ℕ, zero, suc, ◌≤◌, ◌+◌, List, [], ◌∷◌, ◌++◌, length, take, drop, Some, refl, sym, ap, ◌∙◌, subst, arith}
use Rattle.std.specs.Prelude.{slice_get, slice_index_or}
use Rattle.std.proofs.lemmas.List.{drop_all, drop-append-le, length-append}
use Rattle.graph_order.proofs.Lists.{take_next}
use Rattle.numbered_file.specs.Numbered.{between}
use Rattle.numbered_file.proofs.Growth.{between-grows, between-last}
use Rattle.card_places.specs.NumberLists.{closed, last_end, lists_by, lists_from, EndsRise, NumberListsData, with_number, with_numbers}

EndsRise-last : (start : ℕ) (ends : List ℕ) (count : ℕ) → EndsRise start ends count → last_end start ends ≤ count
EndsRise-last start [] count h = h
EndsRise-last start (end ∷ ends) count h = EndsRise-last end ends count h.1

EndsRise-starts : (start : ℕ) (ends : List ℕ) (count : ℕ) → EndsRise start ends count → start ≤ count
EndsRise-starts start [] count h = h
EndsRise-starts start (end ∷ ends) count h = omega (arith, h.0, EndsRise-starts end ends count h.1)

EndsRise-grows : (start : ℕ) (ends : List ℕ) (count more : ℕ) → count ≤ more → EndsRise start ends count → EndsRise start ends more
EndsRise-grows start [] count more l h = omega (arith, l, h)
EndsRise-grows start (end ∷ ends) count more l h = (h.0, EndsRise-grows end ends count more l h.1)

EndsRise-push : (start : ℕ) (ends : List ℕ) (end count : ℕ) → EndsRise start ends count → end ≡ count
    → EndsRise start (ends ++ end ∷ []) count
EndsRise-push start [] end count h is = (omega (arith, h, is), omega (arith, is))
EndsRise-push start (e ∷ ends) end count h is = (h.0, EndsRise-push e ends end count h.1 is)

last_end-push : (start : ℕ) (ends : List ℕ) (end : ℕ) → last_end start (ends ++ end ∷ []) ≡ end
last_end-push start [] end = refl
last_end-push start (e ∷ ends) end = last_end-push e ends end

lists-grow : (items more : List ℕ) (start : ℕ) (ends : List ℕ) → EndsRise start ends (length items)
    → lists_from (items ++ more) start ends ≡ lists_from items start ends
lists-grow items more start [] h = refl
lists-grow items more start (end ∷ ends) h =
    λ i. between-grows start end items more h.0 (EndsRise-starts end ends (length items) h.1) i ∷ lists-grow items more end ends h.1 i

lists-push : (items : List ℕ) (start : ℕ) (ends : List ℕ) (end : ℕ)
    → lists_from items start (ends ++ end ∷ []) ≡ lists_from items start ends ++ between (last_end start ends) end items ∷ []
lists-push items start [] end = refl
lists-push items start (e ∷ ends) end = ap (λ l. between start e items ∷ l) (lists-push items e ends end)

-- the list of an index
pub list-there : (items : List ℕ) (start : ℕ) (ends : List ℕ) (k end : ℕ) → slice_get ends k ≡ Some end
    → slice_get (lists_from items start ends) k ≡ Some (between (last_end start (take k ends)) end items)
list-there items start [] k end at = absurd cc
list-there items start (e ∷ ends) zero end at = let is : e ≡ end = cc in ap (λ n. Some (between start n items)) is
list-there items start (e ∷ ends) (suc k) end at = list-there items e ends k end at

pub list-none : (items : List ℕ) (start : ℕ) (ends : List ℕ) (k : ℕ) → length ends ≤ k
    → slice_index_or (lists_from items start ends) k [] ≡ []
list-none items start [] k past = refl
list-none items start (end ∷ ends) zero past = absurd (omega (arith, past))
list-none items start (end ∷ ends) (suc k) past = list-none items end ends k (omega (arith, past))

-- where the list behind an index begins
pub last-before : (ends : List ℕ) (k end : ℕ) → slice_get ends k ≡ Some end → last_end 0 (take (k + 1) ends) ≡ end
last-before ends k end at = ap (last_end 0) (take_next ends k end at) ∙ last_end-push 0 (take k ends) end

-- the lists before and after; what is seen of them before is this
module _ (items ends : List ℕ) (before : NumberListsData) (h : EndsRise 0 ends (length items)) (seen : lists_by items ends ≡ before) where
  module _ (numbers after : List ℕ) (extended : after ≡ items ++ numbers) where
    pub extend-rise : EndsRise 0 ends (length after)
    extend-rise = EndsRise-grows 0 ends (length items) (length after) (omega (arith, ap length extended, length-append items numbers)) h

    pub extend-lists : lists_by after ends ≡ with_numbers before numbers
    extend-lists = ap (λ l. lists_by l ends) extended
        ∙ (λ i. record {
          lists = lists-grow items numbers 0 ends h i;
          next = drop-append-le (last_end 0 ends) items numbers (EndsRise-last 0 ends (length items) h) i;
        })
        ∙ ap (λ b. with_numbers b numbers) seen

  module _ (number : ℕ) (after : List ℕ) (pushed : after ≡ items ++ number ∷ []) where
    pub push-rise : EndsRise 0 ends (length after)
    push-rise = extend-rise (number ∷ []) after pushed

    pub push-lists : lists_by after ends ≡ with_number before number
    push-lists = extend-lists (number ∷ []) after pushed

  module _ (end : ℕ) (after : List ℕ) (is : end ≡ length items) (pushed : after ≡ ends ++ end ∷ []) where
    pub close-rise : EndsRise 0 after (length items)
    close-rise = subst (λ l. EndsRise 0 l (length items)) (sym pushed) (EndsRise-push 0 ends end (length items) h is)

    pub close-lists : lists_by items after ≡ closed before
    close-lists = ap (lists_by items) pushed
        ∙ (λ i. record {
          lists = (lists-push items 0 ends end ∙ ap (λ l. lists_from items 0 ends ++ l ∷ []) (between-last (last_end 0 ends) end items is))
              i;
          next = (ap (λ n. drop n items) (last_end-push 0 ends end) ∙ drop_all end items (omega (arith, is))) i;
        })
        ∙ ap closed seen
