-- Numbers that are kept once each, from the last one on, are those of the names that are kept so.
use Rattle.std.proofs.Common.{◌≡◌, ℕ, ◌≤◌, ◌<◌, ◌⊎◌, inl, inr, Bool, true, false, List, [], ◌∷◌, ◌++◌, length, reverse, set, Some, refl, ap, sym, ◌∙◌, subst, arith, append-nil, append_assoc}
use Rattle.std.specs.Prelude.{Contains, slice_get, if◌then◌else◌}
use Rattle.std.specs.Cmp.Lexicographic.{same_text}
use Rattle.std.specs.List.{AllByRecursion, IsDistinct, list_any}
use Rattle.std.specs.Set.{unique_keys}
use Rattle.std.proofs.lemmas.Bool.{cases_lt, true≢false}
use Rattle.std.proofs.lemmas.Cmp.{nat_list_eq_equiv}
use Rattle.std.proofs.lemmas.List.{length-set, reverse-reverse}
use Rattle.std.proofs.lemmas.Map.Keys.{apart_from_distinct}
use Rattle.std.proofs.lemmas.Map.Views.{list_any-from_Contains}
use Rattle.std.proofs.lemmas.Option.{slice_get_within}
use Rattle.dom_base.proofs.Lists.{AllByRecursion-from_places, AllByRecursion-map, AllByRecursion-reverse, Contains-slice_get, list_any-none, map-push, reverse-cons, slice_get-append, slice_get-contained, slice_get-push_cases, slice_get-set_other}
use Rattle.dom_base.proofs.Names.{names_equal}
use Rattle.blif_ast.specs.Cards.{same}
use Rattle.numbered_file.specs.Numbered.{name_of, named}
use Rattle.graph_order.proofs.Placed.{set_here}
use Rattle.network.proofs.Lists.{get_map}
use Rattle.model_calls.proofs.UniqueNames.{insert_front}
use Rattle.local_names.specs.Places.{AreKept, AreNoted, AreNotedOf, IsIndexed, IsNoted}

module _ (names : List (List ℕ)) (apart : IsDistinct same names) where
  not_same : (a b : ℕ) → a < b → b < length names → name_of names a ≡ name_of names b → ⊥
  not_same a b l within e = true≢false (
      sym (nat_list_eq_equiv.refl (name_of names a)) ∙ ap (same (name_of names a)) e ∙ apart_from_distinct same names a b [] apart l within)

  -- a name has one number
  pub number_once : (a b : ℕ) → a < length names → b < length names → name_of names a ≡ name_of names b → a ≡ b
  number_once a b p q e = by (cases_lt a b) (cases_lt b a)
    where
      by : (a < b) ⊎ (b ≤ a) → (b < a) ⊎ (a ≤ b) → a ≡ b
      by (inl l) _ = absurd (not_same a b l q e)
      by (inr g) (inl l) = absurd (not_same b a l p (sym e))
      by (inr g) (inr h) = omega (arith, g, h)

  module _ (kept after place : List ℕ) (number : ℕ) (count : length names ≡ length place) (noted : IsNoted kept after place number) where
    kept_other : (after ≡ kept ++ number ∷ []) → (Contains kept number → ⊥) → (i n : ℕ) → slice_get kept i ≡ Some n
        → same (name_of names number) (name_of names n) ≡ false
    kept_other is none i n at = by (same (name_of names number) (name_of names n)) refl
      where
        below : n < length names
        below = let l = slice_get_within place n i (noted.indexed i n (subst (λ l. slice_get l i ≡ Some n) (sym is) (slice_get-append kept (number ∷ []) i n at))) in
            omega (arith, l, count)

        by : (b : Bool) → same (name_of names number) (name_of names n) ≡ b → b ≡ false
        by true e =
            let one = number_once number n (omega (arith, noted.within, count)) below (same_text (name_of names number) (name_of names n) (sym e)) in
            absurd (none (subst (Contains kept) (sym one) (Contains-slice_get kept i n at)))
        by false e = refl

    -- what is kept then
    pub names-noted : named names after
        ≡ (if list_any (same (name_of names number)) (named names kept) then named names kept else named names kept ++ name_of names number ∷ [])
    names-noted = elim noted.kept [
      | inl (there, is) ↦
          let at = slice_get-contained kept number there in
          let c : Contains (named names kept) (name_of names number) = Contains-slice_get (named names kept) at.0 _ (get_map (name_of names) kept at.0 number at.1) in
          ap (named names) is
          ∙ ap (λ b. if b then named names kept else named names kept ++ name_of names number ∷ []) (sym (list_any-from_Contains names_equal (name_of names number) (named names kept) c))
      | inr (none, is) ↦
          let each = AllByRecursion-map (λ y. same (name_of names number) y ≡ false) (name_of names) kept
          (AllByRecursion-from_places (λ n. same (name_of names number) (name_of names n) ≡ false) kept (kept_other is none)) in
          ap (named names) is ∙ map-push (name_of names) kept number
          ∙ ap (λ b. if b then named names kept else named names kept ++ name_of names number ∷ []) (sym (list_any-none (same (name_of names number)) (named names kept) each))
    ]

-- nothing goes in
pub noted-none : (count : ℕ) (kept : List ℕ) → AreNotedOf count (λ names. []) kept kept
noted-none count kept names apart known all are = are

-- one number goes in
pub noted-one : (count number : ℕ) (kept after place : List ℕ) → length place ≡ count → IsNoted kept after place number
    → AreNotedOf count (λ names. name_of names number ∷ []) kept after
noted-one count number kept after place long noted names apart known all are =
    names-noted names apart kept after place number (known ∙ sym long) noted
    ∙ ap (λ ks. if list_any (same (name_of names number)) ks then ks else ks ++ name_of names number ∷ []) are
    ∙ insert_front (name_of names number) all

-- names go in, and then others in front of them
pub noted-both : (count : ℕ) (more first : List (List ℕ) → List (List ℕ)) (before middle after : List ℕ) → AreNotedOf count first before middle
    → AreNotedOf count more middle after → AreNotedOf count (λ names. more names ++ first names) before after
noted-both count more first before middle after these those names apart known all are =
    subst (AreKept names after) (sym (append_assoc (more names) (first names) all))
    (those names apart known (first names ++ all) (these names apart known all are))

pub noted-same : (count : ℕ) (more others : List (List ℕ) → List (List ℕ)) (before after : List ℕ) → ((names : List (List ℕ)) → more names ≡ others names)
    → AreNotedOf count more before after → AreNotedOf count others before after
noted-same count more others before after is these names apart known =
    subst (λ ns. AreNoted names ns before after) (is names) (these names apart known)

-- of some numbers those behind the rest have gone in
pub record AreNotedBehind (count : ℕ) (numbers rest before now place : List ℕ) : Type 0 where
  pub count_is : length place ≡ count
  pub indexed : IsIndexed now place
  pub behind : List ℕ
  pub split : rest ++ behind ≡ numbers
  pub noted : AreNotedOf count (λ names. named names behind) before now

pub behind-none : (count : ℕ) (numbers before place : List ℕ) → length place ≡ count → IsIndexed before place
    → AreNotedBehind count numbers numbers before before place
behind-none count numbers before place count_is indexed = record {
  count_is = count_is;
  indexed = indexed;
  behind = [];
  split = append-nil numbers;
  noted = noted-none count before;
}

pub behind-next : (count number : ℕ) (numbers rest shorter before now after old place : List ℕ) → AreNotedBehind count numbers rest before now old
    → rest ≡ shorter ++ number ∷ [] → length place ≡ length old → IsNoted now after place number
    → AreNotedBehind count numbers shorter before after place
behind-next count number numbers rest shorter before now after old place so_far is long noted = record {
  count_is = long ∙ so_far.count_is;
  indexed = noted.indexed;
  behind = number ∷ so_far.behind;
  split = sym (append_assoc shorter (number ∷ []) so_far.behind) ∙ ap (λ l. l ++ so_far.behind) (sym is) ∙ so_far.split;
  noted = noted-both count (λ names. name_of names number ∷ []) (λ names. named names so_far.behind) before now after so_far.noted
      (noted-one count number now after place (long ∙ so_far.count_is) noted);
}

pub behind-all : (count : ℕ) (numbers rest before now place : List ℕ) → AreNotedBehind count numbers rest before now place → rest ≡ []
    → AreNotedOf count (λ names. named names numbers) before now
behind-all count numbers rest before now place so_far none =
    noted-same count (λ names. named names so_far.behind) (λ names. named names numbers) before now
    (λ names. ap (named names) (ap (λ l. l ++ so_far.behind) (sym none) ∙ so_far.split)) so_far.noted

named-reverse : (names : List (List ℕ)) (numbers : List ℕ) → named names (reverse numbers) ≡ reverse (named names numbers)
named-reverse names [] = refl
named-reverse names (n ∷ numbers) = ap (named names) (reverse-cons n numbers) ∙ map-push (name_of names) (reverse numbers) n
    ∙ ap (λ ns. ns ++ name_of names n ∷ []) (named-reverse names numbers) ∙ sym (reverse-cons (name_of names n) (named names numbers))

-- what went in from the last on, from the first on
pub kept-all : (names : List (List ℕ)) (kept found : List ℕ) (all : List (List ℕ)) → AreKept names kept all → found ≡ reverse kept
    → named names found ≡ unique_keys same all
kept-all names kept found all are is =
    ap (named names) is ∙ named-reverse names kept ∙ ap reverse are ∙ reverse-reverse (unique_keys same all)

-- numbers with places are below the count of places
pub kept-below : (kept found place : List ℕ) (count : ℕ) → length place ≡ count → IsIndexed kept place → found ≡ reverse kept
    → AllByRecursion (λ n. n < count) found
kept-below kept found place count same indexed is = subst (AllByRecursion (λ n. n < count)) (sym is)
    (AllByRecursion-reverse (λ n. n < count) kept
    (AllByRecursion-from_places (λ n. n < count) kept (λ i n at. omega (arith, same, slice_get_within place n i (indexed i n at)))))

-- a number that isn't there goes in
pub noted-new : (kept after old place : List ℕ) (number index : ℕ) → IsIndexed kept old → slice_get old number ≡ Some index
    → (slice_get kept index ≡ Some number → ⊥) → after ≡ kept ++ number ∷ [] → place ≡ set old number (length kept) → IsNoted kept after place number
noted-new kept after old place number index indexed at other is set_is = record {
  within = omega (arith, within, length-set old number (length kept), ap length set_is);
  indexed = λ i n there. by i n (slice_get-push_cases kept number i n (subst (λ l. slice_get l i ≡ Some n) is there));
  kept = inr (none, is);
}
  where
    within : number < length old
    within = slice_get_within old number index at

    none : Contains kept number → ⊥
    none c =
        let k = slice_get-contained kept number c in
        let same : k.0 ≡ index = let e : Some k.0 ≡ Some index = sym (indexed k.0 number k.1) ∙ at in cc in
        other (subst (λ j. slice_get kept j ≡ Some number) same k.1)

    by : (i n : ℕ) → (slice_get kept i ≡ Some n) ⊎ ((i ≡ length kept) × (number ≡ n)) → slice_get place n ≡ Some i
    by i n (inl old_at) =
        ap (λ l. slice_get l n) set_is
        ∙ slice_get-set_other old number n (length kept) (λ same. none (subst (Contains kept) same (Contains-slice_get kept i n old_at)))
        ∙ indexed i n old_at
    by i n (inr (last, same)) =
        ap (λ l. slice_get l n) set_is ∙ ap (λ m. slice_get (set old number (length kept)) m) (sym same)
        ∙ set_here old number (length kept) within ∙ ap Some (sym last)
