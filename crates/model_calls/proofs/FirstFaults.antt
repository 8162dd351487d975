-- The first element of a list that is made of parts.
use Rattle.std.proofs.Common.{◌≡◌, ℕ, zero, suc, ◌<◌, ◌+◌, ◌⊎◌, inl, inr, List, [], ◌∷◌, ◌++◌, length, map, take, drop, Option, Some, None, refl, ap, sym, ◌∙◌, subst, arith, get_or, append-nil}
use Rattle.std.specs.Prelude.{slice_get}
use Rattle.std.specs.List.{flat_map}
use Rattle.std.proofs.lemmas.List.Concat.{flat_map-append}
use Rattle.std.proofs.lemmas.Option.{slice_get_read, slice_get_within}
use Rattle.dom_base.proofs.Lists.{slice_get-append}
use Rattle.graph_order.proofs.Lists.{take_next}
use Rattle.network.proofs.Lists.{get_map, get_of_map}
use Rattle.model_calls.specs.declared.first_fault.FirstFault.{FirstFault}
use Rattle.model_calls.specs.Refusals.{IsReported}
use Rattle.model_calls.specs.FirstFaults.{IsFirstFaultIn, NoneHolds}

module _ {X : Type 0} where
  -- the element that a loop has come to
  pub item_at : (xs : List X) (n i : ℕ) (x : X) → n ≡ length xs → i < n → x ≡ get_or xs i x → slice_get xs i ≡ Some x
  item_at xs n i x same l e = slice_get_read xs n i x same l e

  -- what stands in a list behind another
  pub get_behind : (xs ys : List X) (k : ℕ) (y : X) → slice_get ys k ≡ Some y → slice_get (xs ++ ys) (length xs + k) ≡ Some y
  get_behind [] ys k y e = ap (slice_get ys) (let z : 0 + k ≡ k = omega arith in z) ∙ e
  get_behind (x ∷ xs) ys k y e = ap (slice_get (x ∷ xs ++ ys)) (let z : length (x ∷ xs) + k ≡ suc (length xs + k) = omega arith in z) ∙ get_behind xs ys k y e

  -- what stands in two lists, one behind the other
  pub get_either : (xs ys : List X) (k : ℕ) (y : X) → slice_get (xs ++ ys) k ≡ Some y → (slice_get xs k ≡ Some y) ⊎ ((j : ℕ) × (k ≡ length xs + j) × (slice_get ys j ≡ Some y))
  get_either [] ys k y e = inr (k, omega arith, e)
  get_either (x ∷ xs) ys zero y e = inl e
  get_either (x ∷ xs) ys (suc k) y e = elim (get_either xs ys k y e) [ inl h ↦ inl h | inr h ↦ inr (h.0, omega (arith, h.1), h.2) ]

  pub split_at : (xs : List X) (k : ℕ) (x : X) → slice_get xs k ≡ Some x → xs ≡ take k xs ++ x ∷ drop (suc k) xs
  split_at [] k x e = absurd cc
  split_at (y ∷ ys) zero x e = let z : y ≡ x = cc in ap (λ w. w ∷ ys) z
  split_at (y ∷ ys) (suc k) x e = ap (λ l. y ∷ l) (split_at ys k x e)

-- the two answers of a search
module _ {Element : Type 0} (Holds : List Element → Element → Type 0) (all : List Element) (line_of : Element → ℕ) (name_of : Element → List ℕ) where
  pub reported_some : (found : Option FirstFault) (r : FirstFault) → found ≡ Some r → IsFirstFaultIn Holds all line_of name_of found → IsReported Holds all line_of name_of r.line r.name
  reported_some found r is h = subst (IsFirstFaultIn Holds all line_of name_of) is h

  pub reported_none : (found : Option FirstFault) → ((r : FirstFault) → found ≡ Some r → ⊥) → IsFirstFaultIn Holds all line_of name_of found → NoneHolds Holds all
  reported_none None not h = h
  reported_none (Some r) not h = absurd (not r refl)

module _ {Element : Type 0} (Holds : Element → Type 0) (line_of : Element → ℕ) (name_of : Element → List ℕ) where
  abbrev pub None_of : List Element → Type 0
  None_of xs = NoneHolds (λ before. Holds) xs

  abbrev pub Reported : List Element → ℕ → List ℕ → Type 0
  Reported xs line name = IsReported (λ before. Holds) xs line_of name_of line name

  pub none_of_both : (xs ys : List Element) → None_of xs → None_of ys → None_of (xs ++ ys)
  none_of_both xs ys h g k e there holds = elim (get_either xs ys k e there) [ inl f ↦ h k e f holds | inr f ↦ g f.0 e f.2 holds ]

  pub reported_left : (xs ys : List Element) (line : ℕ) (name : List ℕ) → Reported xs line name → Reported (xs ++ ys) line name
  reported_left xs ys line name r = record {
    element = r.element;
    first = record {
      index = r.first.index;
      there = slice_get-append xs ys r.first.index r.element r.first.there;
      holds = r.first.holds;
      none_before = λ k other l there holds. elim (get_either xs ys k other there) [
        | inl f ↦ r.first.none_before k other l f holds
        | inr f ↦ omega (arith, f.1, l, slice_get_within xs r.first.index r.element r.first.there)
      ];
    };
    line_is = r.line_is;
    name_is = r.name_is;
  }

  pub reported_right : (xs ys : List Element) (line : ℕ) (name : List ℕ) → None_of xs → Reported ys line name → Reported (xs ++ ys) line name
  reported_right xs ys line name none r = record {
    element = r.element;
    first = record {
      index = length xs + r.first.index;
      there = get_behind xs ys r.first.index r.element r.first.there;
      holds = r.first.holds;
      none_before = λ k other l there holds. elim (get_either xs ys k other there) [
        | inl f ↦ none k other f holds
        | inr f ↦ r.first.none_before f.0 other (omega (arith, f.1, l)) f.2 holds
      ];
    };
    line_is = r.line_is;
    name_is = r.name_is;
  }

  pub behind_none : (xs ys : List Element) → None_of xs → (found : Option FirstFault) → IsFirstFaultIn (λ before. Holds) ys line_of name_of found → IsFirstFaultIn (λ before. Holds) (xs ++ ys) line_of name_of found
  behind_none xs ys none None h = none_of_both xs ys none h
  behind_none xs ys none (Some r) h = reported_right xs ys r.line r.name none h

  -- lists for each of some things
  module _ {Thing : Type 0} (group : Thing → List Element) (things : List Thing) (k : ℕ) (thing : Thing) (there : slice_get things k ≡ Some thing) where
    pub none_up_to : None_of (flat_map group (take k things)) → None_of (group thing) → None_of (flat_map group (take (k + 1) things))
    none_up_to none here = subst None_of
        (sym (ap (flat_map group) (take_next things k thing there) ∙ flat_map-append group (take k things) (thing ∷ []) ∙ ap (λ l. flat_map group (take k things) ++ l) (append-nil (group thing))))
        (none_of_both (flat_map group (take k things)) (group thing) none here)

    pub reported_at : (line : ℕ) (name : List ℕ) → None_of (flat_map group (take k things)) → Reported (group thing) line name → Reported (flat_map group things) line name
    reported_at line name none here = subst (λ l. Reported l line name)
        (sym (ap (flat_map group) (split_at things k thing there) ∙ flat_map-append group (take k things) (thing ∷ drop (suc k) things)))
        (reported_right (flat_map group (take k things)) (group thing ++ flat_map group (drop (suc k) things)) line name none
        (reported_left (group thing) (flat_map group (drop (suc k) things)) line name here))

  -- elements for each of some things
  module _ {Thing : Type 0} (element : Thing → Element) (things : List Thing) where
    pub none_of_each : ((k : ℕ) (x : Thing) → slice_get things k ≡ Some x → Holds (element x) → ⊥) → None_of (map element things)
    none_of_each none k e there holds = let h = get_of_map element things k e there in none k h.0 h.1 (subst Holds (sym h.2) holds)

    pub reported_of_each : (k : ℕ) (x : Thing) → slice_get things k ≡ Some x → Holds (element x) → ((j : ℕ) (y : Thing) → j < k → slice_get things j ≡ Some y → Holds (element y) → ⊥)
        → (line : ℕ) (name : List ℕ) → line ≡ line_of (element x) → name ≡ name_of (element x) → Reported (map element things) line name
    reported_of_each k x there holds before line name line_is name_is = record {
      element = element x;
      first = record {
        index = k;
        there = get_map element things k x there;
        holds = holds;
        none_before = λ j e l at bad. let h = get_of_map element things j e at in before j h.0 l h.1 (subst Holds (sym h.2) bad);
      };
      line_is = line_is;
      name_is = name_is;
    }
