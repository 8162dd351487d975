-- Names by numbers: what a set of names says of a name that is looked up or added.
use Rattle.std.proofs.Common.{◌≡◌, ℕ, ◌+◌, Bool, true, false, List, [], ◌∷◌, ◌++◌, length, map, Option, Some, None, refl, ap, sym, ◌∙◌, subst, arith}
use Rattle.std.specs.Prelude.{Contains, MatchOption, is_some, not, position, slice_get, if◌then◌else◌}
use Rattle.std.specs.Cmp.Lexicographic.{bytes_decides}
use Rattle.std.specs.List.{list_any, position_or_len}
use Rattle.std.proofs.lemmas.List.{length-map}
use Rattle.std.proofs.lemmas.List.Quantifiers.{position-Some}
use Rattle.std.proofs.lemmas.List.Sums.{position_or_len_is}
use Rattle.std.proofs.lemmas.Map.Views.{list_any-from_Contains}
use Rattle.std.proofs.lemmas.Option.{slice_get-get_or}
use Rattle.dom_base.proofs.Lists.{AllByRecursion-contains, Contains-slice_get, list_any-map, map-push, none-list_any}
use Rattle.dom_base.proofs.Names.{names_equal}
use Rattle.blif_ast.specs.Cards.{same}
use Rattle.network.proofs.Lists.{get_map}
use Rattle.model_calls.specs.NameNumbers.{IsNameAdded}

module _ {Key : Type 0} (now : Key → List ℕ) (name : List ℕ) where
  abbrev test : Key → Bool
  test key = same name (now key)

  pub not_there : (keys : List Key) → list_any test keys ≡ false → Contains (map now keys) name → ⊥
  not_there keys none c =
      let there : true ≡ false = sym (list_any-from_Contains names_equal name (map now keys) c) ∙ list_any-map (same name) now keys ∙ none in cc

  pub there_at : (keys : List Key) (n : ℕ) (key : Key) → slice_get keys n ≡ Some key → test key ≡ true → slice_get (map now keys) n ≡ Some name
  there_at keys n key e is = get_map now keys n key e ∙ ap Some (sym ((bytes_decides name (now key)).0 is))

  number_there : (keys : List Key) (n : ℕ) → position test keys ≡ Some n → slice_get (map now keys) n ≡ Some name
  number_there [] n e = absurd cc
  number_there (key ∷ keys) n e = let at = position-Some test (key ∷ keys) n key e in there_at (key ∷ keys) n _ (slice_get-get_or (key ∷ keys) n key at.0) at.1

  -- a name that is looked up
  pub looked_up : (keys : List Key) (found : Option ℕ) → found ≡ position test keys → is_some found ≡ list_any test keys
      → MatchOption found (Contains (map now keys) name → ⊥) (λ n. slice_get (map now keys) n ≡ Some name)
  looked_up keys None is any = not_there keys (sym any)
  looked_up keys (Some n) is any = number_there keys n (sym is)

  length_where_none : (keys : List Key) (other : Key) → list_any test keys ≡ false → position_or_len test keys ≡ length keys
  length_where_none keys other e = position_or_len_is test keys (length keys) other (omega arith)
      (λ k l. AllByRecursion-contains (λ key. test key ≡ false) keys _ (none-list_any test keys e) (Contains-slice_get keys k _ (slice_get-get_or keys k other l)))
      (λ l. absurd (omega (arith, l)))

  -- a name that is added
  pub added : (before after : List Key) (value : Key) (n : ℕ) (b : Bool) → now value ≡ name → b ≡ not (list_any test before)
      → after ≡ (if list_any test before then before else before ++ value ∷ []) → n ≡ position_or_len test before
      → ((key : Key) × (slice_get after n ≡ Some key) × (test key ≡ true)) → IsNameAdded (map now before) name (map now after) n b
  added before after value n b value_is new keys number stored = by (list_any test before) refl
    where
      by : (any : Bool) → list_any test before ≡ any → IsNameAdded (map now before) name (map now after) n b
      by true is = let same_keys : after ≡ before = keys ∙ ap (λ a. if a then before else before ++ value ∷ []) is in
          subst (IsNameAdded (map now before) name (map now after) n) (sym (new ∙ ap not is))
          (ap (map now) same_keys, subst (λ l. slice_get (map now l) n ≡ Some name) same_keys (there_at after n stored.0 stored.1 stored.2))
      by false is = subst (IsNameAdded (map now before) name (map now after) n) (sym (new ∙ ap not is)) (
        ap (map now) (keys ∙ ap (λ a. if a then before else before ++ value ∷ []) is) ∙ map-push now before value ∙ ap (λ w. map now before ++ w ∷ []) value_is,
        number ∙ length_where_none before value is ∙ sym (length-map before now),
        not_there before is,
      )
