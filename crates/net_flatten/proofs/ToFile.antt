-- The lists of a network's file of one model, built element by element.
use Rattle.std.proofs.Common.{◌≡◌, ◌<◌, ◌≤◌, ◌+◌, ℕ, List, [], ◌∷◌, ◌++◌, map, take, length, get_or, Some, ap, sym, ◌∙◌, subst, arith}
use Rattle.std.specs.Prelude.{All, slice_get}
use Rattle.std.specs.List.{enumerate_from}
use Rattle.std.proofs.lemmas.List.{get_or-map, length-map, take_all, take_more}
use Rattle.std.proofs.lemmas.List.FromFn.{get_or-enumerate_from, length-enumerate_from}
use Rattle.std.proofs.lemmas.Option.{same_Some, slice_get-get_or}
use Rattle.blif_ast.specs.BlifModelData.{BlifModelData}
use Rattle.blif_ast.specs.Good.{IsGoodFile}
use Rattle.network.specs.NetworkData.{NetTableData, NetworkData}
use Rattle.network.specs.Networks.{IsNetwork}
use Rattle.model_calls.specs.Occurrences.{main_model}
use Rattle.net_flatten.specs.OneModel.{file_of}
use Rattle.model_calls.specs.Refusal.{Refusal}
use Rattle.model_calls.specs.Refusals.{HasRefusal}
use Rattle.net_flatten.proofs.OneModel.{good_one_model, table_number}
use Rattle.net_flatten.proofs.OneUnrefused.{unrefused}

module _ {X Y : Type 0} (f : ℕ × X → Y) where
  -- the values of elements with their numbers
  abbrev pub numbered : List X → List Y
  numbered xs = map f (enumerate_from 0 xs)

  numbered_count : (xs : List X) → length (numbered xs) ≡ length xs
  numbered_count xs = length-map (enumerate_from 0 xs) f ∙ length-enumerate_from 0 xs

  by_element : (xs : List X) (k : ℕ) (y : Y) (x : X) → k < length xs → ((x : X) → slice_get xs k ≡ Some x → y ≡ f (k, x)) → take k (numbered xs) ++ y ∷ [] ≡ take (k + 1) (numbered xs)
  by_element xs k y x l is =
      let here = is (get_or xs k x) (slice_get-get_or xs k x l) in
      let there : get_or (numbered xs) k y ≡ f (k, get_or xs k x) =
      get_or-map f (enumerate_from 0 xs) k (0, x) y (omega (arith, l, length-enumerate_from 0 xs)) ∙ ap f (get_or-enumerate_from 0 xs k (0, x) l)
      ∙ ap (λ j. f (j, get_or xs k x)) (let z : 0 + k ≡ k = omega arith in z) in
      sym (take_more (numbered xs) k y (omega (arith, l, numbered_count xs)) ∙ ap (λ z. take k (numbered xs) ++ z ∷ []) (there ∙ sym here))

  -- one element more
  pub numbered_more : (xs : List X) (k : ℕ) (y : Y) (items more : List Y) → k < length xs → items ≡ take k (numbered xs) → more ≡ items ++ y ∷ []
      → ((x : X) → slice_get xs k ≡ Some x → y ≡ f (k, x)) → more ≡ take (k + 1) (numbered xs)
  numbered_more [] k y items more l e m is = absurd (omega (arith, l))
  numbered_more (x ∷ xs) k y items more l e m is = m ∙ ap (λ v. v ++ y ∷ []) e ∙ by_element (x ∷ xs) k y x l is

  pub numbered_all : (xs : List X) (k : ℕ) (items : List Y) → length xs ≤ k → items ≡ take k (numbered xs) → items ≡ numbered xs
  numbered_all xs k items l e = e ∙ take_all k (numbered xs) (omega (arith, l, numbered_count xs))

-- a table reads signals that are there
pub reads_within : (n : NetworkData) → IsNetwork n → (k : ℕ) (t : NetTableData) → slice_get n.tables k ≡ Some t → All (λ signal. signal < length n.names) t.inputs
reads_within n is k t e = λ j d l. omega (arith, (is.tables k t e).inputs j d l, table_number n is k t e)

module _ (n : NetworkData) (is : IsNetwork n) (m : BlifModelData) (here : slice_get (file_of n).models 0 ≡ Some m) (models : List BlifModelData) (one : models ≡ m ∷ []) where
  pub one_file : file_of n ≡ record { models = models }
  one_file = let only = ap (λ v. v ∷ []) (same_Some (main_model (file_of n)) m here) ∙ sym one in λ i. record { models = only i }

  pub one_file_good : IsGoodFile (record { models = models })
  one_file_good = subst IsGoodFile one_file (good_one_model n is)

  pub one_file_accepted : (r : Refusal) → HasRefusal (record { models = models }) r → ⊥
  one_file_accepted r has = unrefused n is r (subst (λ f. HasRefusal f r) (sym one_file) has)
