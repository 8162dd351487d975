-- An instance among the parts of a file by numbers is an instance of one of its models.
use Rattle.std.proofs.Common.{◌≡◌, ℕ, zero, suc, ◌≤◌, ◌<◌, ◌+◌, ◌-◌, ◌⊎◌, inl, inr, List, [], ◌∷◌, drop, length, Some, ap, sym, ◌∙◌, subst, take, arith}
use Rattle.std.specs.Prelude.{Contains, slice_get}
use Rattle.std.specs.List.{filter_map}
use Rattle.std.proofs.lemmas.Bool.{cases_lt}
use Rattle.std.proofs.lemmas.List.Elements.{Contains-append_right, filter_map-append}
use Rattle.blif_ast.specs.BlifModelData.{BlifModelData}
use Rattle.blif_ast.specs.InstanceData.{InstanceData}
use Rattle.numbered_file.specs.NumberedData.{NumberedData}
use Rattle.numbered_file.specs.Numbered.{InstancePart, Part, between, file_of, instance_by, instance_in, model_by, models_in, name_of, named, part_by, parts_of}
use Rattle.numbered_file.specs.Places.{IsPartOf, first_part, inputs_at, outputs_at, rows_at, words_at}
use Rattle.numbered_file.proofs.Places.{model_there, part_there}
use Rattle.dom_base.proofs.Lists.{Contains-first, Contains-slice_get, slice_get-there}
use Rattle.network.proofs.IndexedLists.{split_at}
use Rattle.network.proofs.Lists.{get_take}
use Rattle.local_names.specs.LocalNames.{IsInstance}
use Rattle.model_calls.proofs.MainNames.{contains_flat}
use Rattle.model_calls.proofs.Pairs.{contains_to}
use Rattle.model_calls.specs.ModelFaults.{uses, uses_in}

-- what stands between two places of a list
get_behind : {X : Type 0} (xs : List X) (start k : ℕ) (x : X) → start ≤ k → slice_get xs k ≡ Some x → slice_get (drop start xs) (k - start) ≡ Some x
get_behind xs zero k x l e = ap (slice_get xs) (let z : k - 0 ≡ k = omega arith in z) ∙ e
get_behind [] (suc start) k x l e = absurd cc
get_behind (y ∷ ys) (suc start) zero x l e = absurd (omega (arith, l))
get_behind (y ∷ ys) (suc start) (suc k) x l e =
    ap (slice_get (drop start ys)) (let z : suc k - suc start ≡ k - start = omega arith in z) ∙ get_behind ys start k x (omega (arith, l)) e

get_between : {X : Type 0} (xs : List X) (start end k : ℕ) (x : X) → start ≤ k → k < end → slice_get xs k ≡ Some x → slice_get (between start end xs) (k - start) ≡ Some x
get_between xs start end k x l m e = get_take (drop start xs) (k - start) (end - start) x (omega (arith, l, m)) (get_behind xs start k x l e)

-- an instance of a model of a file that stands at a place among its parts
pub record IsUseAt (d : NumberedData) (k : ℕ) : Type 0 where
  pub model : BlifModelData
  pub instance : InstanceData
  pub there : slice_get (parts_of d) k ≡ Some (InstancePart instance)
  pub used : Contains (uses (file_of d)) (record { model = model; instance = instance })

module _ (d : NumberedData) (k : ℕ) where
  -- the model of a part
  model_of_part : (n : ℕ) → k < first_part d n → (m : ℕ) × (m < n) × IsPartOf d m k
  model_of_part zero l = absurd (omega (arith, l))
  model_of_part (suc n) l = by (cases_lt k (first_part d n)) (model_of_part n)
    where
      by : (k < first_part d n) ⊎ (first_part d n ≤ k) → (k < first_part d n → (m : ℕ) × (m < n) × IsPartOf d m k) → (m : ℕ) × (m < suc n) × IsPartOf d m k
      by (inl less) deeper = let h = deeper less in (h.0, omega (arith, h.1), h.2)
      by (inr more) deeper = (n, omega arith, (more, subst (λ i. k < first_part d i) (let z : suc n ≡ n + 1 = omega arith in z) l))

  pub use_at : IsInstance d k → k < first_part d (length d.models) → IsUseAt d k
  use_at is inside = record { model = model; instance = instance; there = there; used = used }
    where
      words : List (List ℕ)
      words = named d.names (words_at d k)

      instance : InstanceData
      instance = instance_by is.part.line words

      there : slice_get (parts_of d) k ≡ Some (InstancePart instance)
      there = part_there d k is.part is.there ∙ ap (λ kind. Some (part_by d.text kind is.part.line words (rows_at d k))) is.kind_is

      h : (m : ℕ) × (m < length d.models) × IsPartOf d m k
      h = model_of_part (length d.models) inside

      m : ℕ
      m = h.0

      parts : List Part
      parts = between (first_part d m) (first_part d (m + 1)) (parts_of d)

      model : BlifModelData
      model = let a = slice_get-there d.models m h.1 in model_by (name_of d.names a.0.name) a.0.line (named d.names (inputs_at d m)) (named d.names (outputs_at d m)) parts

      model_is : slice_get (models_in d) m ≡ Some model
      model_is = let a = slice_get-there d.models m h.1 in model_there d m a.0 a.1

      within : slice_get parts (k - first_part d m) ≡ Some (InstancePart instance)
      within = get_between (parts_of d) (first_part d m) (first_part d (m + 1)) k (InstancePart instance) h.2.0 h.2.1 there

      before : List Part
      before = take (k - first_part d m) parts

      behind : List Part
      behind = drop (suc (k - first_part d m)) parts

      stands : Contains (filter_map instance_in parts) instance
      stands =
          let here = Contains-append_right (filter_map instance_in before) (instance ∷ filter_map instance_in behind) instance (Contains-first instance (filter_map instance_in behind)) in
          subst (λ ps. Contains (filter_map instance_in ps) instance) (sym (split_at parts (k - first_part d m) (InstancePart instance) within))
          (subst (λ is. Contains is instance) (sym (filter_map-append instance_in before (InstancePart instance ∷ behind))) here)

      used : Contains (uses (file_of d)) (record { model = model; instance = instance })
      used = contains_flat uses_in (models_in d) model (record { model = model; instance = instance }) (Contains-slice_get (models_in d) m model model_is)
          (contains_to (λ i. record { model = model; instance = i }) model.instances instance stands)
