-- The numbers of the signals of the names of one scope: their own, and what each binding changes.
use Rattle.std.proofs.Common.{◌≡◌, ℕ, zero, suc, ◌<◌, ◌+◌, ◌-◌, Bool, true, false, cond, List, [], ◌∷◌, ◌++◌, length, take, drop, Option, Some, None, refl, ap, sym, ◌∙◌, subst, arith}
use Rattle.std.specs.Prelude.{position, slice_get, slice_set}
use Rattle.std.specs.List.{AllByRecursion, enumerate_from, find}
use Rattle.std.specs.Option.{option_map, option_map_or}
use Rattle.std.specs.Cmp.Lexicographic.{same_text}
use Rattle.std.proofs.lemmas.List.{length-map}
use Rattle.std.proofs.lemmas.List.FromFn.{length-enumerate_from}
use Rattle.dom_base.proofs.Lists.{AllByRecursion-from_places, drop_next}
use Rattle.blif_ast.specs.Cards.{same}
use Rattle.blif_ast.specs.declared.instance.Binding.{Binding}
use Rattle.blif_ast.specs.BlifFileData.{BlifFileData}
use Rattle.blif_ast.specs.InstanceData.{InstanceData}
use Rattle.part_numbers.specs.NumberedFiles.{model_at}
use Rattle.part_numbers.specs.SignalNumbers.{AreDistinctNames, HasSignalNumber, IsBelowNumbered, IsInstanceAt, SignalNumbersData, actual_in, scope_roots, with_binding}
use Rattle.part_numbers.specs.declared.walk.Scope.{Scope}
use Rattle.model_calls.proofs.UniqueNames.{position_cons}

pub own_push : (g : List ℕ → ℕ) (start : ℕ) (names : List (List ℕ)) (index : ℕ) → index < length names
    → scope_roots g [] start (take (index + 1) names) ≡ scope_roots g [] start (take index names) ++ (start + index) ∷ []
own_push g start [] index l = absurd (omega (arith, l))
own_push g start (x ∷ xs) zero l = ap (λ k. k ∷ []) (let z : start ≡ start + 0 = omega arith in z)
own_push g start (x ∷ xs) (suc index) l =
    ap (λ k. scope_roots g [] start (take k (x ∷ xs))) (let z : suc index + 1 ≡ suc (index + 1) = omega arith in z)
    ∙ ap (λ l. start ∷ l) (own_push g (start + 1) xs index (omega (arith, l)))
    ∙ ap (λ k. start ∷ scope_roots g [] (start + 1) (take index xs) ++ k ∷ []) (let z : (start + 1) + index ≡ start + suc index = omega arith in z)

pub length_roots : (g : List ℕ → ℕ) (bs : List Binding) (start : ℕ) (names : List (List ℕ)) → length (scope_roots g bs start names) ≡ length names
length_roots g bs start names = length-map (enumerate_from start names) (λ (p : ℕ × List ℕ). option_map_or g (actual_in bs p.1) p.0) ∙ length-enumerate_from start names

-- a binding of a formal that isn't there changes nothing
unbound_same : (g : List ℕ → ℕ) (b : Binding) (bs : List Binding) (start : ℕ) (names : List (List ℕ)) → AllByRecursion (λ name. same b.formal name ≡ false) names
    → scope_roots g bs start names ≡ scope_roots g (b ∷ bs) start names
unbound_same g b bs start [] h = refl
unbound_same g b bs start (x ∷ xs) h =
    ap (λ t. option_map_or g (option_map (λ (c : Binding). c.actual) (cond t (Some b) (find (λ (c : Binding). same c.formal x) bs))) start ∷ scope_roots g bs (start + 1) xs) (sym h.0)
    ∙ ap (λ l. option_map_or g (actual_in (b ∷ bs) x) start ∷ l) (unbound_same g b bs (start + 1) xs h.1)

set_later : (xs : List ℕ) (x v : ℕ) (found : Option ℕ) → option_map_or (λ k. slice_set (x ∷ xs) k v) (option_map suc found) (x ∷ xs) ≡ x ∷ option_map_or (λ k. slice_set xs k v) found xs
set_later xs x v None = refl
set_later xs x v (Some k) = refl

others_differ : (x : List ℕ) (xs : List (List ℕ)) → AreDistinctNames (x ∷ xs) → AllByRecursion (λ name. same x name ≡ false) xs
others_differ x xs once = AllByRecursion-from_places (λ name. same x name ≡ false) xs (λ k name there. by k name there (same x name) refl)
  where
    by : (k : ℕ) (name : List ℕ) → slice_get xs k ≡ Some name → (t : Bool) → same x name ≡ t → same x name ≡ false
    by k name there false e = e
    by k name there true e = absurd (let is = once 0 (suc k) x refl (there ∙ ap Some (sym (same_text x name (sym e)))) in let z : 0 ≡ suc k = is in omega (arith, z))

-- and of one that is there changes the number at its index
pub one_more : (g : List ℕ → ℕ) (b : Binding) (bs : List Binding) (start : ℕ) (names : List (List ℕ)) → AreDistinctNames names
    → with_binding g names b (scope_roots g bs start names) ≡ scope_roots g (b ∷ bs) start names
one_more g b bs start [] once = refl
one_more g b bs start (x ∷ xs) once =
    ap (λ found. option_map_or (λ k. slice_set (scope_roots g bs start (x ∷ xs)) k (g b.actual)) found (scope_roots g bs start (x ∷ xs))) (position_cons (same b.formal) x xs)
    ∙ by (same b.formal x) refl (one_more g b bs (start + 1) xs (λ j k name p q. let z : suc j ≡ suc k = once (suc j) (suc k) name p q in omega (arith, z)))
  where
    own : ℕ
    own = option_map_or g (actual_in bs x) start

    rest : List ℕ
    rest = scope_roots g bs (start + 1) xs

    by : (t : Bool) → same b.formal x ≡ t → with_binding g xs b rest ≡ scope_roots g (b ∷ bs) (start + 1) xs
        → option_map_or (λ k. slice_set (own ∷ rest) k (g b.actual)) (cond t (Some 0) (option_map suc (position (same b.formal) xs))) (own ∷ rest)
        ≡ option_map_or g (option_map (λ (c : Binding). c.actual) (cond (same b.formal x) (Some b) (find (λ (c : Binding). same c.formal x) bs))) start ∷ scope_roots g (b ∷ bs) (start + 1) xs
    by true e deeper =
        let is : b.formal ≡ x = same_text b.formal x (sym e) in
        ap (λ l. g b.actual ∷ l) (unbound_same g b bs (start + 1) xs (rw is (others_differ x xs once)))
        ∙ ap (λ t. option_map_or g (option_map (λ (c : Binding). c.actual) (cond t (Some b) (find (λ (c : Binding). same c.formal x) bs))) start ∷ scope_roots g (b ∷ bs) (start + 1) xs) (sym e)
    by false e deeper = set_later rest own (g b.actual) (position (same b.formal) xs)
        ∙ ap (λ l. own ∷ l) deeper
        ∙ ap (λ t. option_map_or g (option_map (λ (c : Binding). c.actual) (cond t (Some b) (find (λ (c : Binding). same c.formal x) bs))) start ∷ scope_roots g (b ∷ bs) (start + 1) xs) (sym e)

-- the bindings from the last one on
pub bound_back : (g : List ℕ → ℕ) (bs : List Binding) (start : ℕ) (names : List (List ℕ)) (index : ℕ) (b : Binding) → AreDistinctNames names → index < length bs
    → slice_get bs (length bs - 1 - index) ≡ Some b
    → with_binding g names b (scope_roots g (drop (length bs - index) bs) start names) ≡ scope_roots g (drop (length bs - (index + 1)) bs) start names
bound_back g bs start names index b once l there = one_more g b (drop (length bs - index) bs) start names once
    ∙ ap (λ ds. scope_roots g ds start names)
    (ap (λ k. b ∷ drop k bs) (let z : length bs - index ≡ (length bs - 1 - index) + 1 = omega (arith, l) in z)
    ∙ sym (drop_next bs (length bs - 1 - index) b there)
    ∙ ap (λ k. drop k bs) (let z : length bs - 1 - index ≡ length bs - (index + 1) = omega (arith, l) in z))

-- an instance in the scope above is one only
one_some : {X : Type 0} (found : Option X) (x y : X) → found ≡ Some x → found ≡ Some y → x ≡ y
one_some found x y p q = cc

pub instance_once : (f : BlifFileData) (scopes : List Scope) (s a b : Scope) (i j : InstanceData) → IsInstanceAt f scopes s a i → IsInstanceAt f scopes s b j → (a ≡ b) × (i ≡ j)
instance_once f scopes s a b i j p q =
    let same_above : a ≡ b = one_some (slice_get scopes s.above) a b p.above_is q.above_is in
    (same_above, one_some (slice_get (model_at f a.model).instances s.instance) i j p.instance_is (ap (λ (c : Scope). slice_get (model_at f c.model).instances s.instance) same_above ∙ q.instance_is))

pub actuals_at : (f : BlifFileData) (scopes : List Scope) (s : Scope) (n : SignalNumbersData) (a : Scope) (i : InstanceData) → IsBelowNumbered f scopes s n → IsInstanceAt f scopes s a i
    → AllByRecursion (λ (b : Binding). HasSignalNumber n s.above a.model b.actual) i.bindings
actuals_at f scopes s n a i r at =
    let once = instance_once f scopes s r.above a r.instance i r.is_at at in
    subst (λ (c : Scope). AllByRecursion (λ (b : Binding). HasSignalNumber n s.above c.model b.actual) i.bindings) once.0
    (subst (λ (j : InstanceData). AllByRecursion (λ (b : Binding). HasSignalNumber n s.above r.above.model b.actual) j.bindings) once.1 r.actuals)
