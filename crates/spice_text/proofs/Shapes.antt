-- Shapes among the shapes of all groups: each stands at its number.
use Rattle.std.proofs.Common.{◌≡◌, suc, Bool, true, false, if◌then◌else◌, ◌&&◌, ◌||◌, subst, nat_eq, List, [], ◌∷◌, ◌++◌, Some, slice_get}
use Rattle.std.proofs.Common.{refl, ap, sym, ◌∙◌, arith}
use Rattle.std.specs.List.{AllByRecursion, list_any, position_or_len}
use Rattle.std.specs.Cmp.Lexicographic.{pointwise, pointwise_decides, bytes_decides}
use Rattle.std.proofs.lemmas.Bool.Decides.{Decides-eqb}
use Rattle.indexmap.specs.IndexSet.{insert_key, insert_all}
use Rattle.std.proofs.lemmas.List.Folds.{list_any-append}
use Rattle.dom_base.proofs.Bools.{and_both, or_true}
use Rattle.dom_base.proofs.Lists.{AllByRecursion-append}
use Rattle.deck.specs.declared.device.Device.{Device}
use Rattle.deck.specs.DeckText.{model_word}
use Rattle.deck.proofs.DeckUnique.{model_word-injective}
use Rattle.spice_text.specs.Cells.{same_device, same_cell_shape}

module _ {X : Type 0} (eq : X → X → Bool) where
  -- a property of all that stand and of all that are inserted
  pub all_inserted : (P : X → Type 0) (ks xs : List X) → AllByRecursion P ks → AllByRecursion P xs → AllByRecursion P (insert_all eq ks xs)
  all_inserted P ks [] h g = h
  all_inserted P ks (x ∷ xs) h g = all_inserted P (insert_key eq ks x) xs (by (list_any (eq x) ks)) g.1
    where
      by : (b : Bool) → AllByRecursion P (if b then ks else ks ++ x ∷ [])
      by true = h
      by false = AllByRecursion-append P ks (x ∷ []) h (g.0, tt)

  -- what passes the test with itself stands among those that are inserted
  inserted_stands : (x : X) (ks : List X) → eq x x ≡ true → list_any (eq x) (insert_key eq ks x) ≡ true
  inserted_stands x ks own = by (list_any (eq x) ks) refl
    where
      by : (b : Bool) → list_any (eq x) ks ≡ b → list_any (eq x) (if b then ks else ks ++ x ∷ []) ≡ true
      by true e = e
      by false e = list_any-append (eq x) ks (x ∷ []) ∙ ap (λ b. list_any (eq x) ks || b) (ap (λ b. b || false) own)
          ∙ or_true (list_any (eq x) ks)

  -- what stands stays
  pub key_stays : (test : X → Bool) (ks : List X) (x : X) → list_any test ks ≡ true → list_any test (insert_key eq ks x) ≡ true
  key_stays test ks x h = by (list_any (eq x) ks)
    where
      by : (b : Bool) → list_any test (if b then ks else ks ++ x ∷ []) ≡ true
      by true = h
      by false = list_any-append test ks (x ∷ []) ∙ ap (λ b. b || list_any test (x ∷ [])) h

  keys_stay : (test : X → Bool) (ks xs : List X) → list_any test ks ≡ true → list_any test (insert_all eq ks xs) ≡ true
  keys_stay test ks [] h = h
  keys_stay test ks (x ∷ xs) h = keys_stay test (insert_key eq ks x) xs (key_stays test ks x h)

  -- each that is inserted stands
  pub all_stand : ((x : X) → eq x x ≡ true) → (ks xs : List X) → AllByRecursion (λ x. list_any (eq x) (insert_all eq ks xs) ≡ true) xs
  all_stand own ks [] = tt
  all_stand own ks (x ∷ xs) = (
    keys_stay (eq x) (insert_key eq ks x) xs (inserted_stands x ks (own x)),
    all_stand own (insert_key eq ks x)
        xs,
  )

  -- what stands is found at its number
  pub stands_at : ((x y : X) → eq x y ≡ true → x ≡ y) → (x : X) (ks : List X) → list_any (eq x) ks ≡ true
      → slice_get ks (position_or_len (eq x) ks) ≡ Some x
  stands_at same x [] h = absurd (let never : false ≡ true = h in cc)
  stands_at same x (k ∷ ks) h = by (eq x k) refl (λ rest. stands_at same x ks rest)
    where
      by : (b : Bool) → eq x k ≡ b → (list_any (eq x) ks ≡ true → slice_get ks (position_or_len (eq x) ks) ≡ Some x)
          → slice_get (k ∷ ks) (position_or_len (eq x) (k ∷ ks)) ≡ Some x
      by true e behind =
          let zero_is : position_or_len (eq x) (k ∷ ks) ≡ 0 = rw e refl in
          ap (slice_get (k ∷ ks)) zero_is ∙ ap Some (sym (same x k e))
      by false e behind =
          let next : position_or_len (eq x) (k ∷ ks) ≡ suc (position_or_len (eq x) ks) = rw e (omega arith) in
          let rest : list_any (eq x) ks ≡ true = sym (ap (λ b. b || list_any (eq x) ks) e) ∙ h in
          ap (slice_get (k ∷ ks)) next ∙ behind rest

device_decides : (a b : Device) → (same_device a b ≡ true → a ≡ b) × (a ≡ b → same_device a b ≡ true)
device_decides a b = (
  (λ h.
      let kinds : Bool = pointwise nat_eq (model_word a.kind) (model_word b.kind) in
      let sources = and_both (kinds && nat_eq a.drain b.drain && nat_eq a.gate b.gate) (nat_eq a.source b.source) h in
      let gates = and_both (kinds && nat_eq a.drain b.drain) (nat_eq a.gate b.gate) sources.0 in
      let drains = and_both kinds (nat_eq a.drain b.drain) gates.0 in
      let kind = model_word-injective a.kind b.kind ((bytes_decides (model_word a.kind) (model_word b.kind)).0 drains.0) in
      let drain = (Decides-eqb a.drain b.drain).0 drains.1 in
      let gate = (Decides-eqb a.gate b.gate).0 gates.1 in
      let source = (Decides-eqb a.source b.source).0 sources.1 in
      λ i. record { kind = kind i; drain = drain i; gate = gate i; source = source i }),
  (λ e.
      let own : same_device a a ≡ true = rw (
        (bytes_decides (model_word a.kind) (model_word a.kind)).1 refl,
        (Decides-eqb a.drain a.drain).1
            refl,
        (Decides-eqb a.gate a.gate).1 refl,
        (Decides-eqb a.source a.source).1 refl,
      ) refl in
      subst (λ d. same_device a d ≡ true) e own),
)

pub shape_same : (a b : List Device) → same_cell_shape a b ≡ true → a ≡ b
shape_same a b = (pointwise_decides device_decides a b).0

pub shape_own : (a : List Device) → same_cell_shape a a ≡ true
shape_own a = (pointwise_decides device_decides a a).1 refl
