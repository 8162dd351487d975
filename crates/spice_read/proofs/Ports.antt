-- Ports that a `.subckt` names, each once in a set.
use Rattle.std.proofs.Common.{◌≡◌, ◌<◌, ◌≤◌, ◌^◌, ℕ, zero, suc, ◌+◌, Bool, true, false, ◌||◌, List, [], ◌∷◌, ◌++◌, length, take, map, nat_eq, nat_lt, slice_index_or, Some, None, All, refl, sym, ap, ◌∙◌, arith, if◌then◌else◌}
use Rattle.std.specs.List.{AllByRecursion, IsDistinct, list_any}
use Rattle.std.specs.Set.{distinct_count}
use Rattle.std.specs.Cmp.Lexicographic.{pointwise, bytes_decides}
use Rattle.std.proofs.lemmas.Bool.Decides.{nat_tests}
use Rattle.std.proofs.lemmas.List.Elements.{All-from_recursion}
use Rattle.std.proofs.lemmas.Map.Made.{distinct_count-le, length-from_keys, IsDistinct-from_count}
use Rattle.indexmap.proofs.SetLemmas.{set_all_distinct}
use Rattle.deck.specs.Nets.{with_net}
use Rattle.deck.specs.Numbers.{with_all}
use Rattle.deck.specs.declared.fault.DeckKind.TheVariants.{DuplicatePort, TooMany}
use Rattle.deck.specs.DeckCards.{NumberedCard, port_names, names_twice}
use Rattle.deck.specs.Limits.{most_ports}
use Rattle.spice_read.specs.ReadSubckts.{ports_fault}
use Rattle.dom_base.proofs.Names.{names_equal}
use Rattle.deck.proofs.NetNumbers.{IsDistinct-with_net}
use Rattle.dom_base.proofs.Bools.{or_false, or_true, or_assoc}

any-append : (p : List ℕ → Bool) (xs ys : List (List ℕ)) → list_any p (xs ++ ys) ≡ (list_any p xs || list_any p ys)
any-append p [] ys = refl
any-append p (x ∷ xs) ys = ap (λ b. p x || b) (any-append p xs ys) ∙ sym (or_assoc (p x) (list_any p xs) (list_any p ys))

-- what a set holds after one more name
any-with_net : (q : List ℕ) (ks : List (List ℕ)) (x : List ℕ) → list_any (pointwise nat_eq q) (with_net ks x) ≡ (list_any (pointwise nat_eq q) ks || pointwise nat_eq q x)
any-with_net q ks x = by (list_any (pointwise nat_eq x) ks) (pointwise nat_eq q x) refl refl
  where
    by : (a b : Bool) → list_any (pointwise nat_eq x) ks ≡ a → pointwise nat_eq q x ≡ b → list_any (pointwise nat_eq q) (with_net ks x) ≡ (list_any (pointwise nat_eq q) ks || pointwise nat_eq q x)
    by true true e f =
        let held : list_any (pointwise nat_eq q) ks ≡ true = ap (λ (z : List ℕ). list_any (pointwise nat_eq z) ks) ((bytes_decides q x).0 f) ∙ e in
        rw (e, f) (held ∙ sym (or_true (list_any (pointwise nat_eq q) ks)))
    by true false e f = rw (e, f) (sym (or_false (list_any (pointwise nat_eq q) ks)))
    by false b e f = rw e (any-append (pointwise nat_eq q) ks (x ∷ []) ∙ ap (λ t. list_any (pointwise nat_eq q) ks || t) (or_false (pointwise nat_eq q x)))

any-with_all : (q : List ℕ) (ks xs : List (List ℕ)) → list_any (pointwise nat_eq q) (with_all ks xs) ≡ (list_any (pointwise nat_eq q) ks || list_any (pointwise nat_eq q) xs)
any-with_all q ks [] = sym (or_false (list_any (pointwise nat_eq q) ks))
any-with_all q ks (x ∷ xs) =
    any-with_all q (with_net ks x) xs
    ∙ ap (λ b. b || list_any (pointwise nat_eq q) xs) (any-with_net q ks x)
    ∙ or_assoc (list_any (pointwise nat_eq q) ks) (pointwise nat_eq q x) (list_any (pointwise nat_eq q) xs)

pub IsDistinct-with_all : (ks xs : List (List ℕ)) → IsDistinct (pointwise nat_eq) ks → IsDistinct (pointwise nat_eq) (with_all ks xs)
IsDistinct-with_all ks [] d = d
IsDistinct-with_all ks (x ∷ xs) d = IsDistinct-with_all (with_net ks x) xs (IsDistinct-with_net ks x d)

pub none_differ : IsDistinct (pointwise nat_eq) []
unfolding IsDistinct
none_differ = tt

-- a set of names has as many as differ
pub length-with_all : (xs : List (List ℕ)) → length (with_all [] xs) ≡ distinct_count (pointwise nat_eq) xs
length-with_all xs = length-from_keys names_equal (with_all [] xs) xs (IsDistinct-with_all [] xs none_differ) (λ q. any-with_all q [] xs)

-- names of which none stands twice
pub differ_from_count : (xs : List (List ℕ)) → nat_lt (distinct_count (pointwise nat_eq) xs) (length xs) ≡ false → IsDistinct (pointwise nat_eq) xs
differ_from_count xs fewer = IsDistinct-from_count names_equal xs (grind (arith, nat_tests, distinct_count-le (pointwise nat_eq) xs))

pub with_all-ports : (xs : List (List ℕ)) → IsDistinct (pointwise nat_eq) xs → with_all [] xs ≡ xs
with_all-ports xs d = set_all_distinct names_equal [] xs d

with_all-index : {X : Type 0} (f : X → List ℕ) (ks : List (List ℕ)) (xs : List X) (i : ℕ) (d : X) → i < length xs
    → with_all ks (map f (take (suc i) xs)) ≡ with_net (with_all ks (map f (take i xs))) (f (slice_index_or xs i d))
with_all-index f ks [] i d lt = absurd (omega arith)
with_all-index f ks (y ∷ xs) zero d lt = refl
with_all-index f ks (y ∷ xs) (suc i) d lt = with_all-index f (with_net ks (f y)) xs i d (omega arith)

with_all-next : {X : Type 0} (f : X → List ℕ) (ks : List (List ℕ)) (xs : List X) (i : ℕ) (d : X) → i < length xs
    → with_net (with_all ks (map f (take i xs))) (f (slice_index_or xs i d)) ≡ with_all ks (map f (take (i + 1) xs))
with_all-next f ks xs i d lt =
    let next : i + 1 ≡ suc i = omega arith in
    sym (ap (λ (n : ℕ). with_all ks (map f (take n xs))) next ∙ with_all-index f ks xs i d lt)

-- one more name, as a loop adds it
pub with_all-step : {X : Type 0} (f : X → List ℕ) (ks : List (List ℕ)) (xs : List X) (i : ℕ) (d : X) (before after : List (List ℕ)) (name : List ℕ)
    → after ≡ with_net before name → name ≡ f (slice_index_or xs i d) → before ≡ with_all ks (map f (take i xs)) → i < length xs
    → after ≡ with_all ks (map f (take (i + 1) xs))
with_all-step f ks xs i d before after name is named so_far lt =
    is ∙ ap (with_net before) named ∙ ap (λ k. with_net k (f (slice_index_or xs i d))) so_far ∙ with_all-next f ks xs i d lt

unmapped : {X : Type 0} (P : List ℕ → Type 0) (f : X → List ℕ) (xs : List X) → AllByRecursion P (map f xs) → AllByRecursion (λ x. P (f x)) xs
unmapped P f [] h = tt
unmapped P f (x ∷ xs) h = (h.0, unmapped P f xs h.1)

pub All-unmapped : {X : Type 0} (P : List ℕ → Type 0) (f : X → List ℕ) (xs : List X) → AllByRecursion P (map f xs) → All (λ x. P (f x)) xs
All-unmapped P f xs h = All-from_recursion (λ x. P (f x)) xs (unmapped P f xs h)

-- the ports of a `.subckt` without a fault
pub record HasGoodPorts (ports : List (List ℕ)) : Type 0 where
  pub differ : IsDistinct (pointwise nat_eq) ports
  pub few : length ports ≤ 2 ^ 20

pub good_ports : (card : NumberedCard) → ports_fault card ≡ None → HasGoodPorts (port_names card)
good_ports card clean = by (names_twice card) (nat_lt most_ports (length (port_names card))) refl refl clean
  where
    by : (s t : Bool) → names_twice card ≡ s → nat_lt most_ports (length (port_names card)) ≡ t
        → (if s then Some DuplicatePort else (if t then Some TooMany else None)) ≡ None → HasGoodPorts (port_names card)
    by true t e f h = absurd (let never : ⊥ = cc in never)
    by false true e f h = absurd (let never : ⊥ = cc in never)
    by false false e f h = record { differ = differ_from_count (port_names card) e; few = grind (arith, nat_tests) }

-- the ports of a `.subckt`, counted: so many words, of which so many differ
module _ (card : NumberedCard) (keys : List (List ℕ)) (keys_are : keys ≡ with_all [] (port_names card)) (most : ℕ) (all_is : most ≡ length (port_names card)) where
  count_is : length keys ≡ distinct_count (pointwise nat_eq) (port_names card)
  count_is = ap length keys_are ∙ length-with_all (port_names card)

  pub twice_fault : length keys < most → ports_fault card ≡ Some DuplicatePort
  twice_fault fewer =
      let twice : names_twice card ≡ true = grind (arith, nat_tests, count_is, all_is, fewer) in
      rw twice refl

  once : (length keys < most → ⊥) → names_twice card ≡ false
  once all = grind (arith, nat_tests, count_is, all_is, all)

  pub many_fault : (length keys < most → ⊥) → 2 ^ 20 < length keys → ports_fault card ≡ Some TooMany
  many_fault all many =
      let le = distinct_count-le (pointwise nat_eq) (port_names card) in
      let full : nat_lt most_ports (length (port_names card)) ≡ true = grind (arith, nat_tests, count_is, le, many) in
      rw (once all, full) refl

  pub no_fault_of_ports : (length keys < most → ⊥) → (2 ^ 20 < length keys → ⊥) → ports_fault card ≡ None
  no_fault_of_ports all few =
      let more : length (port_names card) ≤ length keys = omega (arith, all, all_is) in
      let room : nat_lt most_ports (length (port_names card)) ≡ false = grind (arith, nat_tests, more, few) in
      rw (once all, room) refl
