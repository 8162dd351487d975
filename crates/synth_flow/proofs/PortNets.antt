-- The ports of signals differ.
use Rattle.std.proofs.Common.{◌≡◌, ℕ, zero, suc, ◌+◌, ◌≤◌, ◌<◌, Bool, true, false, List, [], ◌∷◌, ◌++◌, length, map, refl, sym, ap, ◌∙◌, arith, All, nat_eq, eq-eqb}
use Rattle.std.specs.Prelude.{codes, slice_index_or}
use Rattle.std.specs.List.{AllByRecursion, IsDistinct, range_with_len, starts_with}
use Rattle.std.specs.Cmp.Lexicographic.{pointwise, bytes_decides}
use Rattle.std.proofs.lemmas.Bool.{ne_eqb}
use Rattle.std.proofs.lemmas.List.{append_cancel_left, take_all}
use Rattle.std.proofs.lemmas.List.Elements.{All-from_recursion}
use Rattle.std.proofs.lemmas.Option.{slice_get-get_or}
use Rattle.dom_base.proofs.Lists.{IsDistinct-append, All-at, AllByRecursion-every, AllByRecursion-map, list_any-none}
use Rattle.dom_base.proofs.Names.{AreApart-from_start}
use Rattle.deck.specs.Escapes.{escaped}
use Rattle.deck.specs.Nets.{net_number}
use Rattle.deck.specs.Ports.{IsOutput, IsPin}
use Rattle.deck.proofs.Escaping.{escapes_differ}
use Rattle.deck.proofs.NetNumbers.{net_number-take}
use Rattle.synth_flow.specs.MadeDecks.{port_net}

-- among names that differ a name has the number of its place
number_at : (names : List (List ℕ)) (i : ℕ) → IsDistinct (pointwise nat_eq) names → i < length names → net_number names (slice_index_or names i []) ≡ i
number_at names i apart lt = ap (λ l. net_number l (slice_index_or names i [])) (sym (take_all (length names) names (omega arith))) ∙ net_number-take names apart (length names) i (omega arith) lt

module _ (front : List ℕ) (names : List (List ℕ)) (apart : IsDistinct (pointwise nat_eq) names) (bytes : All (λ name. All (λ b. b < 256) name) names) where
  -- the nets of two signals are one only where the signals are
  same_signal : (s t : ℕ) → s < length names → t < length names → port_net front names s ≡ port_net front names t → s ≡ t
  same_signal s t low high e =
      let escape = append_cancel_left front (escaped (slice_index_or names s [])) (escaped (slice_index_or names t [])) e in
      let of = λ (i : ℕ) (lt : i < length names). All-at (λ name. All (λ b. b < 256) name) names i (slice_index_or names i []) bytes (slice_get-get_or names i [] lt) in
      let name = escapes_differ (slice_index_or names s []) (slice_index_or names t []) (of s low) (of t high) escape in
      sym (number_at names s apart low) ∙ ap (net_number names) name ∙ number_at names t apart high

  pub nets_apart : (signals : List ℕ) → AllByRecursion (λ s. s < length names) signals → IsDistinct nat_eq signals → IsDistinct (pointwise nat_eq) (map (port_net front names) signals)
  unfolding IsDistinct
  nets_apart [] low differ = tt
  nets_apart (s ∷ signals) low differ = (each signals low.1 differ.0, nets_apart signals low.1 differ.1)
    where
      each : (ts : List ℕ) → AllByRecursion (λ t. t < length names) ts → AllByRecursion (λ t. nat_eq s t ≡ false) ts
          → AllByRecursion (λ net. pointwise nat_eq (port_net front names s) net ≡ false) (map (port_net front names) ts)
      each [] lows others = tt
      each (t ∷ ts) lows others = (by (pointwise nat_eq (port_net front names s) (port_net front names t)) refl, each ts lows.1 others.1)
        where
          by : (b : Bool) → pointwise nat_eq (port_net front names s) (port_net front names t) ≡ b → pointwise nat_eq (port_net front names s) (port_net front names t) ≡ false
          by false e = e
          by true e =
              let same = same_signal s t low.0 lows.0 ((bytes_decides (port_net front names s) (port_net front names t)).0 e) in
              absurd (let never : nat_eq s t ≡ true = eq-eqb s t same in let other : nat_eq s t ≡ false = others.0 in cc)

-- numbers in a row differ and are low
pub range_apart : (a n : ℕ) → IsDistinct nat_eq (range_with_len a n)
unfolding IsDistinct
range_apart a zero = tt
range_apart a (suc n) = (each (a + 1) n (omega arith), range_apart (a + 1) n)
  where
    each : (b m : ℕ) → a < b → AllByRecursion (λ t. nat_eq a t ≡ false) (range_with_len b m)
    each b zero lt = tt
    each b (suc m) lt = (ne_eqb a b (λ e. omega (arith, e, lt)), each (b + 1) m (omega arith))

pub range_low : (a n most : ℕ) → a + n ≤ most → AllByRecursion (λ t. t < most) (range_with_len a n)
range_low a zero most few = tt
range_low a (suc n) most few = (omega arith, range_low (a + 1) n most (omega arith))

-- pins are pins, and outputs are outputs
pub are_pins : (names : List (List ℕ)) (signals : List ℕ) → AllByRecursion IsPin (map (port_net (codes "i_") names) signals)
are_pins names signals = AllByRecursion-map IsPin (port_net (codes "i_") names) signals (AllByRecursion-every (λ s. IsPin (port_net (codes "i_") names s)) (λ s. refl) signals)

pub are_outputs : (names : List (List ℕ)) (signals : List ℕ) → AllByRecursion IsOutput (map (port_net (codes "o_") names) signals)
are_outputs names signals = AllByRecursion-map IsOutput (port_net (codes "o_") names) signals (AllByRecursion-every (λ s. IsOutput (port_net (codes "o_") names s)) (λ s. refl) signals)

-- pins and outputs together differ
pub ports_apart : (names : List (List ℕ)) (inputs : ℕ) (outputs : List ℕ) → IsDistinct (pointwise nat_eq) names → All (λ name. All (λ b. b < 256) name) names
    → inputs ≤ length names → AllByRecursion (λ s. s < length names) outputs → IsDistinct nat_eq outputs
    → IsDistinct (pointwise nat_eq) (map (port_net (codes "i_") names) (range_with_len 0 inputs) ++ map (port_net (codes "o_") names) outputs)
ports_apart names inputs outputs apart bytes few low differ =
    let pins = map (port_net (codes "i_") names) (range_with_len 0 inputs) in
    let outs = map (port_net (codes "o_") names) outputs in
    IsDistinct-append (pointwise nat_eq) pins outs
    (nets_apart (codes "i_") names apart bytes (range_with_len 0 inputs) (range_low 0 inputs (length names) (omega arith)) (range_apart 0 inputs))
    (nets_apart (codes "o_") names apart bytes outputs low differ)
    (AreApart-from_start (codes "o_") pins outs
    (list_any-none (λ x. starts_with nat_eq x (codes "o_")) pins
    (AllByRecursion-map (λ x. starts_with nat_eq x (codes "o_") ≡ false) (port_net (codes "i_") names) (range_with_len 0 inputs)
    (AllByRecursion-every (λ s. starts_with nat_eq (port_net (codes "i_") names s) (codes "o_") ≡ false) (λ s. refl) (range_with_len 0 inputs))))
    (All-from_recursion IsOutput outs (are_outputs names outputs)))

pub ruleset port_nets = (ports_apart, are_pins, are_outputs)
