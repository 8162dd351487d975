-- The drivers of a file that has nothing to be refused for all differ.
use Rattle.std.proofs.Common.{◌≡◌, ℕ, suc, ◌<◌, ◌+◌, arith, length, ◌⊎◌, inl, inr, Bool, true, false, not, List, [], ◌∷◌, ◌++◌, map, filter, take, Some, refl, ap, sym, ◌∙◌, subst}
use Rattle.std.specs.Prelude.{◌≢◌, Contains, slice_get}
use Rattle.std.specs.List.{AllByRecursion, filter_map, flat_map}
use Rattle.std.proofs.lemmas.Cmp.{nat_list_eq_equiv}
use Rattle.std.proofs.lemmas.List.{map-append}
use Rattle.std.proofs.lemmas.List.Elements.{Contains-append_cases, Contains-append_left, Contains-append_right}
use Rattle.dom_base.proofs.Lists.{AllByRecursion-append, AllByRecursion-both, AllByRecursion-every, AllByRecursion-filter, AllByRecursion-from_places, AllByRecursion-map, AllByRecursion-weaker, Contains-slice_get, slice_get-append}
use Rattle.blif_ast.specs.BlifFileData.{BlifFileData}
use Rattle.blif_ast.specs.BlifModelData.{BlifModelData}
use Rattle.blif_ast.specs.Cards.{same}
use Rattle.model_calls.specs.declared.fault.FlatKind.TheVariants.{DuplicatePort, DrivenTwice, Undriven}
use Rattle.model_calls.specs.Ends.{End, controls, drivers, driven_end, end_at, main_inputs, output_of, readers, state_of}
use Rattle.model_calls.specs.Expanded.{PlacedPart, LatchPart, PlacedLatch, PlacedTable, TablePart, expanded, part_latch, latches, part_table, tables}
use Rattle.model_calls.specs.ModelFaults.{IsDuplicatePort, Port, ports, ports_in}
use Rattle.model_calls.specs.Numbering.{is_control_name, pins}
use Rattle.model_calls.specs.Ordered.{in_order}
use Rattle.model_calls.specs.Occurrences.{first_model, main_model}
use Rattle.model_calls.specs.Refusal.{Refusal, At}
use Rattle.model_calls.specs.Refusals.{HasRefusal}
use Rattle.model_calls.specs.SignalFaults.{IsDrivenTwice, IsUndriven, signals}
use Rattle.model_calls.specs.Signals.{Signal, signal_of}
use Rattle.model_calls.proofs.Apart.{Across, Apart, ApartBy, Apart-append, apart_by_places, apart_from_places, apart_in_order, each_in_order}
use Rattle.model_calls.proofs.Firsts.{none_holds}
use Rattle.network.proofs.Lists.{contains_map, count_twice, get_map, get_take}

-- the signal that a part drives
abbrev pub driven : PlacedPart → Signal
driven part = (driven_end part).signal

-- from parts to the tables and the latches among them

pub each_table : (Q : Signal → Type 0) (xs : List PlacedPart) → AllByRecursion (λ p. Q (driven p)) xs → AllByRecursion (λ t. Q (output_of t)) (filter_map part_table xs)
each_table Q [] h = tt
each_table Q (TablePart t ∷ xs) h = (h.0, each_table Q xs h.1)
each_table Q (LatchPart l ∷ xs) h = each_table Q xs h.1

pub each_latch : (Q : Signal → Type 0) (xs : List PlacedPart) → AllByRecursion (λ p. Q (driven p)) xs → AllByRecursion (λ l. Q (state_of l)) (filter_map part_latch xs)
each_latch Q [] h = tt
each_latch Q (TablePart t ∷ xs) h = each_latch Q xs h.1
each_latch Q (LatchPart l ∷ xs) h = (h.0, each_latch Q xs h.1)

apart_tables : (xs : List PlacedPart) → ApartBy driven xs → ApartBy output_of (filter_map part_table xs)
apart_tables [] a = tt
apart_tables (TablePart t ∷ xs) a = (each_table (λ s. output_of t ≢ s) xs a.0, apart_tables xs a.1)
apart_tables (LatchPart l ∷ xs) a = apart_tables xs a.1

apart_latches : (xs : List PlacedPart) → ApartBy driven xs → ApartBy state_of (filter_map part_latch xs)
apart_latches [] a = tt
apart_latches (TablePart t ∷ xs) a = apart_latches xs a.1
apart_latches (LatchPart l ∷ xs) a = (each_latch (λ s. state_of l ≢ s) xs a.0, apart_latches xs a.1)

-- latches and tables
abbrev Between : List PlacedLatch → List PlacedTable → Type 0
Between ls ts = AllByRecursion (λ l. AllByRecursion (λ t. state_of l ≢ output_of t) ts) ls

between : (xs : List PlacedPart) → ApartBy driven xs → Between (filter_map part_latch xs) (filter_map part_table xs)
between [] a = tt
between (TablePart t ∷ xs) a =
    AllByRecursion-both (λ l. state_of l ≢ output_of t) (λ l. AllByRecursion (λ u. state_of l ≢ output_of u) (filter_map part_table xs)) (filter_map part_latch xs)
    (each_latch (λ s. s ≢ output_of t) xs (AllByRecursion-weaker (λ p. output_of t ≢ driven p) (λ p. driven p ≢ output_of t) (λ p h e. h (sym e)) xs a.0))
    (between xs a.1)
between (LatchPart l ∷ xs) a = (each_table (λ s. state_of l ≢ s) xs a.0, between xs a.1)

apart_map : {X Y : Type 0} (g : X → Y) (xs : List X) → ApartBy g xs → Apart (map g xs)
apart_map g [] a = tt
apart_map g (x ∷ xs) a = (AllByRecursion-map (λ y. g x ≢ y) g xs a.0, apart_map g xs a.1)

across_map : {X Y Z : Type 0} (g : X → Z) (h : Y → Z) (xs : List X) (ys : List Y) → AllByRecursion (λ x. AllByRecursion (λ y. g x ≢ h y) ys) xs → Across (map g xs) (map h ys)
across_map g h xs ys a = AllByRecursion-map (λ x. AllByRecursion (λ y. x ≢ y) (map h ys)) g xs
    (AllByRecursion-weaker (λ x. AllByRecursion (λ y. g x ≢ h y) ys) (λ x. AllByRecursion (λ y. g x ≢ y) (map h ys)) (λ x each. AllByRecursion-map (λ y. g x ≢ y) h ys each) xs a)

apart_filter : {X : Type 0} (p : X → Bool) (xs : List X) → Apart xs → Apart (filter p xs)
apart_filter p [] a = tt
apart_filter p (x ∷ xs) a = by (apart_filter p xs a.1) (p x) refl
  where
    by : Apart (filter p xs) → (b : Bool) → p x ≡ b → Apart (filter p (x ∷ xs))
    by rest true e = rw e (AllByRecursion-weaker (λ y. (p y ≡ true) × (x ≢ y)) (λ y. x ≢ y) (λ y h. h.1) (filter p xs) (AllByRecursion-filter (λ y. x ≢ y) p xs a.0), rest)
    by rest false e = rw e rest

apart_by_injective : {X Y : Type 0} (g : X → Y) → ((x y : X) → g x ≡ g y → x ≡ y) → (xs : List X) → Apart xs → ApartBy g xs
apart_by_injective g inj [] a = tt
apart_by_injective g inj (x ∷ xs) a = (AllByRecursion-weaker (λ y. x ≢ y) (λ y. g x ≢ g y) (λ y h e. h (inj x y e)) xs a.0, apart_by_injective g inj xs a.1)

main_injective : (a b : List ℕ) → signal_of [] a ≡ signal_of [] b → a ≡ b
main_injective a b e = ap (λ (s : Signal). s.name) e

module _ (f : BlifFileData) (accepted : (r : Refusal) → HasRefusal f r → ⊥) where
  no_duplicate : (k : ℕ) (p : Port) → slice_get (ports f) k ≡ Some p → IsDuplicatePort [] p → ⊥
  no_duplicate k p e twice =
      none_holds IsDuplicatePort (ports f) (λ q first. accepted (At DuplicatePort q.line q.name) (record { element = q; first = first; line_is = refl; name_is = refl })) k p e twice

  port_of_main : (k : ℕ) (name : List ℕ) → slice_get (main_model f).inputs k ≡ Some name
      → slice_get (ports f) k ≡ Some (record { line = (main_model f).line; list = (main_model f).inputs; name = name })
  port_of_main k name e = by f.models refl e
    where
      by : (models : List BlifModelData) → f.models ≡ models → slice_get (first_model models).inputs k ≡ Some name
          → slice_get (flat_map (λ (m : BlifModelData). ports_in m.line m.inputs ++ ports_in m.line m.outputs) models) k
          ≡ Some (record { line = (first_model models).line; list = (first_model models).inputs; name = name })
      by [] is e = absurd cc
      by (m ∷ more) is e =
          slice_get-append (ports_in m.line m.inputs ++ ports_in m.line m.outputs) (flat_map (λ (n : BlifModelData). ports_in n.line n.inputs ++ ports_in n.line n.outputs) more) k
          (record { line = m.line; list = m.inputs; name = name })
          (slice_get-append (ports_in m.line m.inputs) (ports_in m.line m.outputs) k (record { line = m.line; list = m.inputs; name = name })
          (get_map (λ n. record { line = m.line; list = m.inputs; name = n }) m.inputs k name e))

  -- main inputs differ
  pub inputs_apart : Apart (main_model f).inputs
  inputs_apart = apart_from_places (main_model f).inputs
      (λ j k x y l a b e. no_duplicate j (record { line = (main_model f).line; list = (main_model f).inputs; name = x }) (port_of_main j x a)
      (count_twice (same x) (main_model f).inputs j k x y l a b (same_itself x) (ap (same x) (sym e) ∙ same_itself x)))
    where
      same_itself : (w : List ℕ) → same w w ≡ true
      same_itself w = nat_list_eq_equiv.refl w

  get_right : {X : Type 0} (xs ys : List X) (k : ℕ) (y : X) → slice_get ys k ≡ Some y → slice_get (xs ++ ys) (length xs + k) ≡ Some y
  get_right [] ys k y e = subst (λ n. slice_get ys n ≡ Some y) (let z : k ≡ 0 + k = omega arith in z) e
  get_right (x ∷ xs) ys k y e = subst (λ n. slice_get (x ∷ (xs ++ ys)) n ≡ Some y) (let z : suc (length xs + k) ≡ length (x ∷ xs) + k = omega arith in z) (get_right xs ys k y e)

  port_of_output : (k : ℕ) (name : List ℕ) → slice_get (main_model f).outputs k ≡ Some name
      → (j : ℕ) × (slice_get (ports f) j ≡ Some (record { line = (main_model f).line; list = (main_model f).outputs; name = name }))
  port_of_output k name e = by f.models refl e
    where
      by : (models : List BlifModelData) → f.models ≡ models → slice_get (first_model models).outputs k ≡ Some name
          → (j : ℕ) × (slice_get (flat_map (λ (m : BlifModelData). ports_in m.line m.inputs ++ ports_in m.line m.outputs) models) j
          ≡ Some (record { line = (first_model models).line; list = (first_model models).outputs; name = name }))
      by [] is e = absurd cc
      by (m ∷ more) is e = (
        length (ports_in m.line m.inputs) + k,
        slice_get-append (ports_in m.line m.inputs ++ ports_in m.line m.outputs) (flat_map (λ (n : BlifModelData). ports_in n.line n.inputs ++ ports_in n.line n.outputs) more) (length (ports_in m.line m.inputs) + k)
            (record { line = m.line; list = m.outputs; name = name })
            (get_right (ports_in m.line m.inputs) (ports_in m.line m.outputs) k (record { line = m.line; list = m.outputs; name = name })
            (get_map (λ n. record { line = m.line; list = m.outputs; name = n }) m.outputs k name e)),
      )

  -- main outputs differ
  pub output_once : (j k : ℕ) (x y : List ℕ) → j < k → slice_get (main_model f).outputs j ≡ Some x → slice_get (main_model f).outputs k ≡ Some y → x ≢ y
  output_once j k x y l a b e = let p = port_of_output j x a in
      no_duplicate p.0 (record { line = (main_model f).line; list = (main_model f).outputs; name = x }) p.1
      (count_twice (same x) (main_model f).outputs j k x y l a b (nat_list_eq_equiv.refl x) (ap (same x) (sym e) ∙ nat_list_eq_equiv.refl x))

  no_second : (k : ℕ) (part : PlacedPart) → slice_get (expanded f) k ≡ Some part → IsDrivenTwice f (take k (expanded f)) part → ⊥
  no_second k part e twice =
      none_holds (IsDrivenTwice f) (expanded f)
      (λ p first. accepted (At DrivenTwice (driven_end p).line (driven_end p).name) (record { element = p; first = first; line_is = refl; name_is = refl })) k part e twice

  abbrev SignalOf : End → Signal
  SignalOf e = e.signal

  map_map : (zs : List PlacedPart) → map SignalOf (map driven_end zs) ≡ map driven zs
  map_map [] = refl
  map_map (z ∷ zs) = ap (λ l. driven z ∷ l) (map_map zs)

  among : (xs : List End) (ys : List PlacedPart) (part : PlacedPart) → Contains (map SignalOf xs) (driven part) ⊎ Contains (map driven ys) (driven part) → Contains (signals (xs ++ map driven_end ys)) (driven part)
  among xs ys part h = subst (λ l. Contains l (driven part)) (sym (map-append SignalOf xs (map driven_end ys))) (by h)
    where
      by : Contains (map SignalOf xs) (driven part) ⊎ Contains (map driven ys) (driven part) → Contains (map SignalOf xs ++ map SignalOf (map driven_end ys)) (driven part)
      by (inl a) = Contains-append_left (map SignalOf xs) (map SignalOf (map driven_end ys)) (driven part) a
      by (inr b) = Contains-append_right (map SignalOf xs) (map SignalOf (map driven_end ys)) (driven part) (subst (λ l. Contains l (driven part)) (sym (map_map ys)) b)

  -- parts drive different signals
  pub parts_apart : ApartBy driven (expanded f)
  parts_apart = apart_by_places driven (expanded f) (λ j k a b l x y same. no_second k b y
      (among (main_inputs f) (take k (expanded f)) b
      (inr (subst (Contains (map driven (take k (expanded f)))) same
      (Contains-slice_get (map driven (take k (expanded f))) j (driven a) (get_map driven (take k (expanded f)) j a (get_take (expanded f) j k a l x)))))))

  -- and none that is a main input
  pub mains_apart : AllByRecursion (λ p. AllByRecursion (λ name. driven p ≢ signal_of [] name) (main_model f).inputs) (expanded f)
  mains_apart = AllByRecursion-from_places (λ p. AllByRecursion (λ name. driven p ≢ signal_of [] name) (main_model f).inputs) (expanded f) (λ k p e.
      AllByRecursion-from_places (λ name. driven p ≢ signal_of [] name) (main_model f).inputs (λ j name x same. no_second k p e
      (among (main_inputs f) (take k (expanded f)) p
      (inl (subst (Contains (map SignalOf (main_inputs f))) (sym same)
      (Contains-slice_get (map SignalOf (main_inputs f)) j (signal_of [] name)
      (get_map SignalOf (main_inputs f) j (end_at [] (main_model f).line name) (get_map (end_at [] (main_model f).line) (main_model f).inputs j name x))))))))

  -- each reader can't be without a driver
  pub readers_driven : AllByRecursion (λ e. (Contains (signals (drivers f)) e.signal → ⊥) → ⊥) (readers f)
  readers_driven = AllByRecursion-from_places (λ e. (Contains (signals (drivers f)) e.signal → ⊥) → ⊥) (readers f) (λ k e there none.
      none_holds (IsUndriven f) (readers f)
      (λ r first. accepted (At Undriven r.line r.name) (record { element = r; first = first; line_is = refl; name_is = refl })) k e there none)

  pub part_is_driven : (k : ℕ) (part : PlacedPart) → slice_get (expanded f) k ≡ Some part → Contains (signals (drivers f)) (driven part)
  part_is_driven k part e = among (main_inputs f) (expanded f) part (inr (Contains-slice_get (map driven (expanded f)) k (driven part) (get_map driven (expanded f) k part e)))

  -- what drives a signal
  pub driver_cases : (s : Signal) → Contains (signals (drivers f)) s
      → ((name : List ℕ) × Contains (main_model f).inputs name × (s ≡ signal_of [] name)) ⊎ ((part : PlacedPart) × Contains (expanded f) part × (s ≡ driven part))
  driver_cases s c = by (contains_map SignalOf (drivers f) s c)
    where
      by : (e : End) × Contains (drivers f) e × (s ≡ e.signal)
          → ((name : List ℕ) × Contains (main_model f).inputs name × (s ≡ signal_of [] name)) ⊎ ((part : PlacedPart) × Contains (expanded f) part × (s ≡ driven part))
      by (e, inside, is) = elim (Contains-append_cases (main_inputs f) (map driven_end (expanded f)) e inside) [
        | inl a ↦ let m = contains_map (end_at [] (main_model f).line) (main_model f).inputs e a in inl (m.0, m.1, is ∙ ap SignalOf m.2)
        | inr b ↦ let m = contains_map driven_end (expanded f) e b in inr (m.0, m.1, is ∙ ap SignalOf m.2)
      ]

  -- the signals of a network by number: pins, latch outputs and the outputs of tables in any order of theirs
  module _ (number : PlacedTable → ℕ) where
    main_apart : AllByRecursion (λ s. AllByRecursion (λ name. s ≢ signal_of [] name) (main_model f).inputs) (map driven (expanded f))
    main_apart = AllByRecursion-map (λ s. AllByRecursion (λ name. s ≢ signal_of [] name) (main_model f).inputs) driven (expanded f) mains_apart

    pins_before : {X : Type 0} (g : X → Signal) (xs : List X) → AllByRecursion (λ x. AllByRecursion (λ name. g x ≢ signal_of [] name) (main_model f).inputs) xs
        → AllByRecursion (λ name. AllByRecursion (λ x. signal_of [] name ≢ g x) xs) (pins f)
    pins_before g [] h = AllByRecursion-every (λ name. Unit {0}) (λ name. tt) (pins f)
    pins_before g (x ∷ xs) h = AllByRecursion-both (λ name. signal_of [] name ≢ g x) (λ name. AllByRecursion (λ z. signal_of [] name ≢ g z) xs) (pins f)
        (AllByRecursion-weaker (λ name. (not (is_control_name (slice_get (controls f) 0) name) ≡ true) × (g x ≢ signal_of [] name)) (λ name. signal_of [] name ≢ g x) (λ name d e. d.1 (sym e)) (pins f)
        (AllByRecursion-filter (λ name. g x ≢ signal_of [] name) (λ name. not (is_control_name (slice_get (controls f) 0) name)) (main_model f).inputs h.0))
        (pins_before g xs h.1)

    pub numbered_apart : Apart (map (signal_of []) (pins f) ++ map state_of (latches f) ++ map output_of (in_order number (tables f)))
    numbered_apart =
        Apart-append (map (signal_of []) (pins f) ++ map state_of (latches f)) (map output_of (in_order number (tables f)))
        (Apart-append (map (signal_of []) (pins f)) (map state_of (latches f))
        (apart_map (signal_of []) (pins f)
        (apart_by_injective (signal_of []) main_injective (pins f) (apart_filter (λ name. not (is_control_name (slice_get (controls f) 0) name)) (main_model f).inputs inputs_apart)))
        (apart_map state_of (latches f) (apart_latches (expanded f) parts_apart))
        (across_map (signal_of []) state_of (pins f) (latches f)
        (pins_before state_of (latches f) (each_latch (λ s. AllByRecursion (λ name. s ≢ signal_of [] name) (main_model f).inputs) (expanded f) mains_apart))))
        (apart_map output_of (in_order number (tables f)) (apart_in_order number output_of (tables f) (apart_tables (expanded f) parts_apart)))
        (AllByRecursion-append (λ s. AllByRecursion (λ o. s ≢ o) (map output_of (in_order number (tables f)))) (map (signal_of []) (pins f)) (map state_of (latches f))
        (across_map (signal_of []) output_of (pins f) (in_order number (tables f))
        (pins_before output_of (in_order number (tables f))
        (each_in_order number (λ t. AllByRecursion (λ name. output_of t ≢ signal_of [] name) (main_model f).inputs) (tables f)
        (each_table (λ s. AllByRecursion (λ name. s ≢ signal_of [] name) (main_model f).inputs) (expanded f) mains_apart))))
        (across_map state_of output_of (latches f) (in_order number (tables f))
        (AllByRecursion-weaker (λ l. AllByRecursion (λ t. state_of l ≢ output_of t) (tables f)) (λ l. AllByRecursion (λ t. state_of l ≢ output_of t) (in_order number (tables f)))
        (λ l each. each_in_order number (λ t. state_of l ≢ output_of t) (tables f) each) (latches f) (between (expanded f) parts_apart))))
