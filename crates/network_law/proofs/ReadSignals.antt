-- Where a file has nothing to be refused for, each signal that is read stands in the list of the network's signals.
use Rattle.std.proofs.Common.{◌≡◌, ℕ, ◌⊎◌, inl, inr, Bool, true, false, not, cond, List, [], ◌∷◌, ◌++◌, map, filter, Option, Some, None, refl, ap, sym, ◌∙◌, subst, arith}
use Rattle.std.specs.Prelude.{◌&&◌, Contains, nat_lt, slice_get, if◌then◌else◌}
use Rattle.std.specs.List.{flat_map}
use Rattle.std.specs.Cmp.Lexicographic.{same_text}
use Rattle.std.proofs.lemmas.List.Elements.{Contains-append_cases, Contains-append_left, Contains-append_right}
use Rattle.dom_base.proofs.Bools.{and_both, not_true}
use Rattle.dom_base.proofs.Lists.{AllByRecursion-contains, Contains-first, Contains-later, slice_get-contained}
use Rattle.blif_ast.specs.BlifFileData.{BlifFileData}
use Rattle.blif_ast.specs.Cards.{same}
use Rattle.blif_ast.specs.InstanceData.{InstanceData}
use Rattle.model_calls.specs.declared.fault.FlatKind.TheVariants.{ControlUsed}
use Rattle.model_calls.specs.Ends.{End, controls, driven_end, drivers, main_outputs, output_of, read_ends, readers, state_of}
use Rattle.model_calls.specs.Expanded.{LatchPart, PlacedPart, PlacedTable, TablePart, expanded, latches, part_latch, part_table, tables}
use Rattle.model_calls.specs.Numbering.{is_control_name, is_main, pins, signals_by_number}
use Rattle.model_calls.specs.Occurrences.{main_model}
use Rattle.model_calls.specs.Ordered.{in_order, with_element}
use Rattle.model_calls.specs.Refusal.{At, Refusal}
use Rattle.model_calls.specs.Refusals.{HasRefusal}
use Rattle.model_calls.specs.SignalFaults.{IsAtControl, ends_but_inputs, part_ends, signals}
use Rattle.model_calls.specs.Signals.{Signal, signal_of}
use Rattle.net_flatten.proofs.ClockFaults.{kept_contains}
use Rattle.model_calls.proofs.Drivers.{driven, driver_cases, readers_driven}
use Rattle.model_calls.proofs.Firsts.{none_holds}
use Rattle.model_calls.proofs.Fitting.{contains_cons}
use Rattle.net_flatten.proofs.NetworkOrder.{contains_kept}
use Rattle.model_calls.proofs.Pairs.{contains_to}
use Rattle.network_law.proofs.ListDecisions.{dec_contains}
use Rattle.network_law.proofs.SameSignals.{dec_signal}

-- what lists are put together of stands in longer ones
flat_within : {X Y : Type 0} (g h : X → List Y) → ((x : X) (y : Y) → Contains (g x) y → Contains (h x) y)
    → (xs : List X) (y : Y) → Contains (flat_map g xs) y → Contains (flat_map h xs) y
flat_within g h inside [] y c = c
flat_within g h inside (x ∷ xs) y c = elim (Contains-append_cases (g x) (flat_map g xs) y c) [
  | inl first ↦ Contains-append_left (h x) (flat_map h xs) y (inside x y first)
  | inr rest ↦ Contains-append_right (h x) (flat_map h xs) y (flat_within g h inside xs y rest)
]

-- putting in order loses nothing
contains_with : {X : Type 0} (number : X → ℕ) (e : X) (xs : List X) (x : X) → (e ≡ x) ⊎ Contains xs x
    → Contains (with_element number e xs) x
contains_with number e [] x (inl is) = subst (Contains (e ∷ [])) is (Contains-first e [])
contains_with number e [] x (inr (k, l, q)) = absurd (omega (arith, l))
contains_with number e (y ∷ ys) x c = by (nat_lt (number y) (number e)) c (contains_with number e ys x)
  where
    later : Contains (y ∷ ys) x → (Contains ys x → Contains (with_element number e ys) x)
        → Contains (y ∷ with_element number e ys) x
    later d rest = elim (contains_cons y ys x d) [
      | inl is ↦ subst (Contains (y ∷ with_element number e ys)) is (Contains-first y (with_element number e ys))
      | inr there ↦ Contains-later y (with_element number e ys) x (rest there)
    ]

    by : (b : Bool) → (e ≡ x) ⊎ Contains (y ∷ ys) x → ((e ≡ x) ⊎ Contains ys x → Contains (with_element number e ys) x)
        → Contains (if b then y ∷ with_element number e ys else e ∷ y ∷ ys) x
    by true (inl is) rest = Contains-later y (with_element number e ys) x (rest (inl is))
    by true (inr d) rest = later d (λ there. rest (inr there))
    by false (inl is) rest = subst (Contains (e ∷ y ∷ ys)) is (Contains-first e (y ∷ ys))
    by false (inr d) rest = Contains-later e (y ∷ ys) x d

contains_in_order : {X : Type 0} (number : X → ℕ) (xs : List X) (x : X) → Contains xs x → Contains (in_order number xs) x
contains_in_order number [] x c = c
contains_in_order number (y ∷ ys) x c = elim (contains_cons y ys x c) [
  | inl is ↦ contains_with number y (in_order number ys) x (inl is)
  | inr later ↦ contains_with number y (in_order number ys) x (inr (contains_in_order number ys x later))
]

-- a signal of the main model by the tests of its path and name
main_signal : (s : Signal) (name : List ℕ) → is_main s.path ≡ true → same s.name name ≡ true → s ≡ signal_of [] name
main_signal s name main named =
    let path = none s.path main in
    let word = same_text s.name name (sym named) in
    λ i. record { path = path i; name = word i }
  where
    none : (path : List InstanceData) → is_main path ≡ true → path ≡ []
    none [] e = refl
    none (i ∷ up) e = absurd cc

module _ (f : BlifFileData) (accepted : (r : Refusal) → HasRefusal f r → ⊥) where
  reader_is_end : (e : End) → Contains (readers f) e → Contains (ends_but_inputs f) e
  reader_is_end e c = elim (Contains-append_cases (flat_map read_ends (expanded f)) (main_outputs f) e c) [
    | inl read ↦ Contains-append_left (flat_map part_ends (expanded f)) (main_outputs f) e
        (flat_within read_ends part_ends (λ part x d. Contains-append_left (read_ends part) (driven_end part ∷ []) x d) (expanded f) e read)
    | inr output ↦ Contains-append_right (flat_map part_ends (expanded f)) (main_outputs f) e output
  ]

  -- no end but main inputs is at the control
  control_unused : (control : End) → slice_get (controls f) 0 ≡ Some control
      → (e : End) → Contains (ends_but_inputs f) e → e.signal ≡ control.signal → ⊥
  control_unused control is e c same =
      let at = slice_get-contained (ends_but_inputs f) e c in
      none_holds (IsAtControl control.signal) (ends_but_inputs f)
      (λ d first. accepted (At ControlUsed d.line control.name) (record {
        control = control;
        control_is = is;
        at = record { element = d; first = first; line_is = refl; name_is = refl };
      })) at.0 e at.1 same

  no_control : (e : End) → Contains (ends_but_inputs f) e → (name : List ℕ) → e.signal ≡ signal_of [] name
      → is_control_name (slice_get (controls f) 0) name ≡ false
  no_control e c name is = by (slice_get (controls f) 0) refl
    where
      by : (first : Option End) → slice_get (controls f) 0 ≡ first → is_control_name first name ≡ false
      by None at = refl
      by (Some control) at = not_true (is_main control.signal.path && same control.signal.name name)
          (λ t. let both = and_both (is_main control.signal.path) (same control.signal.name name) t in
          control_unused control at e c (is ∙ sym (main_signal control.signal name both.0 both.1)))

  is_driven : (e : End) → Contains (readers f) e → Contains (signals (drivers f)) e.signal
  is_driven e c = elim (dec_contains dec_signal (signals (drivers f)) e.signal) [
    | inl there ↦ there
    | inr none ↦ absurd (AllByRecursion-contains (λ (x : End). (Contains (signals (drivers f)) x.signal → ⊥) → ⊥) (readers f) e
        (readers_driven f accepted) c none)
  ]

  module _ (number : PlacedTable → ℕ) where
    abbrev ordered : List PlacedTable
    ordered = in_order number (tables f)

    abbrev before_tables : List Signal
    before_tables = map (signal_of []) (pins f) ++ map state_of (latches f)

    pin_there : (name : List ℕ) → Contains (pins f) name → Contains (signals_by_number f ordered) (signal_of [] name)
    pin_there name c = Contains-append_left before_tables (map output_of ordered) (signal_of [] name)
        (Contains-append_left (map (signal_of []) (pins f)) (map state_of (latches f)) (signal_of [] name)
        (contains_to (signal_of []) (pins f) name c))

    part_there : (part : PlacedPart) → Contains (expanded f) part → Contains (signals_by_number f ordered) (driven part)
    part_there (TablePart t) c =
        let at = slice_get-contained (expanded f) (TablePart t) c in
        Contains-append_right before_tables (map output_of ordered) (output_of t)
        (contains_to output_of ordered t
        (contains_in_order number (tables f) t (kept_contains part_table (expanded f) at.0 (TablePart t) t at.1 refl)))
    part_there (LatchPart l) c =
        let at = slice_get-contained (expanded f) (LatchPart l) c in
        Contains-append_left before_tables (map output_of ordered) (state_of l)
        (Contains-append_right (map (signal_of []) (pins f)) (map state_of (latches f)) (state_of l)
        (contains_to state_of (latches f) l (kept_contains part_latch (expanded f) at.0 (LatchPart l) l at.1 refl)))

    pub read_there : (e : End) → Contains (readers f) e → Contains (signals_by_number f ordered) e.signal
    read_there e c = elim (driver_cases f accepted e.signal (is_driven e c)) [
      | inl main ↦ subst (Contains (signals_by_number f ordered)) (sym main.2)
          (pin_there main.0
          (contains_kept (λ name. not (is_control_name (slice_get (controls f) 0) name)) (main_model f).inputs main.0 main.1
          (ap not (no_control e (reader_is_end e c) main.0 main.2))))
      | inr part ↦ subst (Contains (signals_by_number f ordered)) (sym part.2) (part_there part.0 part.1)
    ]
