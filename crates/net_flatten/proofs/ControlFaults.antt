-- Readers and drivers of the signal that controls the latches, by numbers and by signals.
use Rattle.std.proofs.Common.{◌≡◌, ℕ, suc, ◌<◌, ◌⊎◌, inl, inr, List, [], ◌∷◌, ◌++◌, append_assoc, drop, length, map, take, Option, Some, None, refl, ap, sym, ◌∙◌, subst, arith}
use Rattle.std.specs.Prelude.{◌≢◌, Contains, IsSome, option_and_then, option_map, slice_get}
use Rattle.std.specs.List.{AllByRecursion, filter_map, flat_map}
use Rattle.std.proofs.lemmas.Bool.{cases_eq}
use Rattle.std.proofs.lemmas.List.{map-append, take_all}
use Rattle.dom_base.proofs.Lists.{AllByRecursion-append, AllByRecursion-contains, AllByRecursion-from_places, Contains-slice_get, filter_map-none}
use Rattle.blif_ast.specs.BlifFileData.{BlifFileData}
use Rattle.blif_ast.specs.declared.latch.Control.{Control}
use Rattle.net_flatten.specs.declared.clocking.ControlAt.{ControlAt}
use Rattle.model_calls.specs.declared.fault.FlatKind.TheVariants.{ControlUsed}
use Rattle.part_numbers.specs.CheckOutcomes.{IsAtControlOf, IsLineAt}
use Rattle.net_flatten.specs.ClockSearches.{HasControl, IsAtNumber, IsControlFound, IsFirstControl}
use Rattle.model_calls.specs.Ends.{Clocking, End, clocking, clocking_of, controls, driven_end, end_at, main_outputs, read_ends}
use Rattle.model_calls.specs.Expanded.{LatchPart, PlacedPart, TablePart, expanded, part_latch}
use Rattle.model_calls.specs.FirstFaults.{NoneHolds}
use Rattle.net_flatten.specs.FoundFirst.{IsFirstAt, IsFoundFirst}
use Rattle.part_numbers.specs.NumberedFiles.{IsNumberedFile, NumberedFileData, NumberedPartData, card_of_part, numbered_part, placed_part}
use Rattle.model_calls.specs.Occurrences.{main_model}
use Rattle.part_numbers.specs.PartCards.{card_control}
use Rattle.model_calls.specs.Refusals.{IsOfKind, IsReported}
use Rattle.model_calls.specs.SignalFaults.{IsAtControl, ends_but_inputs, part_ends, signals}
use Rattle.model_calls.specs.Signals.{Signal}
use Rattle.net_flatten.proofs.ClockFaults.{clockings_of_parts, control_alike, control_end, control_of_number, kept_twice, number_of_control}
use Rattle.model_calls.proofs.EachPart.{each_flat}
use Rattle.model_calls.proofs.Fitting.{contains_cons}
use Rattle.network.proofs.IndexedLists.{split_at, take_get}
use Rattle.network.proofs.Lists.{get_map, get_of_map}
use Rattle.part_numbers.proofs.NumberedEnds.{Number, Number-append, drives_number, number_there, outputs_number, part_at, placed_at, reads_number}
use Rattle.net_flatten.proofs.Splits.{first_by_itself, flat_split, kept_from, kept_split}

-- the first place of an end at a signal, with none before it
abbrev FirstAtSignal : List End → Signal → Type 0
FirstAtSignal ends s = (j : ℕ) × (e : End) × (slice_get ends j ≡ Some e) × (e.signal ≡ s) × AllByRecursion (λ (d : End). d.signal ≡ s → ⊥) (take j ends)

controls_of_parts : (f : BlifFileData) → controls f ≡ filter_map control_end (expanded f)
controls_of_parts f = ap (filter_map (λ (c : Clocking). c.signal)) (clockings_of_parts f) ∙ kept_twice (λ (c : Clocking). c.signal) (λ x. option_and_then clocking_of (part_latch x)) (expanded f)

name_by_end : (x : PlacedPart) (e : End) → control_end x ≡ Some e → card_control (card_of_part x) ≡ Some e.name
name_by_end (TablePart t) e found = absurd cc
name_by_end (LatchPart l) e found = by l.latch.control found
  where
    named : (o : Option (List ℕ)) → option_map (end_at l.path l.latch.line) o ≡ Some e → o ≡ Some e.name
    named None d = absurd cc
    named (Some w) d = let i : end_at l.path l.latch.line w ≡ e = cc in ap (λ (g : End). Some g.name) i

    by : (o : Option Control) → option_and_then (λ (c : Clocking). c.signal) (option_map (clocking l) o) ≡ Some e → option_and_then (λ (c : Control). c.signal) o ≡ Some e.name
    by None d = absurd cc
    by (Some c) d = named c.signal d

-- all ends of a part are on its line
lines_of_part : (x : PlacedPart) → AllByRecursion (λ (e : End). e.line ≡ (driven_end x).line) (part_ends x)
lines_of_part (TablePart t) = AllByRecursion-append (λ (e : End). e.line ≡ t.table.line) (map (end_at t.path t.table.line) t.table.inputs) (end_at t.path t.table.line t.table.output ∷ [])
    (AllByRecursion-from_places (λ (e : End). e.line ≡ t.table.line) (map (end_at t.path t.table.line) t.table.inputs)
    (λ k e at. let h = get_of_map (end_at t.path t.table.line) t.table.inputs k e at in ap (λ (d : End). d.line) (sym h.2))) (refl, tt)
lines_of_part (LatchPart l) = (refl, (refl, tt))

module _ (f : BlifFileData) (all : List Signal) (n : NumberedFileData) (is : IsNumberedFile f all n) where
  -- the numbers of a part's ends
  ends_number : (p : NumberedPartData) (x : PlacedPart) → numbered_part f all p ≡ placed_part x → Number all (p.reads ++ p.drives ∷ []) (signals (part_ends x))
  ends_number p x e = subst (Number all (p.reads ++ p.drives ∷ [])) (sym (map-append (λ (d : End). d.signal) (read_ends x) (driven_end x ∷ [])))
      (Number-append all p.reads (p.drives ∷ []) (signals (read_ends x)) ((driven_end x).signal ∷ []) (reads_number f all n is p x e) (ap (λ o. o ∷ []) (drives_number f all n is p x e)))

  module _ (s : ℕ) (control : Signal) (at_control : slice_get all s ≡ Some control) where
    -- no end is at the signal where no number is the signal's
    none_at : (numbers : List ℕ) (ends : List End) → Number all numbers (signals ends) → (Contains numbers s → ⊥) → AllByRecursion (λ (e : End). e.signal ≡ control → ⊥) ends
    none_at numbers ends number none = AllByRecursion-from_places (λ (e : End). e.signal ≡ control → ⊥) ends (λ k e at same.
        none (number_there all is.apart numbers (signals ends) s control number at_control
        (Contains-slice_get (signals ends) k control (get_map (λ (d : End). d.signal) ends k e at ∙ ap Some same))))

    -- and the first end at the signal where one is
    first_at_number : (numbers : List ℕ) (ends : List End) → Number all numbers (signals ends) → Contains numbers s → FirstAtSignal ends control
    first_at_number [] ends number (k, l, e) = absurd (omega (arith, l))
    first_at_number (x ∷ xs) [] number c = absurd cc
    first_at_number (x ∷ xs) (e ∷ es) number c = by (first_at_number xs es) (cases_eq x s)
      where
        here : slice_get all x ≡ Some e.signal
        here = cc

        rest : Number all xs (signals es)
        rest = cc

        by : (Number all xs (signals es) → Contains xs s → FirstAtSignal es control) → (x ≡ s) ⊎ (x ≢ s) → FirstAtSignal (e ∷ es) control
        by deeper (inl same) =
            let i : Some e.signal ≡ Some control = sym here ∙ ap (slice_get all) same ∙ at_control in
            let equal : e.signal ≡ control = cc in
            (0, e, refl, equal, tt)
        by deeper (inr other) = elim (contains_cons x xs s c) [
          | inl same ↦ absurd (other same)
          | inr later ↦ let r = deeper rest later in (suc r.0, r.1, r.2, r.3, ((λ equal. other (is.apart x s control (here ∙ ap Some equal) at_control)), r.4))
        ]

    -- parts before an index that aren't at the number have no end at the signal
    parts_apart_from : (k : ℕ) → ((j : ℕ) (p : NumberedPartData) → j < k → slice_get n.parts j ≡ Some p → IsAtNumber s (take j n.parts) p → ⊥)
        → AllByRecursion (λ (e : End). e.signal ≡ control → ⊥) (flat_map part_ends (take k (expanded f)))
    parts_apart_from k none = each_flat (λ (e : End). e.signal ≡ control → ⊥) part_ends (take k (expanded f))
        (AllByRecursion-from_places (λ x. AllByRecursion (λ (e : End). e.signal ≡ control → ⊥) (part_ends x)) (take k (expanded f)) (λ j x at.
        let t = take_get (expanded f) k j x at in
        let h = placed_at f all n is j x t.1 in
        none_at (h.0.reads ++ h.0.drives ∷ []) (part_ends x) (ends_number h.0 x h.2) (none j h.0 t.0 h.1)))

    all_apart_from : NoneHolds (IsAtNumber s) n.parts → AllByRecursion (λ (e : End). e.signal ≡ control → ⊥) (flat_map part_ends (expanded f))
    all_apart_from none = subst (λ xs. AllByRecursion (λ (e : End). e.signal ≡ control → ⊥) (flat_map part_ends xs)) (take_all (length (expanded f)) (expanded f) (omega arith))
        (parts_apart_from (length (expanded f)) (λ j p l. none j p))

    abbrev Reported : List ℕ → ℕ → List ℕ → Type 0
    Reported named line name = IsReported (IsAtControl control) (ends_but_inputs f) (λ e. e.line) (λ e. named) line name

    -- the first end at the signal, where a part is the first at the number
    first_used : (k : ℕ) (x : PlacedPart) → slice_get (expanded f) k ≡ Some x → IsFirstAt (IsAtNumber s) n.parts k → (named : List ℕ) (line : ℕ) (name : List ℕ) → line ≡ (driven_end x).line → name ≡ named → Reported named line name
    first_used k x there first named line name line_is name_is =
        let h = placed_at f all n is k x there in
        let i : Some h.0 ≡ Some first.element = sym h.1 ∙ first.there in
        let same : first.element ≡ h.0 = cc in
        let r = first_at_number (h.0.reads ++ h.0.drives ∷ []) (part_ends x) (ends_number h.0 x h.2) (subst (λ (p : NumberedPartData). Contains (p.reads ++ p.drives ∷ []) s) same first.holds) in
        let split = flat_split part_ends (expanded f) k x r.0 r.1 there r.2 in
        let on_line = AllByRecursion-contains (λ (e : End). e.line ≡ (driven_end x).line) (part_ends x) r.1 (lines_of_part x) (Contains-slice_get (part_ends x) r.0 r.1 r.2) in
        record {
          element = r.1;
          first = first_by_itself (λ (e : End). e.signal ≡ control) (ends_but_inputs f) (flat_map part_ends (take k (expanded f)) ++ take r.0 (part_ends x)) (split.0 ++ main_outputs f) r.1
              (ap (λ l. l ++ main_outputs f) split.1 ∙ append_assoc (flat_map part_ends (take k (expanded f)) ++ take r.0 (part_ends x)) (r.1 ∷ split.0) (main_outputs f))
              r.3
              (AllByRecursion-append (λ (e : End). e.signal ≡ control → ⊥) (flat_map part_ends (take k (expanded f))) (take r.0 (part_ends x)) (parts_apart_from k first.none_before) r.4);
          line_is = line_is ∙ sym on_line;
          name_is = name_is;
        }

    -- or the first main output at it, where no part is
    first_used_output : NoneHolds (IsAtNumber s) n.parts → Contains n.outputs s → (named : List ℕ) (line : ℕ) (name : List ℕ) → line ≡ (main_model f).line → name ≡ named → Reported named line name
    first_used_output none c named line name line_is name_is =
        let r = first_at_number n.outputs (main_outputs f) (outputs_number f all n is) c in
        let split = split_at (main_outputs f) r.0 r.1 r.2 in
        let o = get_of_map (end_at [] (main_model f).line) (main_model f).outputs r.0 r.1 r.2 in
        record {
          element = r.1;
          first = first_by_itself (λ (e : End). e.signal ≡ control) (ends_but_inputs f) (flat_map part_ends (expanded f) ++ take r.0 (main_outputs f)) (drop (suc r.0) (main_outputs f)) r.1
              (ap (λ l. flat_map part_ends (expanded f) ++ l) split ∙ sym (append_assoc (flat_map part_ends (expanded f)) (take r.0 (main_outputs f)) (r.1 ∷ drop (suc r.0) (main_outputs f))))
              r.3
              (AllByRecursion-append (λ (e : End). e.signal ≡ control → ⊥) (flat_map part_ends (expanded f)) (take r.0 (main_outputs f)) (all_apart_from none) r.4);
          line_is = line_is ∙ ap (λ (e : End). e.line) o.2;
          name_is = name_is;
        }

    none_used : NoneHolds (IsAtNumber s) n.parts → (Contains n.outputs s → ⊥) → (k : ℕ) (e : End) → slice_get (ends_but_inputs f) k ≡ Some e → e.signal ≡ control → ⊥
    none_used parts outputs k e at = AllByRecursion-contains (λ (d : End). d.signal ≡ control → ⊥) (ends_but_inputs f) e
        (AllByRecursion-append (λ (d : End). d.signal ≡ control → ⊥) (flat_map part_ends (expanded f)) (main_outputs f) (all_apart_from parts)
        (none_at n.outputs (main_outputs f) (outputs_number f all n is) outputs)) (Contains-slice_get (ends_but_inputs f) k e at)

  -- the first control of the expanded list is that of the first latch with a control number
  pub record FirstControl (at : ControlAt) : Type 0 where
    pub control : End
    pub there : slice_get (controls f) 0 ≡ Some control
    pub number_is : slice_get all at.number ≡ Some control.signal
    part : PlacedPart
    part_there : slice_get (expanded f) at.latch ≡ Some part
    named : card_control (card_of_part part) ≡ Some control.name

  pub first_control : (at : ControlAt) → IsFirstControl n.parts at → FirstControl at
  first_control at first =
      let x = part_at f all n is at.latch first.part first.there in
      let e = control_of_number f all n is first.part.control (control_end x.0) at.number (control_alike f all n is first.part x.0 x.2) first.control_is in
      let split = kept_split control_end (expanded f) at.latch x.0 e.0 x.1 e.1 in
      let none : filter_map control_end (take at.latch (expanded f)) ≡ [] = filter_map-none control_end (take at.latch (expanded f)) (AllByRecursion-from_places (λ y. control_end y ≡ None) (take at.latch (expanded f)) (λ k y there. without k y there (control_end y) refl)) in
      record {
        control = e.0;
        there = ap (λ l. slice_get l 0) (controls_of_parts f ∙ split.1 ∙ ap (λ l. l ++ e.0 ∷ split.0) none);
        number_is = e.2;
        part = x.0;
        part_there = x.1;
        named = name_by_end x.0 e.0 e.1;
      }
    where
      without : (k : ℕ) (y : PlacedPart) → slice_get (take at.latch (expanded f)) k ≡ Some y → (o : Option End) → control_end y ≡ o → control_end y ≡ None
      without k y there None found = found
      without k y there (Some d) found =
          let t = take_get (expanded f) at.latch k y there in
          let h = placed_at f all n is k y t.1 in
          let m = number_of_control f all n is h.0.control (control_end y) d (control_alike f all n is h.0 y h.2) found in
          absurd (first.none_before k h.0 t.0 h.1 (subst IsSome (sym m.1) refl))

  same_name : {IsLine : ℕ → Type 0} (at : ControlAt) (c : FirstControl at) (line : ℕ) (name : List ℕ) → IsAtControlOf f at.latch IsLine line name → name ≡ c.control.name
  same_name at c line name reported =
      let i : Some c.part ≡ Some reported.part = sym c.part_there ∙ reported.there in
      let same : c.part ≡ reported.part = cc in
      let names : Some c.control.name ≡ Some name = sym c.named ∙ ap (λ x. card_control (card_of_part x)) same ∙ reported.name_is in
      cc

  -- there is no control where no latch names one
  pub no_first_control : NoneHolds HasControl n.parts → (control : End) → slice_get (controls f) 0 ≡ Some control → ⊥
  no_first_control none control is_first =
      let h = kept_from control_end (expanded f) control 0 (ap (λ l. slice_get l 0) (sym (controls_of_parts f)) ∙ is_first) in
      let p = placed_at f all n is h.0 h.1 h.2 in
      let m = number_of_control f all n is p.0.control (control_end h.1) control (control_alike f all n is p.0 h.1 p.2) h.3 in
      none h.0 p.0 p.1 (subst IsSome (sym m.1) refl)

  -- and the file isn't refused for one
  pub no_control : NoneHolds HasControl n.parts → (line : ℕ) (name : List ℕ) → IsOfKind f ControlUsed line name → ⊥
  no_control none line name r = no_first_control none r.control r.control_is

  -- nor where nothing else is at the control
  pub control_unused : (at : ControlAt) → IsFirstControl n.parts at → NoneHolds (IsAtNumber at.number) n.parts → (Contains n.outputs at.number → ⊥) → (line : ℕ) (name : List ℕ) → IsOfKind f ControlUsed line name → ⊥
  control_unused at first parts outputs line name r =
      let c = first_control at first in
      let i : Some r.control ≡ Some c.control = sym r.control_is ∙ c.there in
      let same : r.control ≡ c.control = cc in
      none_used at.number c.control.signal c.number_is parts outputs r.at.first.index r.at.element r.at.first.there (r.at.first.holds ∙ ap (λ (e : End). e.signal) same)

  -- and it is refused at the first part there, or the first output
  pub used_at_part : (at : ControlAt) → IsFirstControl n.parts at → (k : ℕ) → IsFirstAt (IsAtNumber at.number) n.parts k
      → (line : ℕ) (name : List ℕ) → IsAtControlOf f at.latch (IsLineAt f k) line name → IsOfKind f ControlUsed line name
  used_at_part at first k here line name reported =
      let c = first_control at first in
      record {
        control = c.control;
        control_is = c.there;
        at = first_used at.number c.control.signal c.number_is k reported.line_is.part reported.line_is.there here c.control.name line name reported.line_is.line_is (same_name at c line name reported);
      }

  pub used_at_output : (at : ControlAt) → IsFirstControl n.parts at → NoneHolds (IsAtNumber at.number) n.parts → Contains n.outputs at.number
      → (line : ℕ) (name : List ℕ) → IsAtControlOf f at.latch (λ l. l ≡ (main_model f).line) line name → IsOfKind f ControlUsed line name
  used_at_output at first parts there line name reported =
      let c = first_control at first in
      record {
        control = c.control;
        control_is = c.there;
        at = first_used_output at.number c.control.signal c.number_is parts there c.control.name line name reported.line_is (same_name at c line name reported);
      }

-- where no latch was found that a signal controls, none is
pub none_controlled : (parts : List NumberedPartData) (found : Option ControlAt) → IsControlFound parts found → ((at : ControlAt) → found ≡ Some at → ⊥) → NoneHolds HasControl parts
none_controlled parts None h none = h
none_controlled parts (Some at) h none = absurd (none at refl)

pub none_found : {Element : Type 0} (Holds : List Element → Element → Type 0) (all : List Element) (found : Option ℕ) → IsFoundFirst Holds all found → ((k : ℕ) → found ≡ Some k → ⊥) → NoneHolds Holds all
none_found Holds all None h none = h
none_found Holds all (Some k) h none = absurd (none k refl)
