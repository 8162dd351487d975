-- Signals with two drivers, and readers of signals with none, by numbers and by signals.
use Rattle.std.proofs.Common.{◌≡◌, ℕ, suc, ◌<◌, ◌+◌, Bool, true, false, List, [], ◌∷◌, ◌++◌, append_assoc, drop, length, map, take, Option, Some, None, refl, ap, sym, ◌∙◌, subst, arith}
use Rattle.std.specs.Prelude.{Contains, IsSomeAnd, slice_get, slice_index_or}
use Rattle.std.specs.List.{AllByRecursion, flat_map}
use Rattle.std.proofs.lemmas.List.{take_all}
use Rattle.std.proofs.lemmas.Option.{slice_get-get_or, slice_get_within}
use Rattle.dom_base.proofs.Lists.{AllByRecursion-append, AllByRecursion-contains, AllByRecursion-from_places, Contains-slice_get}
use Rattle.blif_ast.specs.BlifFileData.{BlifFileData}
use Rattle.net_flatten.specs.declared.driven.ReadAt.{ReadAt}
use Rattle.model_calls.specs.declared.fault.FlatKind.TheVariants.{DrivenTwice, Undriven}
use Rattle.part_numbers.specs.CheckOutcomes.{IsAtInput, IsAtMainOutput, IsAtOutput}
use Rattle.net_flatten.specs.DriverSearches.{IsFirstOutside, IsFirstRead, IsOutsideSet}
use Rattle.model_calls.specs.Ends.{End, driven_end, drivers, end_at, main_inputs, main_outputs, read_ends, readers}
use Rattle.model_calls.specs.Expanded.{PlacedPart, expanded}
use Rattle.model_calls.specs.FirstFaults.{NoneHolds}
use Rattle.net_flatten.specs.FoundFirst.{IsFirstAt}
use Rattle.model_calls.specs.NumberSets.{IsSetOf}
use Rattle.part_numbers.specs.NumberedFaults.{IsDrivenAgain, driven_by}
use Rattle.part_numbers.specs.NumberedFiles.{IsNumberedFile, NumberedFileData, NumberedPartData, numbered_part, placed_part}
use Rattle.model_calls.specs.Occurrences.{main_model}
use Rattle.model_calls.specs.Refusals.{IsOfKind}
use Rattle.model_calls.specs.SignalFaults.{IsDrivenTwice, IsUndriven, signals}
use Rattle.model_calls.specs.Signals.{Signal}
use Rattle.model_calls.proofs.EachPart.{each_flat}
use Rattle.model_calls.proofs.Firsts.{none_holds}
use Rattle.network.proofs.IndexedLists.{split_at, take_get}
use Rattle.network.proofs.Lists.{get_map, get_of_map}
use Rattle.part_numbers.proofs.NumberedEnds.{Number, driven_number, drives_number, number_at, number_there, outputs_number, part_at, placed_at, reads_number, signal_at, signal_there}
use Rattle.net_flatten.proofs.NumberedSearches.{HoldsOfNoneBefore}
use Rattle.net_flatten.proofs.Splits.{first_by_itself, flat_split}

module _ (f : BlifFileData) (all : List Signal) (n : NumberedFileData) (is : IsNumberedFile f all n) where
  again_to_twice : (k : ℕ) (p : NumberedPartData) (x : PlacedPart) → numbered_part f all p ≡ placed_part x
      → IsDrivenAgain n.inputs (take k n.parts) p → IsDrivenTwice f (take k (expanded f)) x
  again_to_twice k p x e h = signal_there all (driven_by n.inputs (take k n.parts)) (signals (main_inputs f ++ map driven_end (take k (expanded f)))) p.drives (driven_end x).signal
      (driven_number f all n is k) (drives_number f all n is p x e) h

  twice_to_again : (k : ℕ) (p : NumberedPartData) (x : PlacedPart) → numbered_part f all p ≡ placed_part x
      → IsDrivenTwice f (take k (expanded f)) x → IsDrivenAgain n.inputs (take k n.parts) p
  twice_to_again k p x e h = number_there all is.apart (driven_by n.inputs (take k n.parts)) (signals (main_inputs f ++ map driven_end (take k (expanded f)))) p.drives (driven_end x).signal
      (driven_number f all n is k) (drives_number f all n is p x e) h

  -- where no part drives what is driven before it, none is refused
  pub none_twice : NoneHolds (IsDrivenAgain n.inputs) n.parts → (line : ℕ) (name : List ℕ) → IsOfKind f DrivenTwice line name → ⊥
  none_twice none line name r =
      let h = placed_at f all n is r.first.index r.element r.first.there in
      none r.first.index h.0 h.1 (twice_to_again r.first.index h.0 r.element h.2 r.first.holds)

  -- and the other way round
  pub none_again : ((line : ℕ) (name : List ℕ) → IsOfKind f DrivenTwice line name → ⊥) → (k : ℕ) (p : NumberedPartData) → slice_get n.parts k ≡ Some p → IsDrivenAgain n.inputs (take k n.parts) p → ⊥
  none_again none k p at again =
      let h = part_at f all n is k p at in
      none_holds (IsDrivenTwice f) (expanded f)
      (λ x first. none (driven_end x).line (driven_end x).name (record { element = x; first = first; line_is = refl; name_is = refl })) k h.0 h.1 (again_to_twice k p h.0 h.2 again)

  -- and the first part that does is the one that is refused
  pub first_twice : (k : ℕ) → IsFirstAt (IsDrivenAgain n.inputs) n.parts k → (line : ℕ) (name : List ℕ) → IsAtOutput f k line name → IsOfKind f DrivenTwice line name
  first_twice k first line name at =
      let h = placed_at f all n is k at.part at.there in
      let i : Some h.0 ≡ Some first.element = sym h.1 ∙ first.there in
      let same : first.element ≡ h.0 = cc in
      record {
        element = at.part;
        first = record {
          index = k;
          there = at.there;
          holds = again_to_twice k h.0 at.part h.2 (subst (IsDrivenAgain n.inputs (take k n.parts)) same first.holds);
          none_before = λ j other l there twice. let g = placed_at f all n is j other there in first.none_before j g.0 l g.1 (twice_to_again j g.0 other g.2 twice);
        };
        line_is = at.line_is;
        name_is = at.name_is;
      }

  -- all that is driven
  pub drivers_number : Number all (driven_by n.inputs n.parts) (signals (drivers f))
  drivers_number =
      let k = length n.parts + length (expanded f) in
      subst (λ ps. Number all (driven_by n.inputs ps) (signals (drivers f))) (take_all k n.parts (omega arith))
      (subst (λ xs. Number all (driven_by n.inputs (take k n.parts)) (signals (main_inputs f ++ map driven_end xs))) (take_all k (expanded f) (omega arith)) (driven_number f all n is k))

  module _ (set : List Bool) (driven : IsSetOf n.signals (driven_by n.inputs n.parts) set) where
    -- a number that isn't in the set stands for a signal that isn't driven
    outside_undriven : (x : ℕ) (e : End) → slice_get all x ≡ Some e.signal → slice_get set x ≡ Some false → IsUndriven f [] e
    outside_undriven x e at out c = driven.unmarked x out (number_there all is.apart (driven_by n.inputs n.parts) (signals (drivers f)) x e.signal drivers_number at c)

    inside_driven : (x : ℕ) (e : End) → slice_get all x ≡ Some e.signal → (slice_get set x ≡ Some false → ⊥) → IsUndriven f [] e → ⊥
    inside_driven x e at inside none =
        let l : x < length set = (let w = slice_get_within all x e.signal at in omega (arith, w, is.count, driven.length_is)) in
        none (by (slice_index_or set x false) (slice_get-get_or set x false l))
      where
        by : (b : Bool) → slice_get set x ≡ Some b → Contains (signals (drivers f)) e.signal
        by true marked = signal_there all (driven_by n.inputs n.parts) (signals (drivers f)) x e.signal drivers_number at (driven.marked x marked)
        by false out = absurd (inside out)

    -- some ends and their numbers
    module _ (numbers : List ℕ) (ends : List End) (number : Number all numbers (signals ends)) where
      pub none_outside : (j : ℕ) → HoldsOfNoneBefore (IsOutsideSet set) numbers j → AllByRecursion (λ e. IsUndriven f [] e → ⊥) (take j ends)
      none_outside j none = AllByRecursion-from_places (λ e. IsUndriven f [] e → ⊥) (take j ends) (λ k e at undriven.
          let t = take_get ends j k e at in
          let h = signal_at all numbers (signals ends) k e.signal number (get_map (λ (d : End). d.signal) ends k e t.1) in
          inside_driven h.0 e h.2 (none k h.0 t.0 h.1) undriven)

      pub one_outside : (j : ℕ) (e : End) → slice_get ends j ≡ Some e → IsFirstAt (IsOutsideSet set) numbers j → IsUndriven f [] e
      one_outside j e at first =
          let h = signal_at all numbers (signals ends) j e.signal number (get_map (λ (d : End). d.signal) ends j e at) in
          let i : Some h.0 ≡ Some first.element = sym h.1 ∙ first.there in
          let same : first.element ≡ h.0 = cc in
          outside_undriven h.0 e h.2 (subst (λ x. slice_get set x ≡ Some false) same first.holds)

      pub all_inside : NoneHolds (IsOutsideSet set) numbers → AllByRecursion (λ e. IsUndriven f [] e → ⊥) ends
      all_inside none = subst (AllByRecursion (λ e. IsUndriven f [] e → ⊥)) (take_all (length ends) ends (omega arith)) (none_outside (length ends) (λ k e l. none k e))

    -- all that the parts before an index read is driven
    reads_inside : (k : ℕ) → ((j : ℕ) (p : NumberedPartData) → j < k → slice_get n.parts j ≡ Some p → NoneHolds (IsOutsideSet set) p.reads)
        → AllByRecursion (λ e. IsUndriven f [] e → ⊥) (flat_map read_ends (take k (expanded f)))
    reads_inside k none = each_flat (λ e. IsUndriven f [] e → ⊥) read_ends (take k (expanded f))
        (AllByRecursion-from_places (λ x. AllByRecursion (λ e. IsUndriven f [] e → ⊥) (read_ends x)) (take k (expanded f)) (λ j x at.
        let t = take_get (expanded f) k j x at in
        let h = placed_at f all n is j x t.1 in
        all_inside h.0.reads (read_ends x) (reads_number f all n is h.0 x h.2) (none j h.0 t.0 h.1)))

    all_reads_inside : ((j : ℕ) (p : NumberedPartData) → slice_get n.parts j ≡ Some p → NoneHolds (IsOutsideSet set) p.reads)
        → AllByRecursion (λ e. IsUndriven f [] e → ⊥) (flat_map read_ends (expanded f))
    all_reads_inside none = subst (λ xs. AllByRecursion (λ e. IsUndriven f [] e → ⊥) (flat_map read_ends xs)) (take_all (length (expanded f)) (expanded f) (omega arith))
        (reads_inside (length (expanded f)) (λ j p l. none j p))

    -- the first read that isn't driven is the one that is refused
    pub first_undriven : (at : ReadAt) → IsFirstRead set n.parts at → (line : ℕ) (name : List ℕ) → IsAtInput f at.part at.read line name → IsOfKind f Undriven line name
    first_undriven at first line name there =
        let h = placed_at f all n is at.part there.part there.there in
        let i : Some h.0 ≡ Some first.part = sym h.1 ∙ first.there in
        let same : first.part ≡ h.0 = cc in
        let number = reads_number f all n is h.0 there.part h.2 in
        let here : IsFirstAt (IsOutsideSet set) h.0.reads at.read = subst (λ (p : NumberedPartData). IsFirstAt (IsOutsideSet set) p.reads at.read) same first.first in
        let s = flat_split read_ends (expanded f) at.part there.part at.read there.end there.there there.read_there in
        record {
          element = there.end;
          first = first_by_itself (IsUndriven f []) (readers f) (flat_map read_ends (take at.part (expanded f)) ++ take at.read (read_ends there.part)) (s.0 ++ main_outputs f) there.end
              (ap (λ l. l ++ main_outputs f) s.1 ∙ append_assoc (flat_map read_ends (take at.part (expanded f)) ++ take at.read (read_ends there.part)) (there.end ∷ s.0) (main_outputs f))
              (one_outside h.0.reads (read_ends there.part) number at.read there.end there.read_there here)
              (AllByRecursion-append (λ e. IsUndriven f [] e → ⊥) (flat_map read_ends (take at.part (expanded f))) (take at.read (read_ends there.part))
              (reads_inside at.part first.none_before)
              (none_outside h.0.reads (read_ends there.part) number at.read here.none_before));
          line_is = there.line_is;
          name_is = there.name_is;
        }

    -- or the first main output, where all that is read is driven
    pub first_undriven_output : (k : ℕ) → ((j : ℕ) (p : NumberedPartData) → slice_get n.parts j ≡ Some p → NoneHolds (IsOutsideSet set) p.reads)
        → IsFirstAt (IsOutsideSet set) n.outputs k → (line : ℕ) (name : List ℕ) → IsAtMainOutput f k line name → IsOfKind f Undriven line name
    first_undriven_output k none first line name at =
        let e = end_at [] (main_model f).line at.output in
        let there : slice_get (main_outputs f) k ≡ Some e = get_map (end_at [] (main_model f).line) (main_model f).outputs k at.output at.there in
        let s = split_at (main_outputs f) k e there in
        record {
          element = e;
          first = first_by_itself (IsUndriven f []) (readers f) (flat_map read_ends (expanded f) ++ take k (main_outputs f)) (drop (suc k) (main_outputs f)) e
              (ap (λ l. flat_map read_ends (expanded f) ++ l) s ∙ sym (append_assoc (flat_map read_ends (expanded f)) (take k (main_outputs f)) (e ∷ drop (suc k) (main_outputs f))))
              (one_outside n.outputs (main_outputs f) (outputs_number f all n is) k e there first)
              (AllByRecursion-append (λ d. IsUndriven f [] d → ⊥) (flat_map read_ends (expanded f)) (take k (main_outputs f))
              (all_reads_inside none)
              (none_outside n.outputs (main_outputs f) (outputs_number f all n is) k first.none_before));
          line_is = at.line_is;
          name_is = at.name_is;
        }

    -- and none is refused where main outputs are driven too
    pub none_undriven : ((j : ℕ) (p : NumberedPartData) → slice_get n.parts j ≡ Some p → NoneHolds (IsOutsideSet set) p.reads)
        → NoneHolds (IsOutsideSet set) n.outputs → (line : ℕ) (name : List ℕ) → IsOfKind f Undriven line name → ⊥
    none_undriven none outputs line name r =
        AllByRecursion-contains (λ e. IsUndriven f [] e → ⊥) (readers f) r.element
        (AllByRecursion-append (λ e. IsUndriven f [] e → ⊥) (flat_map read_ends (expanded f)) (main_outputs f) (all_reads_inside none)
        (all_inside n.outputs (main_outputs f) (outputs_number f all n is) outputs))
        (Contains-slice_get (readers f) r.first.index r.element r.first.there) r.first.holds

-- the read that was found is there
pub read_is_there : (set : List Bool) (parts : List NumberedPartData) (at : ReadAt) → IsFirstRead set parts at → IsSomeAnd (slice_get parts at.part) (λ p. at.read < length p.reads)
read_is_there set parts at first =
    subst (λ o. IsSomeAnd o (λ (p : NumberedPartData). at.read < length p.reads)) (sym first.there) (slice_get_within first.part.reads at.read first.first.element first.first.there)

-- the output that was found is there
pub output_there : (f : BlifFileData) (all : List Signal) (n : NumberedFileData) → IsNumberedFile f all n → (set : List Bool) (k : ℕ) → IsFirstAt (IsOutsideSet set) n.outputs k → k < length (main_model f).outputs
output_there f all n is set k first =
    let s = number_at all n.outputs (signals (main_outputs f)) k first.element (outputs_number f all n is) first.there in
    let e = get_of_map (λ (e : End). e.signal) (main_outputs f) k s.0 s.1 in
    let o = get_of_map (end_at [] (main_model f).line) (main_model f).outputs k e.0 e.1 in
    slice_get_within (main_model f).outputs k o.0 o.1

-- where no read was found, all that is read is in the set
pub all_read : (set : List Bool) (parts : List NumberedPartData) (found : Option ReadAt) → IsFirstOutside set parts found → ((at : ReadAt) → found ≡ Some at → ⊥)
    → (k : ℕ) (p : NumberedPartData) → slice_get parts k ≡ Some p → NoneHolds (IsOutsideSet set) p.reads
all_read set parts None h none = h
all_read set parts (Some at) h none = absurd (none at refl)
