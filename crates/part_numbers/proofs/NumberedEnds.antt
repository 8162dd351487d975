-- The ends of the expanded list of a file, by numbers and by signals.
use Rattle.std.proofs.Common.{◌≡◌, ℕ, ◌<◌, List, ◌++◌, length, map, take, Option, Some, None, ap, sym, ◌∙◌, subst}
use Rattle.std.proofs.lemmas.List.{map-append}
use Rattle.std.specs.Prelude.{All, Contains, IfSome, option_map, slice_get}
use Rattle.std.proofs.lemmas.Option.{slice_get_within}
use Rattle.std.proofs.lemmas.List.Elements.{All-from_recursion}
use Rattle.std.specs.List.{AllByRecursion}
use Rattle.dom_base.proofs.Lists.{AllByRecursion-from_places, Contains-slice_get}
use Rattle.blif_ast.specs.BlifFileData.{BlifFileData}
use Rattle.model_calls.specs.Ends.{End, driven_end, main_inputs, main_outputs, read_ends}
use Rattle.model_calls.specs.Expanded.{PlacedPart, expanded}
use Rattle.part_numbers.specs.NumberedFaults.{IsPartWithin, driven_by}
use Rattle.part_numbers.specs.NumberedFiles.{IsNumberedFile, NumberedFileData, NumberedPartData, PartBySignals, control_of_part, numbered_part, placed_part, signals_at}
use Rattle.model_calls.specs.SignalFaults.{signals}
use Rattle.model_calls.specs.Signals.{Signal}
use Rattle.network.proofs.IndexedLists.{index_of, same_at, same_take}
use Rattle.part_numbers.proofs.Ranges.{map_map}

-- a list of signals, and the numbers of some of them
module _ (all : List Signal) where
  -- numbers stand for these signals
  abbrev pub Number : List ℕ → List Signal → Type 0
  Number numbers ss = map (slice_get all) numbers ≡ map Some ss

  pub number_at : (numbers : List ℕ) (ss : List Signal) (k : ℕ) (x : ℕ) → Number numbers ss → slice_get numbers k ≡ Some x
      → (s : Signal) × (slice_get ss k ≡ Some s) × (slice_get all x ≡ Some s)
  number_at numbers ss k x e at = same_at (slice_get all) Some numbers ss k x e at

  pub signal_at : (numbers : List ℕ) (ss : List Signal) (k : ℕ) (s : Signal) → Number numbers ss → slice_get ss k ≡ Some s
      → (x : ℕ) × (slice_get numbers k ≡ Some x) × (slice_get all x ≡ Some s)
  signal_at numbers ss k s e at = let h = same_at Some (slice_get all) ss numbers k s (sym e) at in (h.0, h.1, sym h.2)

  -- a signal stands where its number does
  pub signal_there : (numbers : List ℕ) (ss : List Signal) (x : ℕ) (s : Signal) → Number numbers ss → slice_get all x ≡ Some s → Contains numbers x → Contains ss s
  signal_there numbers ss x s e is c =
      let i = index_of numbers x c in
      let h = number_at numbers ss i.0 x e i.1 in
      let one : Some h.0 ≡ Some s = sym h.2 ∙ is in
      let same : h.0 ≡ s = cc in
      Contains-slice_get ss i.0 s (h.1 ∙ ap Some same)

  module _ (apart : (j k : ℕ) (s : Signal) → slice_get all j ≡ Some s → slice_get all k ≡ Some s → j ≡ k) where
    pub number_there : (numbers : List ℕ) (ss : List Signal) (x : ℕ) (s : Signal) → Number numbers ss → slice_get all x ≡ Some s → Contains ss s → Contains numbers x
    number_there numbers ss x s e is c =
        let i = index_of ss s c in
        let h = signal_at numbers ss i.0 s e i.1 in
        Contains-slice_get numbers i.0 x (h.1 ∙ ap Some (apart h.0 x s h.2 is))

  pub numbers_within : (numbers : List ℕ) (ss : List Signal) → Number numbers ss → AllByRecursion (λ x. x < length all) numbers
  numbers_within numbers ss e = AllByRecursion-from_places (λ x. x < length all) numbers (λ k x at. let h = number_at numbers ss k x e at in slice_get_within all x h.0 h.2)

  pub Number-append : (xs ys : List ℕ) (ss ts : List Signal) → Number xs ss → Number ys ts → Number (xs ++ ys) (ss ++ ts)
  Number-append xs ys ss ts e d = map-append (slice_get all) xs ys ∙ ap (λ l. l ++ map (slice_get all) ys) e ∙ ap (λ l. map Some ss ++ l) d ∙ sym (map-append Some ss ts)

-- ends by their signals
pub ends_by_signals : (ends : List End) → signals_at ends ≡ map Some (signals ends)
ends_by_signals ends = sym (map_map Some (λ (e : End). e.signal) ends)

module _ (f : BlifFileData) (all : List Signal) (n : NumberedFileData) (is : IsNumberedFile f all n) where
  pub part_at : (k : ℕ) (p : NumberedPartData) → slice_get n.parts k ≡ Some p
      → (x : PlacedPart) × (slice_get (expanded f) k ≡ Some x) × (numbered_part f all p ≡ placed_part x)
  part_at k p at = same_at (numbered_part f all) placed_part n.parts (expanded f) k p is.parts at

  pub placed_at : (k : ℕ) (x : PlacedPart) → slice_get (expanded f) k ≡ Some x
      → (p : NumberedPartData) × (slice_get n.parts k ≡ Some p) × (numbered_part f all p ≡ placed_part x)
  placed_at k x at = let h = same_at placed_part (numbered_part f all) (expanded f) n.parts k x (sym is.parts) at in (h.0, h.1, sym h.2)

  pub inputs_number : Number all n.inputs (signals (main_inputs f))
  inputs_number = is.inputs ∙ ends_by_signals (main_inputs f)

  pub outputs_number : Number all n.outputs (signals (main_outputs f))
  outputs_number = is.outputs ∙ ends_by_signals (main_outputs f)

  pub reads_number : (p : NumberedPartData) (x : PlacedPart) → numbered_part f all p ≡ placed_part x → Number all p.reads (signals (read_ends x))
  reads_number p x e = ap (λ (b : PartBySignals). b.reads) e ∙ ends_by_signals (read_ends x)

  pub drives_number : (p : NumberedPartData) (x : PlacedPart) → numbered_part f all p ≡ placed_part x → slice_get all p.drives ≡ Some (driven_end x).signal
  drives_number p x e = ap (λ (b : PartBySignals). b.drives) e

  parts_drive : (k : ℕ) → Number all (map (λ (p : NumberedPartData). p.drives) (take k n.parts)) (signals (map driven_end (take k (expanded f))))
  parts_drive k =
      map_map (slice_get all) (λ (p : NumberedPartData). p.drives) (take k n.parts)
      ∙ sym (map_map (λ (b : PartBySignals). b.drives) (numbered_part f all) (take k n.parts))
      ∙ ap (map (λ (b : PartBySignals). b.drives)) (same_take (numbered_part f all) placed_part n.parts (expanded f) k is.parts)
      ∙ map_map (λ (b : PartBySignals). b.drives) placed_part (take k (expanded f))
      ∙ sym (map_map Some (λ x. (driven_end x).signal) (take k (expanded f)))
      ∙ ap (map Some) (sym (map_map (λ (e : End). e.signal) driven_end (take k (expanded f))))

  -- what is driven before an index
  pub driven_number : (k : ℕ) → Number all (driven_by n.inputs (take k n.parts)) (signals (main_inputs f ++ map driven_end (take k (expanded f))))
  driven_number k = subst (Number all (driven_by n.inputs (take k n.parts))) (sym (map-append (λ (e : End). e.signal) (main_inputs f) (map driven_end (take k (expanded f)))))
      (Number-append all n.inputs (map (λ (p : NumberedPartData). p.drives) (take k n.parts)) (signals (main_inputs f)) (signals (map driven_end (take k (expanded f)))) inputs_number (parts_drive k))

  -- all numbers are below the count of signals
  below : (numbers : List ℕ) (ss : List Signal) → Number all numbers ss → All (λ x. x < n.signals) numbers
  below numbers ss e = subst (λ m. All (λ x. x < m) numbers) is.count (All-from_recursion (λ x. x < length all) numbers (numbers_within all numbers ss e))

  pub inputs_within : All (λ x. x < n.signals) n.inputs
  inputs_within = below n.inputs (signals (main_inputs f)) inputs_number

  pub outputs_within : All (λ x. x < n.signals) n.outputs
  outputs_within = below n.outputs (signals (main_outputs f)) outputs_number

  control_within : (control : Option ℕ) (at : Option Signal) → option_map (slice_get all) control ≡ option_map Some at → IfSome control (λ x. x < n.signals)
  control_within None at e = tt
  control_within (Some x) None e = absurd cc
  control_within (Some x) (Some s) e = let i : slice_get all x ≡ Some s = cc in subst (λ m. x < m) is.count (slice_get_within all x s i)

  pub part_within : (k : ℕ) (p : NumberedPartData) → slice_get n.parts k ≡ Some p → IsPartWithin n.signals p
  part_within k p at = let h = part_at k p at in record {
    reads = below p.reads (signals (read_ends h.0)) (reads_number p h.0 h.2);
    drives = subst (λ m. p.drives < m) is.count (slice_get_within all p.drives (driven_end h.0).signal (drives_number p h.0 h.2));
    control = control_within p.control (control_of_part h.0) (ap (λ (b : PartBySignals). b.control) h.2);
  }

  pub parts_within : All (IsPartWithin n.signals) n.parts
  parts_within = All-from_recursion (IsPartWithin n.signals) n.parts (AllByRecursion-from_places (IsPartWithin n.signals) n.parts part_within)
