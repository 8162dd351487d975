-- Latches that are clocked otherwise than earlier ones, by numbers and by signals.
use Rattle.std.proofs.Common.{◌≡◌, rules, ℕ, ◌+◌, ◌⊎◌, inl, inr, true, List, [], ◌∷◌, ◌++◌, length, take, Option, Some, None, refl, ap, sym, ◌∙◌, subst, arith}
use Rattle.std.specs.Prelude.{◌≢◌, Contains, nat_eq, not, option_and_then, option_map, slice_get}
use Rattle.std.specs.List.{cons_option, filter_map}
use Rattle.std.proofs.lemmas.Bool.{true≢false}
use Rattle.std.proofs.lemmas.List.{take_all}
use Rattle.dom_base.proofs.Bools.{or_one}
use Rattle.dom_base.proofs.Lists.{Contains-slice_get}
use Rattle.blif_ast.specs.BlifFileData.{BlifFileData}
use Rattle.blif_ast.specs.declared.latch.Control.{Control}
use Rattle.blif_ast.specs.declared.latch.Edge2.{Edge2}
use Rattle.blif_ast.specs.declared.latch.Edge2.TheVariants.{Rising, Falling}
use Rattle.net_flatten.specs.declared.clocking.Clock.{Clock}
use Rattle.model_calls.specs.declared.fault.FlatKind.TheVariants.{TwoControls}
use Rattle.part_numbers.specs.CheckOutcomes.{IsAtOutput}
use Rattle.net_flatten.specs.ClockSearches.{IsClockOf, IsClockedAt, IsOtherClock, other_edge, other_signal, same_edge}
use Rattle.model_calls.specs.Ends.{Clocking, End, clocking, clocking_of, clockings, driven_end, end_at}
use Rattle.model_calls.specs.Expanded.{LatchPart, PlacedPart, TablePart, expanded, part_latch}
use Rattle.part_numbers.specs.NumberedFiles.{IsNumberedFile, NumberedFileData, NumberedPartData, PartBySignals, card_of_part, control_of_part, numbered_part, placed_part}
use Rattle.part_numbers.specs.PartCards.{card_edge, edge_of}
use Rattle.model_calls.specs.Refusals.{IsOfKind}
use Rattle.model_calls.specs.SignalFaults.{IsOther, IsOtherControl}
use Rattle.model_calls.specs.Signals.{Signal, signal_of}
use Rattle.network.proofs.IndexedLists.{index_of, take_get}
use Rattle.network.proofs.Lists.{get_take}
use Rattle.part_numbers.proofs.NumberedEnds.{part_at, placed_at}
use Rattle.net_flatten.proofs.Splits.{first_behind, kept_from, kept_split}

-- what is kept of what is kept
pub kept_twice : {X Y Z : Type 0} (g : Y → Option Z) (h : X → Option Y) (xs : List X) → filter_map g (filter_map h xs) ≡ filter_map (λ x. option_and_then g (h x)) xs
kept_twice g h [] = refl
kept_twice g h (x ∷ xs) = by (h x) (kept_twice g h xs)
  where
    by : (o : Option _) → filter_map g (filter_map h xs) ≡ filter_map (λ x. option_and_then g (h x)) xs
        → filter_map g (cons_option o (filter_map h xs)) ≡ cons_option (option_and_then g o) (filter_map (λ x. option_and_then g (h x)) xs)
    by None r = r
    by (Some y) r = ap (cons_option (g y)) r

pub kept_contains : {X Y : Type 0} (g : X → Option Y) (xs : List X) (k : ℕ) (x : X) (y : Y) → slice_get xs k ≡ Some x → g x ≡ Some y → Contains (filter_map g xs) y
kept_contains g xs k x y at is =
    let s = kept_split g xs k x y at is in
    subst (λ l. Contains l y) (sym s.1) (Contains-slice_get (filter_map g (take k xs) ++ y ∷ s.0) (length (filter_map g (take k xs))) y (seam (filter_map g (take k xs)) s.0 y))
  where
    seam : {Z : Type 0} (before after : List Z) (z : Z) → slice_get (before ++ z ∷ after) (length before) ≡ Some z
    seam [] after z = refl
    seam (w ∷ before) after z = seam before after z

-- the clocking of a part, if it is a latch that has a type
abbrev pub clocking_part : PlacedPart → Option Clocking
clocking_part x = option_and_then clocking_of (part_latch x)

pub clockings_of_parts : (f : BlifFileData) → clockings f ≡ filter_map clocking_part (expanded f)
clockings_of_parts f = kept_twice clocking_of part_latch (expanded f)

edge_by_card : (x : PlacedPart) → card_edge (card_of_part x) ≡ option_map (λ (c : Clocking). c.edge) (clocking_part x)
edge_by_card (TablePart t) = refl
edge_by_card (LatchPart l) = by l.latch.control
  where
    by : (o : Option Control) → option_map (λ (c : Control). c.edge) o ≡ option_map (λ (c : Clocking). c.edge) (option_map (clocking l) o)
    by None = refl
    by (Some c) = refl

-- the end at the signal that controls a part
abbrev pub control_end : PlacedPart → Option End
control_end x = option_and_then (λ (c : Clocking). c.signal) (clocking_part x)

pub control_by_end : (x : PlacedPart) → control_of_part x ≡ option_map (λ (e : End). e.signal) (control_end x)
control_by_end (TablePart t) = refl
control_by_end (LatchPart l) = by l.latch.control
  where
    named : (o : Option (List ℕ)) → option_map (signal_of l.path) o ≡ option_map (λ (e : End). e.signal) (option_map (end_at l.path l.latch.line) o)
    named None = refl
    named (Some w) = refl

    by : (o : Option Control) → option_map (signal_of l.path) (option_and_then (λ (c : Control). c.signal) o)
        ≡ option_map (λ (e : End). e.signal) (option_and_then (λ (c : Clocking). c.signal) (option_map (clocking l) o))
    by None = refl
    by (Some c) = named c.signal

line_by_clocking : (x : PlacedPart) (c : Clocking) → clocking_part x ≡ Some c → (c.line ≡ (driven_end x).line) × (c.output ≡ (driven_end x).name)
line_by_clocking (TablePart t) c e = absurd cc
line_by_clocking (LatchPart l) c e = by l.latch.control e
  where
    by : (o : Option Control) → option_map (clocking l) o ≡ Some c → (c.line ≡ l.latch.line) × (c.output ≡ l.latch.output)
    by None e = absurd cc
    by (Some d) e = let i : c ≡ clocking l d = cc in (ap (λ (k : Clocking). k.line) i, ap (λ (k : Clocking). k.output) i)

other_edges : (known : Option Edge2) (edge : Edge2) → other_edge known edge ≡ true → (d : Edge2) × (known ≡ Some d) × (d ≢ edge)
other_edges None edge e = absurd (true≢false (sym e))
other_edges (Some d) edge e = (d, refl, λ same. differ d edge e same)
  where
    differ : (a b : Edge2) → not (same_edge a b) ≡ true → a ≡ b → ⊥
    differ Rising Rising e same = true≢false (sym e)
    differ Falling Falling e same = true≢false (sym e)
    differ Rising Falling e same = absurd cc
    differ Falling Rising e same = absurd cc

abbrev OtherSignals : Option ℕ → Option ℕ → Type 0
OtherSignals known signal = (t : ℕ) × (s : ℕ) × (known ≡ Some t) × (signal ≡ Some s) × (t ≢ s)

other_signals : (known signal : Option ℕ) → other_signal known signal ≡ true → OtherSignals known signal
other_signals None signal e = absurd (true≢false (sym e))
other_signals (Some t) None e = absurd (true≢false (sym e))
other_signals (Some t) (Some s) e = (t, s, refl, refl, λ same. true≢false (sym (sym (ap not (ap (nat_eq t) (sym same) ∙ eqb-same t)) ∙ e)))
  where
    eqb-same : (a : ℕ) → nat_eq a a ≡ true
    eqb-same a = search rules

module _ (f : BlifFileData) (all : List Signal) (n : NumberedFileData) (is : IsNumberedFile f all n) where
  -- a part by numbers and the part of the expanded list
  abbrev Alike : NumberedPartData → PlacedPart → Type 0
  Alike p x = numbered_part f all p ≡ placed_part x

  edge_alike : (p : NumberedPartData) (x : PlacedPart) → Alike p x → edge_of f p ≡ option_map (λ (c : Clocking). c.edge) (clocking_part x)
  edge_alike p x e = ap (option_and_then card_edge) (ap (λ (b : PartBySignals). b.card) e) ∙ edge_by_card x

  clocked_edge : (p : NumberedPartData) (x : PlacedPart) (b : Clocking) → Alike p x → clocking_part x ≡ Some b → edge_of f p ≡ Some b.edge
  clocked_edge p x b e is = edge_alike p x e ∙ ap (option_map (λ (c : Clocking). c.edge)) is

  edge_clocked : (p : NumberedPartData) (x : PlacedPart) (edge : Edge2) → Alike p x → edge_of f p ≡ Some edge → (b : Clocking) × (clocking_part x ≡ Some b) × (b.edge ≡ edge)
  edge_clocked p x edge e is = by (clocking_part x) refl (sym (edge_alike p x e) ∙ is)
    where
      by : (o : Option Clocking) → clocking_part x ≡ o → option_map (λ (c : Clocking). c.edge) o ≡ Some edge → (b : Clocking) × (clocking_part x ≡ Some b) × (b.edge ≡ edge)
      by None found d = absurd cc
      by (Some b) found d = (b, found, cc)

  pub control_alike : (p : NumberedPartData) (x : PlacedPart) → Alike p x → option_map (slice_get all) p.control ≡ option_map Some (option_map (λ (e : End). e.signal) (control_end x))
  control_alike p x e = ap (λ (b : PartBySignals). b.control) e ∙ ap (option_map Some) (control_by_end x)

  pub number_of_control : (number : Option ℕ) (end : Option End) (e : End) → option_map (slice_get all) number ≡ option_map Some (option_map (λ (d : End). d.signal) end) → end ≡ Some e
      → (s : ℕ) × (number ≡ Some s) × (slice_get all s ≡ Some e.signal)
  number_of_control number None e same found = absurd cc
  number_of_control None (Some d) e same found = absurd cc
  number_of_control (Some s) (Some d) e same found = let i : d ≡ e = cc in let a : slice_get all s ≡ Some d.signal = cc in (s, refl, a ∙ ap (λ (g : End). Some g.signal) i)

  pub control_of_number : (number : Option ℕ) (end : Option End) (s : ℕ) → option_map (slice_get all) number ≡ option_map Some (option_map (λ (d : End). d.signal) end) → number ≡ Some s
      → (e : End) × (end ≡ Some e) × (slice_get all s ≡ Some e.signal)
  control_of_number None end s same found = absurd cc
  control_of_number (Some t) None s same found = absurd cc
  control_of_number (Some t) (Some d) s same found = let i : t ≡ s = cc in let a : slice_get all t ≡ Some d.signal = cc in (d, refl, ap (slice_get all) (sym i) ∙ a)

  signal_end : (x : PlacedPart) (b : Clocking) → clocking_part x ≡ Some b → control_end x ≡ b.signal
  signal_end x b found = ap (option_and_then (λ (c : Clocking). c.signal)) found

  -- latches of one clock don't differ
  agree : (ps : List NumberedPartData) (clock : Clock) → IsClockOf f ps clock → (p q : NumberedPartData) (x y : PlacedPart) (b c : Clocking) → Contains ps p → Contains ps q → Alike p x → Alike q y
      → clocking_part x ≡ Some b → clocking_part y ≡ Some c → (b.edge ≢ c.edge) ⊎ IsOther b.signal c.signal → ⊥
  agree ps clock one p q x y b c in_p in_q e d found seen (inl other) =
      let first = one.edges p b.edge (record { there = in_p; edge_is = clocked_edge p x b e found }) in
      let second = one.edges q c.edge (record { there = in_q; edge_is = clocked_edge q y c d seen }) in
      let both : Some b.edge ≡ Some c.edge = sym first ∙ second in
      let same : b.edge ≡ c.edge = cc in
      other same
  agree ps clock one p q x y b c in_p in_q e d found seen (inr other) = by b.signal c.signal refl refl other
    where
      by : (s t : Option End) → b.signal ≡ s → c.signal ≡ t → IsOther s t → ⊥
      by None t is_s is_t other = other
      by (Some g) None is_s is_t other = other
      by (Some g) (Some h) is_s is_t other =
          let m = number_of_control p.control (control_end x) g (control_alike p x e) (signal_end x b found ∙ is_s) in
          let k = number_of_control q.control (control_end y) h (control_alike q y d) (signal_end y c seen ∙ is_t) in
          let first = one.signals p b.edge m.0 (record { there = in_p; edge_is = clocked_edge p x b e found }) m.1 in
          let second = one.signals q c.edge k.0 (record { there = in_q; edge_is = clocked_edge q y c d seen }) k.1 in
          let both : Some m.0 ≡ Some k.0 = sym first ∙ second in
          let same : m.0 ≡ k.0 = cc in
          let signals : Some g.signal ≡ Some h.signal = sym m.2 ∙ ap (slice_get all) same ∙ k.2 in
          let equal : g.signal ≡ h.signal = cc in
          other equal

  -- a clocking before an index comes of a part there
  record ClockedBefore (k : ℕ) (b : Clocking) : Type 0 where
    number : NumberedPartData
    part : PlacedPart
    there : Contains (take k n.parts) number
    alike : Alike number part
    found : clocking_part part ≡ Some b

  clocked_before : (k : ℕ) (b : Clocking) → Contains (filter_map clocking_part (take k (expanded f))) b → ClockedBefore k b
  clocked_before k b c =
      let i = index_of (filter_map clocking_part (take k (expanded f))) b c in
      let h = kept_from clocking_part (take k (expanded f)) b i.0 i.1 in
      let t = take_get (expanded f) k h.0 h.1 h.2 in
      let p = placed_at f all n is h.0 h.1 t.1 in
      record {
        number = p.0;
        part = h.1;
        there = Contains-slice_get (take k n.parts) h.0 p.0 (get_take n.parts h.0 k p.0 t.0 p.1);
        alike = p.2;
        found = h.3;
      }

  -- and a clocked part before an index has its clocking
  record ClockingBefore (k : ℕ) (q : NumberedPartData) (edge : Edge2) : Type 0 where
    part : PlacedPart
    alike : Alike q part
    clocking : Clocking
    found : clocking_part part ≡ Some clocking
    edge_is : clocking.edge ≡ edge
    there : Contains (filter_map clocking_part (take k (expanded f))) clocking

  clocking_before : (k : ℕ) (q : NumberedPartData) (edge : Edge2) → IsClockedAt f (take k n.parts) q edge → ClockingBefore k q edge
  clocking_before k q edge c =
      let i = index_of (take k n.parts) q c.there in
      let t = take_get n.parts k i.0 q i.1 in
      let x = part_at f all n is i.0 q t.1 in
      let b = edge_clocked q x.0 edge x.2 c.edge_is in
      record {
        part = x.0;
        alike = x.2;
        clocking = b.0;
        found = b.1;
        edge_is = b.2;
        there = kept_contains clocking_part (take k (expanded f)) i.0 x.0 b.0 (get_take (expanded f) i.0 k x.0 t.0 x.1) b.1;
      }

  -- where one clock is that of all, none is refused
  pub none_other : (clock : Clock) → IsClockOf f n.parts clock → (line : ℕ) (name : List ℕ) → IsOfKind f TwoControls line name → ⊥
  none_other clock one line name r =
      let k = length n.parts + length (expanded f) in
      let whole : filter_map clocking_part (take k (expanded f)) ≡ clockings f = ap (filter_map clocking_part) (take_all k (expanded f) (omega arith)) ∙ sym (clockings_of_parts f) in
      let parts : take k n.parts ≡ n.parts = take_all k n.parts (omega arith) in
      let earlier = r.first.holds in
      let i = index_of (take r.first.index (clockings f)) earlier.0 earlier.1 in
      let t = take_get (clockings f) r.first.index i.0 earlier.0 i.1 in
      let b = clocked_before k earlier.0 (subst (λ l. Contains l earlier.0) (sym whole) (Contains-slice_get (clockings f) i.0 earlier.0 t.1)) in
      let c = clocked_before k r.element (subst (λ l. Contains l r.element) (sym whole) (Contains-slice_get (clockings f) r.first.index r.element r.first.there)) in
      agree n.parts clock one b.number c.number b.part c.part earlier.0 r.element (subst (λ l. Contains l b.number) parts b.there) (subst (λ l. Contains l c.number) parts c.there)
      b.alike c.alike b.found c.found earlier.2

  -- and the first that is clocked otherwise is the one that is refused
  pub first_other : (k : ℕ) → IsOtherClock f n.parts k → (line : ℕ) (name : List ℕ) → IsAtOutput f k line name → IsOfKind f TwoControls line name
  first_other k o line name at =
      let h = placed_at f all n is k at.part at.there in
      let i : Some h.0 ≡ Some o.part = sym h.1 ∙ o.there in
      let same : h.0 ≡ o.part = cc in
      let alike : Alike o.part at.part = subst (λ p. Alike p at.part) same h.2 in
      let c = edge_clocked o.part at.part o.edge alike o.edge_is in
      let s = kept_split clocking_part (expanded f) k at.part c.0 at.there c.1 in
      let lines = line_by_clocking at.part c.0 c.1 in
      record {
        element = c.0;
        first = first_behind IsOtherControl (clockings f) (filter_map clocking_part (take k (expanded f))) s.0 c.0 (clockings_of_parts f ∙ s.1)
            (holds o.part at.part c.0 o.edge alike c.1 c.2 (or_one (other_edge o.clock.edge o.edge) (other_signal o.clock.signal o.part.control) o.other) o.clock o.before refl refl)
            (λ j y there earlier.
            let e = index_of (take j (filter_map clocking_part (take k (expanded f)))) earlier.0 earlier.1 in
            let t = take_get (filter_map clocking_part (take k (expanded f))) j e.0 earlier.0 e.1 in
            let b = clocked_before k earlier.0 (Contains-slice_get (filter_map clocking_part (take k (expanded f))) e.0 earlier.0 t.1) in
            let d = clocked_before k y (Contains-slice_get (filter_map clocking_part (take k (expanded f))) j y there) in
            agree (take k n.parts) o.clock o.before b.number d.number b.part d.part earlier.0 y b.there d.there b.alike d.alike b.found d.found earlier.2);
        line_is = at.line_is ∙ sym lines.0;
        name_is = at.name_is ∙ sym lines.1;
      }
    where
      holds : (p : NumberedPartData) (x : PlacedPart) (c : Clocking) (edge : Edge2) → Alike p x → clocking_part x ≡ Some c → c.edge ≡ edge
          → (other_edge o.clock.edge edge ≡ true) ⊎ (other_signal o.clock.signal p.control ≡ true)
          → (clock : Clock) → IsClockOf f (take k n.parts) clock → clock.edge ≡ o.clock.edge → clock.signal ≡ o.clock.signal → IsOtherControl (filter_map clocking_part (take k (expanded f))) c
      holds p x c edge alike found edge_is (inl e) clock one same_edge same_signal =
          let d = other_edges o.clock.edge edge e in
          let from = one.edge_from d.0 (same_edge ∙ d.1) in
          let b = clocking_before k from.0 d.0 from.1 in
          (b.clocking, b.there, inl (λ equal. d.2 (sym b.edge_is ∙ equal ∙ edge_is)))
      holds p x c edge alike found edge_is (inr e) clock one same_edge same_signal =
          let d = other_signals o.clock.signal p.control e in
          let from = one.signal_from d.0 (same_signal ∙ d.2) in
          let b = clocking_before k from.0 from.1 from.2 in
          let g = control_of_number from.0.control (control_end b.part) d.0 (control_alike from.0 b.part b.alike) from.3 in
          let h = control_of_number p.control (control_end x) d.1 (control_alike p x alike) d.3 in (
            b.clocking,
            b.there,
            inr (subst (λ s. IsOther s c.signal) (sym g.1 ∙ signal_end b.part b.clocking b.found) (subst (IsOther (Some g.0)) (sym h.1 ∙ signal_end x c found)
                (λ equal. d.4 (is.apart d.0 d.1 h.0.signal (g.2 ∙ ap Some equal) h.2)))),
          )
