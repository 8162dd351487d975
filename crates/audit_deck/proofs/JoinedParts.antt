-- The cells, complements and latches that were found are those of the circuit, and rules 4 to 6 hold as facts.
use Rattle.std.specs.Prelude.{Contains, Option, Some, slice_get}
use Rattle.std.proofs.Common.{Bool, List, ap, arith, false, get_or, inl, inr, length, refl, true, ℕ, ◌+◌, ◌<◌, ◌∙◌, ◌≡◌, ◌≤◌}
use Rattle.std.proofs.lemmas.Option.{slice_get-get_or}
use Rattle.dom_base.specs.Decided.{Decided}
use Rattle.dom_base.proofs.Decided.{dec_and, dec_any, dec_less, dec_map, dec_nat, dec_or, lt_or_ge}
use Rattle.dom_base.proofs.Lists.{Contains-slice_get, slice_get-contained}
use Rattle.deck.specs.Paths.{Ends}
use Rattle.deck.specs.PortLayout.{first_pin, source_count}
use Rattle.deck.specs.declared.device.Device.{Device}
use Rattle.deck.specs.declared.role.Roles.{Roles}
use Rattle.switch_model.specs.Laws.{EndsAt}
use Rattle.port_runs.specs.Periods.{vdd_port}
use Rattle.deck_audit.specs.Audits.{bridge, leaf, loop}
use Rattle.deck_audit.specs.Rules.{IsLeafNet, IsSinkNet, KeepsUse}
use Rattle.deck_audit.specs.Words.{Group, IsCellOutput, IsGroup, IsInverterOutput, IsLatchOutput}
use Rattle.found_decks.specs.FoundDecks.{AreFound, FoundLatch, FoundParts}
use Rattle.audit_deck.specs.Broken.{IsKept}
use Rattle.audit_deck.specs.Groups.{AreAllGroups, KeepsLatches}
use Rattle.audit_deck.specs.Indexes.{AreInRange}
use Rattle.audit_deck.specs.LeafOrders.{AreByPlace, IsOfLeaf}
use Rattle.audit_deck.specs.Loops.{IsCellOrder}
use Rattle.audit_deck.specs.Marks.{AreComplements, AreMarks, AreNetMarks, IsSomeComplement}
use Rattle.audit_deck.specs.Numberings.{IsMet}
use Rattle.audit_deck.specs.Uses.{KeepsUses}
use Rattle.audit_deck.specs.declared.marks.Marks.{Marks}
use Rattle.audit_deck.proofs.Breaks.{end_low}
use Rattle.audit_deck.proofs.DeckYes.{KeepsOthers}
use Rattle.audit_deck.proofs.FoundComplements.{latch_once, latches_there, placed_full, placed_ordered, placed_sound}

module _ (ds : List Device) (roles : Roles) where
  pub are_found : (tops complements : List ℕ) (latches : List FoundLatch) → IsCellOrder ds roles tops → KeepsLatches ds roles
      → AreAllGroups ds roles latches
      → (nets : ℕ) → AreInRange ds nets → (table : List (Option ℕ)) → AreComplements ds roles nets table
      → AreByPlace (IsOfLeaf roles latches table) (roles.pins + length latches) complements
      → AreFound ds roles (record { tops = tops; complements = complements; latches = latches })
  are_found tops complements latches cells keeps groups nets in_range table are placed = record {
    tops_sound = cells.are.sound;
    tops_full = cells.are.full;
    tops_once = cells.are.once;
    in_order = cells.earlier;
    complements_sound = placed_sound ds roles keeps latches groups nets in_range table are complements placed;
    complements_full = placed_full ds roles keeps latches groups nets in_range table are complements placed;
    complements_ordered = placed_ordered ds roles keeps latches groups nets in_range table are complements placed;
    latches_sound = groups.sound;
    latches_full = latches_there ds roles keeps latches groups;
    latches_once = λ i j l m at there same. latch_once ds roles keeps latches groups i j l m at there (ap (λ (g : Group). g.output) same);
  }

  -- a sink net that keeps rule 5 is an inverter output
  pub sink_inverts : (n : ℕ) → IsSinkNet ds roles n → KeepsUse ds roles n → (i : ℕ) × IsInverterOutput ds n i
  sink_inverts n sink k = elim k.used [
    | inl y ↦ absurd (y.1 sink)
    | inr (inl y) ↦ (y.1.0, y.1.1)
    | inr (inr (i, is)) ↦ (i, (is.0).inverts)
  ]

  -- the data of a latch is a sink net
  pub data_sink : (latches : List FoundLatch) → ((j : ℕ) (l : FoundLatch) → slice_get latches j ≡ Some l → IsGroup ds roles l.group l.places)
      → (j : ℕ) (l : FoundLatch) → slice_get latches j ≡ Some l → IsSinkNet ds roles (l.group).data_net
  data_sink latches sound j l at = inl (l.group, l.places, sound j l at, refl)

  pub inverter_low : (nets : ℕ) → AreInRange ds nets → (n i : ℕ) → IsInverterOutput ds n i → n < nets
  inverter_low nets in_range n i v = end_low ds roles nets in_range v.up v.pull_up n v.up_there (one_end v.pull_up n vdd_port (v.up_is).2)
    where
      one_end : (d : Device) (a b : ℕ) → Ends d a b → EndsAt d a
      one_end d a b (inl e) = inl e.0
      one_end d a b (inr e) = inr e.0

-- a net that is marked, or not
marked_or : (P : ℕ → Type 0) (nets : ℕ) (marks : List Bool) → AreMarks P nets marks → (n : ℕ) → n < nets → Decided (P n)
marked_or P nets marks are n lt = by (get_or marks n true) (slice_get-get_or marks n true (omega (arith, lt, are.count)))
  where
    by : (b : Bool) → slice_get marks n ≡ Some b → Decided (P n)
    by true e = inl (are.yes n e)
    by false e = inr (are.no n e)

-- a number that stands in a list, or not
met_or : (numbers : List ℕ) (n : ℕ) → Decided (IsMet numbers n)
met_or numbers n =
    dec_map {A = (x : ℕ) × Contains numbers x × (x ≡ n)} {B = IsMet numbers n}
    (λ z. let i = slice_get-contained numbers z.0 z.1 in (i.0, i.1 ∙ ap Some z.2))
    (λ z. (n, Contains-slice_get numbers z.0 n z.1, refl))
    (dec_any (λ x. x ≡ n) (λ x. dec_nat x n) numbers)

at_least : (a b : ℕ) → Decided (a ≤ b)
at_least a b = elim (lt_or_ge b a) [ inl lt ↦ inr (λ le. omega (arith, lt, le)) | inr ge ↦ inl ge ]

module _ (ds : List Device) (roles : Roles) (nets : ℕ) (m : Marks) (are : AreNetMarks ds roles nets m)
    (f : FoundParts) (found : AreFound ds roles f) where
  leaf_or : (n : ℕ) → n < nets → Decided (IsLeafNet ds roles n)
  leaf_or n lt =
      dec_or (dec_and (at_least (first_pin roles) n) (dec_less n (source_count roles)))
      (dec_or (marked_or (IsLatchOutput ds roles) nets m.latch_outputs are.latch_outputs n lt)
      (dec_or (dec_map {A = IsMet f.complements n} {B = IsSomeComplement ds roles n} (λ z. found.complements_sound z.0 n z.1)
      (λ z. found.complements_full n z.0 z.1) (met_or f.complements n))
      (marked_or (IsCellOutput ds roles) nets m.outputs are.outputs n lt)))

  pub keeps_others : AreInRange ds nets → KeepsLatches ds roles → KeepsUses ds roles nets
      → IsKept ds roles nets 5 → IsKept ds roles nets 6 → KeepsOthers ds roles nets
  keeps_others in_range keeps uses fifth sixth = record {
    latch = keeps;
    use_of = uses;
    no_bridge = λ p d at two. fifth d.drain (bridge p d at two);
    leaves = λ x p d dynamic at t. elim (leaf_or d.gate (in_range p d at).gate) [
      | inl is ↦ is
      | inr away ↦ absurd (sixth x (leaf p d dynamic at t away))
    ];
    no_loop = λ x dynamic on. sixth x (loop dynamic on);
  }
