-- The shape of a planned deck may be buffered.
use Rattle.domino_cell.specs.declared.style.Style.TheVariants.{Keeper as WithKeeper}
use Rattle.std.specs.Prelude.{Contains, Some, slice_get, ◌==◌, ◌%◌, ◌/◌}
use Rattle.std.specs.List.{range_with_len}
use Rattle.std.proofs.Common.{Bool, List, [], arith, false, length, nat_lt, refl, subst, true, ℕ, ◌*◌, ◌++◌, ◌+◌, ◌-◌, ◌∙◌, ◌≡◌, ◌≤◌}
use Rattle.std.proofs.lemmas.List.Elements.{Contains-append_left, Contains-append_right}
use Rattle.deck.specs.CircuitData.{CircuitData}
use Rattle.dom_base.proofs.Lists.{Contains-first}
use Rattle.sp_network.specs.Tree.{EachLeaf, Leaf, Parallel, Series, Tree}
use Rattle.clock_phase.specs.Levels.{cells_read}
use Rattle.gate_decompose.specs.Sinks.{leaf_count}
use Rattle.gate_decompose.proofs.NetworkOrder.{networks_are_ordered}
use Rattle.network.proofs.Lists.{get_of_map}
use Rattle.network.specs.declared.network.NetLatch.{NetLatch}
use Rattle.network.specs.NetworkData.{NetworkData}
use Rattle.network.specs.Networks.{IsNetwork}
use Rattle.domino_law.specs.Shape.{DominoCell, IsCellAt, Shape}
use Rattle.domino_law.proofs.Leaves.{EachLeaf-map, EachLeaf-weaker}
use Rattle.deck_form.specs.ChosenDecks.{IsPlannedDeck}
use Rattle.deck_form.specs.DeckNets.{CellPlan}
use Rattle.deck_form.specs.DominoDecks.{IsDominoDeck, cells_of, pins_of, starts_of}
use Rattle.deck_form.specs.NamedDecks.{IsNamedDeck}
use Rattle.deck_form.specs.AskedOptions.{keeper_options}
use Rattle.deck_form.specs.declared.options.SynthOptions.{SynthOptions}
use Rattle.deck_form.proofs.ClockOrder.{clocks_rise}
use Rattle.deck_form.proofs.DeckForms.{domino_decks_are_loose, length_map, planned_decks_are_domino}
use Rattle.deck_law.specs.NetNames.{cell_shape, gate_of, rail_of}
use Rattle.deck_law.proofs.Numbers.{the_shape}
use Rattle.deck_law.proofs.OwnRun.{range_length}
use Rattle.deck_law.proofs.SpelledDecks.{shape_is}
use Rattle.phase_buffer.specs.Laws.{IsNoLater, MayBeBuffered}

-- each gate of a tree that is no rail is of a cell that the tree reads
each_read : (leaves : ℕ) (t : Tree ℕ) → EachLeaf (λ g. nat_lt g (2 * leaves) ≡ false → Contains (cells_read leaves t) (g - 2 * leaves)) t
each_read leaves (Leaf g) = λ e. rw e (Contains-first (g - 2 * leaves) [])
each_read leaves (Series l r) = (
  EachLeaf-weaker _ (λ g. nat_lt g (2 * leaves) ≡ false → Contains (cells_read leaves l ++ cells_read leaves r) (g - 2 * leaves))
      (λ g h e. Contains-append_left (cells_read leaves l) (cells_read leaves r) (g - 2 * leaves) (h e)) l (each_read leaves l),
  EachLeaf-weaker _ (λ g. nat_lt g (2 * leaves) ≡ false → Contains (cells_read leaves l ++ cells_read leaves r) (g - 2 * leaves))
      (λ g h e. Contains-append_right (cells_read leaves l) (cells_read leaves r) (g - 2 * leaves) (h e)) r (each_read leaves r),
)
each_read leaves (Parallel l r) = (
  EachLeaf-weaker _ (λ g. nat_lt g (2 * leaves) ≡ false → Contains (cells_read leaves l ++ cells_read leaves r) (g - 2 * leaves))
      (λ g h e. Contains-append_left (cells_read leaves l) (cells_read leaves r) (g - 2 * leaves) (h e)) l (each_read leaves l),
  EachLeaf-weaker _ (λ g. nat_lt g (2 * leaves) ≡ false → Contains (cells_read leaves l ++ cells_read leaves r) (g - 2 * leaves))
      (λ g h e. Contains-append_right (cells_read leaves l) (cells_read leaves r) (g - 2 * leaves) (h e)) r (each_read leaves r),
)

module _ (network : NetworkData) (options : SynthOptions) (plain : CircuitData) (planned : IsPlannedDeck network (keeper_options options) plain) (net_is : IsNetwork network)
    (some : 1 ≤ options.phases) (few : options.phases ≤ 4) where
  abbrev pub domino : IsDominoDeck network (keeper_options options) plain
  domino = planned_decks_are_domino network (keeper_options options) plain planned (networks_are_ordered network net_is) some few

  abbrev pub planned_deck : IsNamedDeck WithKeeper plain
  planned_deck = domino_decks_are_loose network (keeper_options options) plain domino

  abbrev pub planned_shape : Shape
  planned_shape = the_shape planned_deck

  abbrev pub cells : List CellPlan
  cells = cells_of options.phases planned.levels planned.trees

  pub pin_count : length (pins_of network) ≡ network.inputs
  pin_count = length_map _ (range_with_len 0 network.inputs) ∙ range_length 0 network.inputs

  pub leaves_are : length (pins_of network) + length (starts_of network) ≡ leaf_count network
  leaves_are = omega (arith, pin_count, length_map (λ (l : NetLatch). l.init) network.latches)

  -- in the planned deck no cell reads one of a later clock
  no_later : (k : ℕ) (c : DominoCell) → IsCellAt planned_shape k c → EachLeaf (IsNoLater planned_shape c.clock) c.tree
  no_later k c e =
      let m = get_of_map (cell_shape (length (pins_of network)) (length (pins_of network) + length (starts_of network))) cells k c e in
      subst (λ (x : DominoCell). EachLeaf (IsNoLater planned_shape x.clock) x.tree) m.2
      (EachLeaf-map (IsNoLater planned_shape ((m.0).clock - 1)) (gate_of (length (pins_of network)) (length (pins_of network) + length (starts_of network))) (m.0).tree
      (EachLeaf-weaker _ (λ g. IsNoLater planned_shape ((m.0).clock - 1) (gate_of (length (pins_of network)) (length (pins_of network) + length (starts_of network)) g))
      (λ g read. by g m.0 m.1 (nat_lt g (2 * (length (pins_of network) + length (starts_of network)))) refl read) (m.0).tree
      (each_read (length (pins_of network) + length (starts_of network)) (m.0).tree)))
    where
      rail : (leaf : ℕ) (b : Bool) (clock : ℕ) → IsNoLater planned_shape clock (rail_of (length (pins_of network)) leaf b)
      rail leaf true clock = tt
      rail leaf false clock = tt

      by : (g : ℕ) (p : CellPlan) → slice_get cells k ≡ Some p → (b : Bool) → nat_lt g (2 * (length (pins_of network) + length (starts_of network))) ≡ b
          → (nat_lt g (2 * (length (pins_of network) + length (starts_of network))) ≡ false → Contains (cells_read (length (pins_of network) + length (starts_of network)) p.tree) (g - 2 * (length (pins_of network) + length (starts_of network))))
          → IsNoLater planned_shape (p.clock - 1) (gate_of (length (pins_of network)) (length (pins_of network) + length (starts_of network)) g)
      by g p at true z read = rw z (rail (g / 2) (g % 2 == 0) (p.clock - 1))
      by g p at false z read =
          rw z (λ d f.
          let m = get_of_map (cell_shape (length (pins_of network)) (length (pins_of network) + length (starts_of network))) cells (g - 2 * (length (pins_of network) + length (starts_of network))) d f in
          let le = clocks_rise network (keeper_options options) plain domino k (g - 2 * (length (pins_of network) + length (starts_of network))) p m.0 at m.1
          (subst (λ l. Contains (cells_read l p.tree) (g - 2 * (length (pins_of network) + length (starts_of network)))) leaves_are (read z)) in
          subst (λ (x : DominoCell). x.clock ≤ p.clock - 1) m.2 (less (m.0).clock p.clock le))
        where
          less : (a b : ℕ) → a ≤ b → a - 1 ≤ b - 1
          less a b l = omega arith

  pub planned_may_be_buffered : MayBeBuffered planned_shape
  planned_may_be_buffered = record { shape = shape_is planned_deck; keepers = refl; some_clock = some; no_later = no_later }
