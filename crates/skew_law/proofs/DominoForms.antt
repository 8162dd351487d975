-- The circuit of a plan with chains of buffers has the form of a domino deck of the network.
use Rattle.domino_cell.specs.declared.style.Style.TheVariants.{Keeper as WithKeeper}
use Rattle.std.specs.Prelude.{All, Some, map, slice_get}
use Rattle.std.specs.List.{AllByRecursion, AllZip, zip}
use Rattle.std.proofs.Common.{Bool, List, [], arith, length, refl, subst, suc, sym, zero, ℕ, ◌+◌, ◌∷◌, ◌≡◌, ◌≤◌}
use Rattle.deck.specs.CircuitData.{CircuitData}
use Rattle.dom_base.proofs.Lists.{All-at, AllByRecursion-append}
use Rattle.sp_network.specs.Tree.{Leaf, Parallel, Series, Tree, height, map_tree, width}
use Rattle.sp_network.proofs.TreeImages.{height-map_tree, width-map_tree}
use Rattle.dual_rail.proofs.Zips.{all_from}
use Rattle.network.proofs.Lists.{get_of_map}
use Rattle.network.specs.NetworkData.{NetworkData}
use Rattle.network.specs.Networks.{IsNetwork}
use Rattle.tree_map.specs.Bounds.{IsWithin}
use Rattle.clock_phase.specs.Levels.{clock_of, greatest}
use Rattle.deck_form.specs.AskedOptions.{keeper_options}
use Rattle.deck_form.specs.ChosenDecks.{IsPlannedDeck, end_at_cell}
use Rattle.deck_form.specs.DeckNets.{CellPlan, Fixed, OfDynamic, OfLeaf, OfOutput, SinkEnd}
use Rattle.deck_form.specs.DominoDecks.{HasSign, IsDominoDeck, cells_of}
use Rattle.deck_form.specs.NamedDecks.{IsEndIn, IsNamedDeck, ReadsBelow}
use Rattle.deck_form.specs.declared.options.SynthOptions.{SynthOptions}
use Rattle.deck_form.proofs.DeckForms.{zipped_get}
use Rattle.phase_buffer.specs.BufferedPlans.{DeckPlan, new_gate, plan_cells}
use Rattle.phase_buffer.specs.Chains.{chain, chain_length, place, taken_at, with_chains}
use Rattle.phase_buffer.specs.Laws.{MayBeBuffered}
use Rattle.synth_flow.specs.BufferedDecks.{IsBufferedDeck, buffered_circuit, new_end}
use Rattle.deck_law.proofs.Numbers.{the_shape}
use Rattle.skew_law.specs.DominoForms.{HasDominoForm}
use Rattle.skew_law.specs.RootPairs.{unbuffered_plan}
use Rattle.skew_law.proofs.BufferedCircuits.{plan_same}
use Rattle.skew_law.proofs.NamedPlans.{below, clocks, each_at, ends, the_plan}
use Rattle.skew_law.proofs.PlannedShapes.{domino, leaves_are, planned_deck, planned_may_be_buffered}

-- a tree has a leaf
some_width : (t : Tree ℕ) → 1 ≤ width t
some_width (Leaf gate) = omega arith
some_width (Series l r) = omega (arith, some_width l)
some_width (Parallel l r) = omega (arith, some_width l)

some_height : (t : Tree ℕ) → 1 ≤ height t
some_height (Leaf gate) = omega arith
some_height (Series l r) = omega (arith, some_height l)
some_height (Parallel l r) = omega (arith, some_height l)

-- cells within bounds stay so, and their buffers are
module _ (w h : ℕ) (p : DeckPlan) where
  abbrev IsFit : CellPlan → Type 0
  IsFit c = IsWithin w h c.tree

  mapped : (f : ℕ → ℕ) (t : Tree ℕ) → IsWithin w h t → IsWithin w h (map_tree f t)
  mapped f t fit = rw (width-map_tree f t, height-map_tree f t) fit

  buffers_fit : 1 ≤ w → 1 ≤ h → (at clock n : ℕ) → AllByRecursion IsFit (chain (plan_cells p) at clock n)
  buffers_fit wide high at clock zero = tt
  buffers_fit wide high at clock (suc n) = ((wide, high), buffers_fit wide high (at + 1) (clock + 1) n)

  chains_fit : (k : ℕ) (cs : List CellPlan) → ((j : ℕ) (c : CellPlan) → slice_get cs j ≡ Some c → IsFit c) → AllByRecursion IsFit (with_chains (plan_cells p) k cs)
  chains_fit k [] fit = tt
  chains_fit k (c ∷ cs) fit =
      let here = fit 0 c refl in
      let wide = some_width c.tree in
      let high = some_height c.tree in (
        mapped (new_gate p.leaves (taken_at (plan_cells p) c.clock)) c.tree here,
        AllByRecursion-append IsFit (chain (plan_cells p) (place (plan_cells p) k) c.clock (chain_length (plan_cells p) k)) (with_chains (plan_cells p) (suc k) cs)
            (buffers_fit (omega (arith, wide, here.0)) (omega (arith, high, here.1)) (place (plan_cells p) k) c.clock (chain_length (plan_cells p) k))
            (chains_fit (suc k) cs (λ j d e. fit (suc j) d e)),
      )

-- a sink is taken as its sign says
sign_kept : (p : DeckPlan) (sign : Bool) (end : SinkEnd) → HasSign sign end → HasSign sign (new_end p end)
sign_kept p sign (Fixed b) h = tt
sign_kept p sign (OfLeaf leaf plus) h = tt
sign_kept p sign (OfDynamic k) h = h
sign_kept p sign (OfOutput k) h = h

signs_kept : (p : DeckPlan) (signs : List Bool) (es : List SinkEnd) → AllZip HasSign signs es → AllZip HasSign signs (map (new_end p) es)
signs_kept p [] [] h = h
signs_kept p [] (end ∷ es) h = absurd h
signs_kept p (sign ∷ signs) [] h = absurd h
signs_kept p (sign ∷ signs) (end ∷ es) h = (sign_kept p sign end h.0, signs_kept p signs es h.1)

module _ (network : NetworkData) (options : SynthOptions) (plain : CircuitData) (planned : IsPlannedDeck network (keeper_options options) plain) (net_is : IsNetwork network)
    (some : 1 ≤ options.phases) (few : options.phases ≤ 4) where
  abbrev d : IsNamedDeck WithKeeper plain
  d = planned_deck network options plain planned net_is some few

  abbrev may : MayBeBuffered (the_shape d)
  may = planned_may_be_buffered network options plain planned net_is some few

  abbrev is_domino : IsDominoDeck network (keeper_options options) plain
  is_domino = domino network options plain planned net_is some few

  abbrev cells : List CellPlan
  cells = cells_of options.phases planned.levels planned.trees

  abbrev old_ends : List SinkEnd
  old_ends = map (end_at_cell planned.kept) planned.forest.ends

  abbrev p : DeckPlan
  p = unbuffered_plan network options planned

  same : p ≡ the_plan plain d may
  same = plan_same network options plain planned net_is some few

  -- what holds of the deck's plan holds of the network's
  from_deck : (P : DeckPlan → Type 0) → P (the_plan plain d may) → P p
  from_deck P h = subst P (sym same) h

  fits : (k : ℕ) (c : CellPlan) → slice_get cells k ≡ Some c → IsWithin options.bounds.w options.bounds.h c.tree
  fits k c e =
      let n = get_of_map (λ (x : Tree ℕ × ℕ). record { tree = x.0; clock = clock_of options.phases (greatest planned.levels) x.1 }) (zip planned.trees planned.levels) k c e in
      subst (λ (x : CellPlan). IsWithin options.bounds.w options.bounds.h x.tree) n.2
      (All-at (IsWithin options.bounds.w options.bounds.h) planned.trees k (n.0).0 planned.is_plan.within (zipped_get planned.trees planned.levels k n.0 n.1).0)

  pub form : HasDominoForm network options (buffered_circuit network options.phases planned.signs old_ends p)
  form = record {
    cells = with_chains (plan_cells p) 0 cells;
    signs = planned.signs;
    ends = map (new_end p) old_ends;
    some_clock = some;
    few_clocks = few;
    clocks_are =
        from_deck (λ q. All (λ (c : CellPlan). (1 ≤ c.clock) × (c.clock ≤ options.phases)) (with_chains (plan_cells q) 0 cells))
        (all_from (λ (c : CellPlan). (1 ≤ c.clock) × (c.clock ≤ options.phases)) (with_chains (plan_cells (the_plan plain d may)) 0 cells) (clocks plain d may));
    within = all_from (IsFit options.bounds.w options.bounds.h p) (with_chains (plan_cells p) 0 cells)
        (each_at (IsFit options.bounds.w options.bounds.h p) (with_chains (plan_cells p) 0 cells) (chains_fit options.bounds.w options.bounds.h p 0 cells fits));
    reads_below =
        subst (λ n. ReadsBelow n (with_chains (plan_cells p) 0 cells)) (leaves_are network options plain planned net_is some few)
        (from_deck (λ q. ReadsBelow (length d.pins + length d.starts) (with_chains (plan_cells q) 0 cells)) (below plain d may));
    one_sign = is_domino.one_sign;
    signs_are = signs_kept p planned.signs old_ends is_domino.signs_are;
    ends_are =
        subst (λ n. All (IsEndIn n (length (with_chains (plan_cells p) 0 cells))) (map (new_end p) old_ends)) (leaves_are network options plain planned net_is some few)
        (from_deck (λ q. All (IsEndIn (length d.pins + length d.starts) (length (with_chains (plan_cells q) 0 cells))) (map (new_end q) old_ends))
        (all_from (IsEndIn (length d.pins + length d.starts) (length (with_chains (plan_cells (the_plan plain d may)) 0 cells))) (map (new_end (the_plan plain d may)) old_ends) (ends plain d may)));
    circuit_is = refl;
  }

pub domino_form : (network : NetworkData) (options : SynthOptions) (circuit : CircuitData) → IsNetwork network → 1 ≤ options.phases → options.phases ≤ 4
    → IsBufferedDeck network options circuit → HasDominoForm network options circuit
domino_form network options circuit net_is some few is =
    subst (HasDominoForm network options) (sym is.circuit_is) (form network options is.plain is.planned net_is some few)
