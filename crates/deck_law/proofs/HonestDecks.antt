-- Decks are honest: what the laws of loose domino decks say of the circuits of networks and of the decks of texts.
use Rattle.std.specs.Prelude.{codes, ◌⊎◌}
use Rattle.std.specs.Fmt.{decimal}
use Rattle.std.specs.List.{AllByRecursion, range_with_len}
use Rattle.std.proofs.Common.{Bool, List, [], ap, inr, length, map, refl, subst, sym, zero-add, ℕ, ◌++◌, ◌∙◌, ◌∷◌, ◌≡◌}
use Rattle.deck.specs.CircuitData.{CircuitData}
use Rattle.deck.specs.Nets.{IsCircuit, net_number}
use Rattle.deck.specs.PortLayout.{first_output}
use Rattle.deck.specs.Switches.{value_of}
use Rattle.deck.specs.declared.role.Roles.{Roles}
use Rattle.deck.proofs.DeckCircuits.{IsDeckOf-circuit}
use Rattle.domino_cell.specs.declared.style.Style.{Style}
use Rattle.switch_model.specs.LinksData.{links_of}
use Rattle.network.specs.declared.network.NetLatch.{NetLatch}
use Rattle.network.specs.NetworkData.{NetworkData}
use Rattle.net_run.specs.Runs.{start}
use Rattle.port_runs.specs.Environment.{Released, Reset, Step, World, bit}
use Rattle.port_runs.specs.declared.clocking.Clocking.{Clocking}
use Rattle.port_runs.specs.declared.clocking.Clocking.TheVariants.{Together}
use Rattle.port_runs.specs.PortRuns.{Rests, RunsBy, power_world}
use Rattle.port_runs.specs.Readings.{IsReading}
use Rattle.domino_law.specs.DominoDeck.{IsLooseDominoDeck}
use Rattle.domino_law.specs.LooseDeck.{IsLooseDeck}
use Rattle.domino_law.specs.Nets.{Net}
use Rattle.domino_law.specs.OwnRun.{bit_at}
use Rattle.domino_law.specs.Runs.{IsHonestWorld}
use Rattle.domino_law.specs.Shape.{Latch, Shape}
use Rattle.domino_law.proofs.DominoDecks.{port_is_output}
use Rattle.domino_law.proofs.HonestLaws.{keeps_honest, reset_reaches, rest_is_value, runs_are_honest}
use Rattle.domino_law.proofs.OwnRuns.{bit_at-map}
use Rattle.domino_law.proofs.PortLaws.{leads_own, loose, start as power_start}
use Rattle.domino_law.proofs.PortRunLaws.{is_run, step_is}
use Rattle.deck_form.specs.DeckOptions.{DeckOptions}
use Rattle.deck_form.specs.DominoDecks.{IsDominoDeck}
use Rattle.deck_form.specs.NamedDecks.{IsNamedDeck}
use Rattle.deck_form.proofs.DeckForms.{domino_decks_are_loose, length_map}
use Rattle.deck_law.specs.Headline.{ReadsCycle, roles_of}
use Rattle.deck_law.specs.HonestDecks.{IsHonestCircuit, IsHonestDeck, PlannedCircuitsAreHonest, RightDecksAreHonest}
use Rattle.deck_law.specs.OwnRuns.{DoesNetwork}
use Rattle.deck_law.proofs.NetworkDecks.{HasCycle, has_cycle, row_is}
use Rattle.deck_law.proofs.Numbers.{the_net, the_roles, the_shape}
use Rattle.deck_law.proofs.RightDecks.{does_network, planned_roles, roles_same}
use Rattle.deck_law.proofs.SpelledDecks.{loose_deck}

module _ (c : CircuitData) (roles : Roles) (net : Net → ℕ) (s : Shape) (deck : IsLooseDominoDeck roles (links_of c roles) net s) where
  stands : IsLooseDeck (links_of c roles) net s
  stands = loose c roles net s deck

  pub is_honest : IsHonestCircuit c roles net s
  is_honest = record {
    deck = deck;
    honest = λ w h.
        runs_are_honest (links_of c roles) net s h.steps (power_world c roles) w stands (power_start c roles net s deck)
        (is_run c roles net s deck.ports h.steps w h.run) h.beyond;
    kept = λ step w w' whole risen h does.
        keeps_honest (links_of c roles) net s step w w' stands whole h
        (step_is c roles net s deck.ports step w w' does (record { whole = whole; sources = (h.frame).sources; first = risen })).0;
    started = λ steps w r at.
        reset_reaches (links_of c roles) net s steps (power_world c roles) w stands (power_start c roles net s deck)
        (is_run c roles net s deck.ports steps w r) at;
    read = λ w whole h r.
        rest_is_value (links_of c roles) net s w stands whole h (record { place = r.place; risen = r.risen ∙ sym (deck.ports).clocks_are; rests = r.rests });
  }

module _ {network : NetworkData} {circuit : CircuitData} {roles : Roles} {net : Net → ℕ} {s : Shape}
    (does : DoesNetwork network circuit roles net s) {clocking : Clocking} {style : Style} (fall : s.clocking ≡ clocking) (style_is : s.style ≡ style) where
  honest : IsHonestCircuit circuit roles net s
  honest = is_honest circuit roles net s does.deck

  starts : (steps : List Step) (v : World) → RunsBy clocking circuit roles steps v → ((v.place ≡ Reset) × Rests circuit roles v) ⊎ (v.place ≡ Released)
      → map (λ j. value_of v.values (net_number circuit.nets (codes "q" ++ decimal j))) (range_with_len 0 (length network.latches)) ≡ map bit (start network)
  starts steps v r at =
      row_is v.values (λ j. net_number circuit.nets (codes "q" ++ decimal j)) 0 (length network.latches) (start network)
      (length_map (λ (l : NetLatch). l.init) network.latches)
      (λ k lt.
      let b = does.latch_there k lt in
      ap (λ n. value_of v.values (net_number circuit.nets (codes "q" ++ decimal n))) (zero-add k)
      ∙ ap (value_of v.values) (sym (does.outputs_are k lt))
      ∙ honest.started steps v (leads_own circuit roles net s does.deck clocking (inr (sym fall)) steps (power_world circuit roles) v r) at k b.0 b.1
      ∙ sym (ap bit (bit_at-map (λ (l : Latch). l.init) s.latches k b.0 b.1))
      ∙ ap (λ l. bit (bit_at l k)) does.runs.starts)

  reads : (v : World) → length v.values ≡ length circuit.nets → AllByRecursion (λ (u : List Bool). length u ≡ network.inputs) (v.past ++ v.pins ∷ [])
      → IsHonestWorld (links_of circuit roles) net s v → IsReading circuit roles v → ReadsCycle network circuit roles (v.past ++ v.pins ∷ []) v.values
  reads v whole fit good at =
      let r : HasCycle does v.past v.pins = has_cycle does v.past v.pins fit in
      let values = honest.read v whole good at in
      record {
        cycle = r.cycle;
        is_cycle = record { earlier = r.earlier; run = r.run };
        outputs = row_is v.values (λ n. n) (first_output roles) roles.outs r.cycle.outputs (r.out_fits ∙ sym does.outs_are)
            (λ k lt.
            let output = port_is_output roles circuit net s does.deck k lt in
            ap (value_of v.values) (sym output.2) ∙ values.outputs k output.0 output.1 ∙ ap (λ l. bit (bit_at l k)) r.outputs);
        nexts = row_is v.values (λ j. net_number circuit.nets (codes "x" ++ decimal j)) 0 (length network.latches) r.cycle.next r.next_fits
            (λ k lt.
            let b = does.latch_there k lt in
            ap (λ n. value_of v.values (net_number circuit.nets (codes "x" ++ decimal n))) (zero-add k)
            ∙ ap (value_of v.values) (sym (does.data_are k lt))
            ∙ values.nexts k b.0 b.1
            ∙ ap (λ l. bit (bit_at l k)) r.next);
      }

  pub honest_network : IsHonestDeck clocking style network circuit roles
  honest_network = record { net = net; shape = s; clocks_fall = fall; style_is = style_is; honest = honest; own = does.runs; starts = starts; reads = reads }

  -- whose shape is this one
  pub honest_shape : honest_network.shape ≡ s
  unfolding honest_network
  honest_shape = refl

module _ {network : NetworkData} {options : DeckOptions} {circuit : CircuitData} (domino : IsDominoDeck network options circuit)
    (ok : IsCircuit circuit.ports circuit.nets circuit.devices) where
  abbrev d : IsNamedDeck options.style circuit
  d = domino_decks_are_loose network options circuit domino

  pub honest_deck : IsHonestCircuit circuit (roles_of network options.phases) (the_net d) (the_shape d)
  honest_deck =
      subst (λ r. IsHonestCircuit circuit r (the_net d) (the_shape d)) (roles_same domino ok)
      (is_honest circuit (the_roles d) (the_net d) (the_shape d) (loose_deck d ok))

pub right_decks_are_honest : RightDecksAreHonest
right_decks_are_honest = λ blif options deck r.
    record {
      net = the_net (domino_decks_are_loose r.network options r.circuit r.is_deck);
      shape = the_shape (domino_decks_are_loose r.network options r.circuit r.is_deck);
      clocks_fall = refl;
      style_is = refl;
      honest = honest_deck r.is_deck (IsDeckOf-circuit deck r.circuit r.reads_back);
    }

pub planned_circuits_are_honest : PlannedCircuitsAreHonest
planned_circuits_are_honest = λ network options circuit net_is some few is ok.
    subst (IsHonestDeck Together options.style network circuit) (planned_roles is net_is some few ok)
    (honest_network (does_network is net_is some few ok) refl refl)
