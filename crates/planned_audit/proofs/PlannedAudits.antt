-- Loose decks by names, and so planned decks, get a yes.
use Rattle.std.specs.List.{zip}
use Rattle.std.proofs.Common.{List, [], ap, arith, length, map, max, refl, subst, ℕ, ◌+◌, ◌∙◌, ◌∷◌, ◌≡◌}
use Rattle.std.proofs.lemmas.List.{length-map}
use Rattle.deck.specs.CircuitData.{CircuitData}
use Rattle.deck.specs.Nets.{IsCircuit}
use Rattle.deck.specs.declared.role.Roles.{Roles}
use Rattle.sp_network.specs.Tree.{Tree, height, width}
use Rattle.sp_network.proofs.TreeImages.{height-map_tree, width-map_tree}
use Rattle.domino_cell.specs.declared.style.Style.TheVariants.{Keeper as WithKeeper}
use Rattle.switch_model.specs.LinksData.{links_of}
use Rattle.domino_law.specs.DominoDeck.{IsLooseDominoDeck}
use Rattle.domino_law.specs.Nets.{Net}
use Rattle.domino_law.specs.Shape.{Shape}
use Rattle.clock_phase.specs.Levels.{clock_of, greatest}
use Rattle.gate_decompose.proofs.NetworkOrder.{networks_are_ordered}
use Rattle.deck_form.specs.AskedOptions.{keeper_options}
use Rattle.deck_form.specs.DeckNets.{CellPlan}
use Rattle.deck_form.specs.NamedDecks.{IsNamedDeck}
use Rattle.deck_form.proofs.DeckForms.{domino_decks_are_loose, planned_decks_are_domino}
use Rattle.deck_law.specs.Laws.{roles_of_deck}
use Rattle.deck_law.specs.NetNames.{cell_shape, deck_shape, gate_of, numbering}
use Rattle.deck_law.proofs.SpelledDecks.{loose_deck}
use Rattle.deck_audit.specs.Audits.{IsOrder, IsYes}
use Rattle.deck_audit.specs.OwnDecks.{greatest_of}
use Rattle.deck_audit.proofs.OwnDecks.{keeper_decks_get_yes}
use Rattle.planned_audit.specs.PlannedAudits.{IsReordered, NamedDecksGetYes, PlannedDecksGetYes, roles_of_planned}
use Rattle.planned_audit.proofs.RenumberedDecks.{devices_anew, loose_anew}

-- the greatest of a measure by another
greatest_map : {X Y : Type 0} (f : X → Y) (m : Y → ℕ) (n : X → ℕ) → ((x : X) → m (f x) ≡ n x) → (xs : List X) → greatest_of m (map f xs) ≡ greatest_of n xs
greatest_map f m n h [] = refl
greatest_map f m n h (x ∷ xs) = λ i. max (h x i) (greatest_map f m n h xs i)

greatest_zip : {X Y : Type 0} (m : X → ℕ) (xs : List X) (ys : List Y) → length ys ≡ length xs → greatest_of (λ (p : X × Y). m p.0) (zip xs ys) ≡ greatest_of m xs
greatest_zip m [] ys e = refl
greatest_zip m (x ∷ xs) [] e = absurd (omega (arith, e))
greatest_zip m (x ∷ xs) (y ∷ ys) e = ap (max (m x)) (greatest_zip m xs ys (omega (arith, e)))

length_zip : {X Y : Type 0} (xs : List X) (ys : List Y) → length ys ≡ length xs → length (zip xs ys) ≡ length xs
length_zip [] ys e = refl
length_zip (x ∷ xs) [] e = absurd (omega (arith, e))
length_zip (x ∷ xs) (y ∷ ys) e = omega (arith, length_zip xs ys (omega (arith, e)))

-- an answer with equal numbers
with_numbers : (c : CircuitData) (roles : Roles) (order : List ℕ) {a b c' d e f : ℕ} → a ≡ b → c' ≡ d → e ≡ f → IsYes c roles order a c' e → IsYes c roles order b d f
with_numbers c roles order {a} {b} {c'} {d} {e} {f} x y z h = subst (λ k. IsYes c roles order k d f) x (subst (λ k. IsYes c roles order a k f) y (subst (λ k. IsYes c roles order a c' k) z h))

module _ (deck : CircuitData) (d : IsNamedDeck WithKeeper deck) (ok : IsCircuit deck.ports deck.nets deck.devices) where
  abbrev roles : Roles
  roles = roles_of_deck WithKeeper deck d

  abbrev net : Net → ℕ
  net = numbering deck.nets d.pins d.outs

  abbrev s : Shape
  s = deck_shape WithKeeper d.clocks d.pins d.outs d.starts d.cells d.complements d.ends

  loose : IsLooseDominoDeck roles (links_of deck roles) net s
  loose = loose_deck d ok

  gets_yes : (c : CircuitData) (order : List ℕ) → IsReordered roles deck c order
      → IsYes c roles order (length d.cells) (greatest_of (λ cell. width cell.tree) d.cells) (greatest_of (λ cell. height cell.tree) d.cells)
  gets_yes c order r =
      with_numbers c roles order (length-map d.cells (cell_shape (length d.pins) (length d.pins + length d.starts)))
      (greatest_map (cell_shape (length d.pins) (length d.pins + length d.starts)) (λ cell. width cell.tree) (λ p. width p.tree) (λ p. width-map_tree (gate_of (length d.pins) (length d.pins + length d.starts)) p.tree) d.cells)
      (greatest_map (cell_shape (length d.pins) (length d.pins + length d.starts)) (λ cell. height cell.tree) (λ p. height p.tree) (λ p. height-map_tree (gate_of (length d.pins) (length d.pins + length d.starts)) p.tree) d.cells)
      (keeper_decks_get_yes c roles (λ a. r.anew (net a)) s order refl (loose_anew deck c roles net s loose r.anew r.renumbers)
      (subst (IsOrder c.devices order) (devices_anew deck c roles net s loose r.anew r.renumbers) r.in_order))

pub named_decks_get_yes : NamedDecksGetYes
named_decks_get_yes deck d ok c order r = gets_yes deck d ok c order r

-- a tree with the clock of its level
abbrev plan : ℕ → List ℕ → Tree ℕ × ℕ → CellPlan
plan phases levels p = record { tree = p.0; clock = clock_of phases (greatest levels) p.1 }

pub planned_decks_get_yes : PlannedDecksGetYes
planned_decks_get_yes network options deck is net_is some few ok c order r =
    with_numbers c (roles_of_planned network options.phases) order (length-map (zip is.trees is.levels) (plan options.phases is.levels) ∙ length_zip is.trees is.levels is.levels_are.one_each)
    (greatest_map (plan options.phases is.levels) (λ (c : CellPlan). width c.tree) (λ p. width p.0) (λ p. refl) (zip is.trees is.levels) ∙ greatest_zip width is.trees is.levels is.levels_are.one_each)
    (greatest_map (plan options.phases is.levels) (λ (c : CellPlan). height c.tree) (λ p. height p.0) (λ p. refl) (zip is.trees is.levels) ∙ greatest_zip height is.trees is.levels is.levels_are.one_each)
    (named_decks_get_yes deck (domino_decks_are_loose network (keeper_options options) deck (planned_decks_are_domino network (keeper_options options) deck is (networks_are_ordered network net_is) some few)) ok c order r)
