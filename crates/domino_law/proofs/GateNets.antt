-- Each net that gates a device of a deck is a source of the deck or the top of a part.
use Rattle.std.specs.List.{AllByRecursion}
use Rattle.std.specs.Prelude.{Contains, ◌⊎◌}
use Rattle.std.proofs.Common.{Bool, List, [], false, inl, inr, refl, sym, true, ℕ, ◌∙◌, ◌≡◌}
use Rattle.deck.specs.declared.device.Device.{Device}
use Rattle.sp_network.specs.Tree.{EachLeaf, Leaf, Tree, dual}
use Rattle.domino_cell.specs.Stage.{Branch, Top}
use Rattle.circuit_law.specs.Counts.{Gates}
use Rattle.domino_cell.specs.Tapped.{Tap, ways}
use Rattle.domino_cell.proofs.PushedTrees.{EachLeaf-dual}
use Rattle.domino_law.specs.Branches.{HasBranches, reset_branch, static_branches}
use Rattle.domino_law.specs.LooseDeck.{HoldsDeck, IsPart, IsSourceNet}
use Rattle.domino_law.specs.Nets.{At, Clock, Complement, Dynamic, FromLatch, FromPin, Gate, Lm, Lmb, Ls, Lsb, Master, Net, Next, Output, Part, Pin, Plus, Rs, Rsb, Sink, Slave, Vdd, Vss, gate_net, own, DeckSignal}
use Rattle.domino_law.specs.Shape.{IsGate, IsShape, IsSignal, Shape, dynamic_nets, gate_tree}
use Rattle.domino_law.proofs.DeckParts.{leaf_is_gate}
use Rattle.domino_law.proofs.Statics.{each_dynamic, gate_nets, leaf_net}
use Rattle.domino_law.proofs.Ways.{other_ways, tapped-gates}
use Rattle.domino_law.proofs.Leaves.{EachLeaf-map, EachLeaf-weaker}

-- a source of the deck, or the top of a part
abbrev pub IsMain : (Net → ℕ) → Shape → ℕ → Type 0
IsMain net s x = ((a : Net) × IsSourceNet s a × (x ≡ net a)) ⊎ ((part : Part) × IsPart s part × (x ≡ net (At part Top)))

pub main_source : (net : Net → ℕ) (s : Shape) (a : Net) → IsSourceNet s a → IsMain net s (net a)
main_source net s a i = inl (a, i, refl)

pub main_part : (net : Net → ℕ) (s : Shape) (part : Part) → IsPart s part → IsMain net s (net (At part Top))
main_part net s part a = inr (part, a, refl)

pub main_gate : (net : Net → ℕ) (s : Shape) → IsShape s → (g : Gate) → IsGate s g → EachLeaf (λ a. IsMain net s (net a)) (gate_tree s g)
main_gate net s shape =
    gate_nets s (λ a. IsMain net s (net a)) signal (λ l a. main_part net s (Complement l) a) (λ k c e. main_part net s (Output k) (c, e))
    (λ k c e. main_part net s (Dynamic k) (c, e)) (main_source net s Vdd tt) (main_source net s Vss tt)
  where
    signal : (l : DeckSignal) → IsSignal s l → IsMain net s (net (own l))
    signal (FromPin p) a = main_source net s (Pin p) a
    signal (FromLatch j) a = main_part net s (Slave j) a

module _ {devices : List Device} {is_source : ℕ → Bool} {net : Net → ℕ} {s : Shape} (deck : HoldsDeck devices is_source net s) where
  static : (t : Tree Net) → EachLeaf (λ a. IsMain net s (net a)) t → AllByRecursion (λ b. EachLeaf (IsMain net s) b.tree) (ways (static_branches net t) [])
  static t h = (EachLeaf-map (IsMain net s) net (dual t) (EachLeaf-dual (λ a. IsMain net s (net a)) t h), (EachLeaf-map (IsMain net s) net t h, tt))

  main_branches : (part : Part) (bs : List Branch) (taps : List Tap) → HasBranches s net part bs taps → AllByRecursion (λ b. EachLeaf (IsMain net s) b.tree) (ways bs taps)
  main_branches (Dynamic k) bs taps (c, e, z, y) =
      let clock = main_source net s (Clock c.clock) ((deck.shape).clocks_are k c e) in
      rw (z, y) (
        (
          EachLeaf-map (IsMain net s) (λ g. net (gate_net g)) c.tree
              (EachLeaf-weaker _ (λ g. IsMain net s (net (gate_net g))) (λ g l. leaf_net s (λ a. IsMain net s (net a)) k.cell g l (main_gate net s deck.shape g (leaf_is_gate s k.cell g l))) c.tree ((deck.shape).leaves k c e)),
          clock,
        ),
        (clock, other_ways net (λ b. EachLeaf (IsMain net s) b.tree) s.style k c clock (main_part net s (Output k.cell) (e.0, e.1))),
      )
  main_branches (Output k) bs taps (c, e, z, y) = rw (z, y) (static (dynamic_nets k c.right) (each_dynamic s (λ a. IsMain net s (net a)) k c e (λ d q side i. main_part net s (Dynamic _) (d, i))))
  main_branches (Complement l) bs taps (e, z, y) = rw (z, y) (static (Leaf (own l)) (main_gate net s deck.shape (Plus l) ((deck.shape).complements_are l e)))
  main_branches (Master j) bs taps (b, e, z, y) =
      let g = main_part net s (Next j) (b, e) in rw (z, y) ((main_source net s Lmb tt, g), ((main_source net s Lm tt, g), tt))
  main_branches (Slave j) bs taps (b, e, z, y) =
      let g = main_part net s (Master j) (b, e) in rw (z, y) ((main_source net s Lsb tt, g), ((main_source net s Ls tt, g), (reset b.init, tt)))
    where
      reset : (v : Bool) → EachLeaf (IsMain net s) (reset_branch net v).tree
      reset false = main_source net s Rs tt
      reset true = main_source net s Rsb tt
  main_branches (Next j) bs taps (b, e, z, y) = rw (z, y) (static (gate_tree s b.next) (main_gate net s deck.shape b.next ((deck.shape).nexts j b e)))
  main_branches (Sink i) bs taps (g, e, z, y) = rw (z, y) (static (gate_tree s g) (main_gate net s deck.shape g ((deck.shape).outputs_are i g e)))

  pub gates_are_main : (d : Device) → Contains devices d → IsMain net s d.gate
  gates_are_main d c = let w = deck.whole d c in tapped-gates (IsMain net s) (λ a. net (At w.0 a)) w.1 w.2 (main_branches w.0 w.1 w.2 w.3) d w.4

  -- a net that gates a device and is no source is the top of a part
  pub gate_is_part : (n : ℕ) → Gates devices n → is_source n ≡ false → (part : Part) × IsPart s part × (n ≡ net (At part Top))
  gate_is_part n g f = elim (gates_are_main g.0 g.1) [
    | inl a ↦ absurd (no (is_source n) (rw (sym g.2 ∙ a.2) (deck.sources a.0 a.1)) f)
    | inr p ↦ (p.0, p.1, sym g.2 ∙ p.2)
  ]
    where
      no : (b : Bool) → b ≡ true → b ≡ false → ⊥
      no b x y = cc
