-- The cards of a cell by name are those of its nets.
use Rattle.std.specs.Prelude.{codes}
use Rattle.std.specs.Fmt.{decimal}
use Rattle.std.proofs.Common.{List, arith, length, sym, suc, ℕ, ◌+◌, ◌-◌, ◌≡◌, ◌≤◌, ◌++◌}
use Rattle.domino_cell.specs.Cell.{map_nets}
use Rattle.domino_cell.specs.Stage.{Inside}
use Rattle.domino_law.specs.Nets.{At, Dynamic, left_side}
use Rattle.domino_law.specs.Shape.{left_stage}
use Rattle.domino_law.specs.Spelled.{net_cell}
use Rattle.deck_form.specs.DeckNets.{CellPlan, named_cell}
use Rattle.deck_law.specs.NetNames.{cell_shape, deck_name}
use Rattle.deck_form.specs.DeckNets as named
use Rattle.domino_cell.specs.PushedNames.{numbered_cell}

next : (n : ℕ) → 1 + n ≡ suc n
next n = omega arith

module _ (pins outs : List (List ℕ)) where
  pub same_nets : (leaf_count k : ℕ) (c : CellPlan) → 1 ≤ c.clock → numbered_cell c.clock k ≡ map_nets (deck_name pins outs) (net_cell (left_side k) (left_stage (cell_shape (length pins) leaf_count c)))
  same_nets leaf_count k c some =
      let clock : c.clock ≡ 1 + (c.clock - 1) = less c.clock some in
      λ i. record {
        vdd = named.vdd;
        vss = named.vss;
        clock = named.clock_net (clock i);
        dynamic = named.dynamic_net k;
        output = named.output_net k;
        foot = codes "f" ++ decimal k;
        inner = λ j. deck_name pins outs (At (Dynamic (left_side k)) (Inside 0 (sym (next j) i)));
      }
    where
      less : (n : ℕ) → 1 ≤ n → n ≡ 1 + (n - 1)
      less n le = omega arith
