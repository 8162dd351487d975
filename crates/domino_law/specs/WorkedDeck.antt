-- A deck of the style with precharge, with one cell, two complements, one latch and one output: while its pin is 1 it changes
-- its state in each cycle.
use Rattle.std.specs.Prelude.{[], false, replicate, suc, true, zero, ℕ, ◌∷◌, ◌≡◌, None}
use Rattle.dom_base.specs.declared.kind.Kind.TheVariants.{N as nch, P as pch}
use Rattle.dom_base.specs.declared.tri.Tri.TheVariants.{One, Unknown, Zero}
use Rattle.sp_network.specs.Tree.{Leaf, Parallel, Series}
use Rattle.domino_cell.specs.Stage.{Inside, Top}
use Rattle.switch_model.specs.LinksData.{LinksData}
use Rattle.port_runs.specs.Environment.{Reset, World, none_fallen}
use Rattle.port_runs.specs.declared.clocking.Clocking.TheVariants.{Together}
use Rattle.domino_law.specs.Nets.{At, Clock, Complement, Dynamic, FromDynamic, FromLatch, FromPin, Lm, Lmb, Ls, Lsb, Master, Minus, Net, Next, Output, Pin, Plus, Rs, Rsb, Sink, Slave, Vdd, Vss}
use Rattle.domino_law.specs.OwnRun.{outputs_of, state_after}
use Rattle.domino_law.specs.Runs.{IsPower}
use Rattle.domino_law.specs.Shape.{DominoCell, Shape}
use Rattle.domino_cell.specs.declared.style.Style.TheVariants.{Precharge as WithPrecharge}
use Rattle.domino_law.specs.Spelled.{IsSpelledDeck}

-- the cell is the exclusive or of the pin and the state
abbrev pub toggle_cell : DominoCell
toggle_cell = record {
  clock = 0;
  tree = Parallel
      (Series (Leaf (Plus (FromPin 0))) (Leaf (Minus (FromLatch 0))))
      (Series (Leaf (Minus (FromPin 0))) (Leaf (Plus (FromLatch 0))));
  right = None;
}

abbrev pub toggle_shape : Shape
toggle_shape = record {
  style = WithPrecharge;
  clocking = Together;
  pins = 1;
  clocks = 1;
  complements = FromPin 0 ∷ FromLatch 0 ∷ [];
  cells = toggle_cell ∷ [];
  latches = record { init = false; next = FromDynamic 0 } ∷ [];
  outputs = Minus (FromLatch 0) ∷ [];
}

-- its nets by number: the ports in the order of roles, then the others, each with a number of its own
abbrev pub toggle_net : Net → ℕ
toggle_net Vdd = 0
toggle_net Vss = 1
toggle_net (Clock i) = 2
toggle_net Lm = 3
toggle_net Lmb = 4
toggle_net Ls = 5
toggle_net Lsb = 6
toggle_net Rs = 7
toggle_net Rsb = 8
toggle_net (Pin p) = 9
toggle_net (At (Sink i) spot) = 10
toggle_net (At (Dynamic k) Top) = 11
toggle_net (At (Output k) spot) = 12
toggle_net (At (Dynamic k) (Inside i zero)) = 15
toggle_net (At (Dynamic k) (Inside i (suc zero))) = 13
toggle_net (At (Dynamic k) (Inside i (suc (suc j)))) = 17
toggle_net (At (Complement (FromLatch j)) spot) = 14
toggle_net (At (Complement (FromPin p)) spot) = 16
toggle_net (At (Slave j) Top) = 18
toggle_net (At (Master j) Top) = 19
toggle_net (At (Master j) (Inside zero i)) = 20
toggle_net (At (Next j) spot) = 21
toggle_net (At (Master j) (Inside (suc k) i)) = 22
toggle_net (At (Slave j) (Inside zero i)) = 23
toggle_net (At (Slave j) (Inside (suc k) i)) = 24

-- and its devices
abbrev pub toggle_links : LinksData
toggle_links = record {
  nets = 25;
  sources = 10;
  devices =
      record { kind = pch; drain = 11; gate = 2; source = 0 }
      ∷ record { kind = pch; drain = 13; gate = 2; source = 0 }
      ∷ record { kind = pch; drain = 17; gate = 2; source = 0 }
      ∷ record { kind = nch; drain = 11; gate = 9; source = 13 }
      ∷ record { kind = nch; drain = 13; gate = 14; source = 15 }
      ∷ record { kind = nch; drain = 11; gate = 16; source = 17 }
      ∷ record { kind = nch; drain = 17; gate = 18; source = 15 }
      ∷ record { kind = nch; drain = 15; gate = 2; source = 1 }
      ∷ record { kind = pch; drain = 12; gate = 11; source = 0 }
      ∷ record { kind = nch; drain = 12; gate = 11; source = 1 }
      ∷ record { kind = pch; drain = 16; gate = 9; source = 0 }
      ∷ record { kind = nch; drain = 16; gate = 9; source = 1 }
      ∷ record { kind = pch; drain = 14; gate = 18; source = 0 }
      ∷ record { kind = nch; drain = 14; gate = 18; source = 1 }
      ∷ record { kind = pch; drain = 19; gate = 4; source = 20 }
      ∷ record { kind = pch; drain = 20; gate = 21; source = 0 }
      ∷ record { kind = nch; drain = 19; gate = 3; source = 22 }
      ∷ record { kind = nch; drain = 22; gate = 21; source = 1 }
      ∷ record { kind = pch; drain = 18; gate = 6; source = 23 }
      ∷ record { kind = pch; drain = 23; gate = 19; source = 0 }
      ∷ record { kind = nch; drain = 18; gate = 5; source = 24 }
      ∷ record { kind = nch; drain = 24; gate = 19; source = 1 }
      ∷ record { kind = nch; drain = 18; gate = 7; source = 1 }
      ∷ record { kind = pch; drain = 10; gate = 14; source = 0 }
      ∷ record { kind = nch; drain = 10; gate = 14; source = 1 }
      ∷ record { kind = pch; drain = 21; gate = 11; source = 0 }
      ∷ record { kind = nch; drain = 21; gate = 11; source = 1 }
      ∷ [];
}

-- the deck meets what the laws ask of a deck, and its power state what they ask of one
abbrev pub toggle_power : World
toggle_power = record {
  place = Reset;
  risen = 0;
  fallen = none_fallen;
  past = [];
  pins = [];
  values = One ∷ Zero ∷ Zero ∷ Zero ∷ One ∷ Zero ∷ One ∷ One ∷ Zero ∷ Zero ∷ replicate 15 Unknown;
}

abbrev pub ToggleIsDeck : Type 0
ToggleIsDeck = IsSpelledDeck toggle_links toggle_net toggle_shape

abbrev pub ToggleHasPower : Type 0
ToggleHasPower = IsPower toggle_links toggle_net toggle_shape toggle_power

-- with its pin at 1 its own run reads 0, 1, 0; with its pin at 0 it keeps its state
abbrev pub ToggleRuns : Type 0
ToggleRuns =
    (outputs_of toggle_shape (state_after toggle_shape []) (true ∷ []) ≡ false ∷ [])
    × (outputs_of toggle_shape (state_after toggle_shape ((true ∷ []) ∷ [])) (true ∷ []) ≡ true ∷ [])
    × (outputs_of toggle_shape (state_after toggle_shape ((true ∷ []) ∷ (true ∷ []) ∷ [])) (false ∷ []) ≡ false ∷ [])
    × (state_after toggle_shape ((true ∷ []) ∷ (false ∷ []) ∷ []) ≡ true ∷ [])
