-- A deck with one compound cell, the Or of three pins: two stand in the left tree and one in the right, and the output port has the
-- static gate of the two dynamic nets.
use Rattle.std.specs.Prelude.{Some, [], false, replicate, suc, true, zero, ℕ, ◌∷◌, ◌≡◌}
use Rattle.dom_base.specs.declared.kind.Kind.TheVariants.{N as nch, P as pch}
use Rattle.dom_base.specs.declared.tri.Tri.TheVariants.{One, Unknown, Zero}
use Rattle.sp_network.specs.Tree.{Leaf, Parallel}
use Rattle.domino_cell.specs.Stage.{Inside, Top}
use Rattle.switch_model.specs.LinksData.{LinksData}
use Rattle.port_runs.specs.Environment.{Reset, World, none_fallen}
use Rattle.port_runs.specs.declared.clocking.Clocking.TheVariants.{Together}
use Rattle.domino_law.specs.Nets.{At, Clock, Complement, Dynamic, FromDynamic, FromPin, Left, Lm, Lmb, Ls, Lsb, Master, Net, Next, Output, Pin, Plus, Right, Rs, Rsb, Side, Sink, Slave, Vdd, Vss}
use Rattle.domino_law.specs.OwnRun.{outputs_of}
use Rattle.domino_law.specs.Runs.{IsPower}
use Rattle.domino_law.specs.Shape.{DominoCell, Shape}
use Rattle.domino_cell.specs.declared.style.Style.TheVariants.{Precharge as WithPrecharge}
use Rattle.domino_law.specs.Spelled.{IsSpelledDeck}

abbrev pub or_cell : DominoCell
or_cell = record {
  clock = 0;
  tree = Parallel (Leaf (Plus (FromPin 0))) (Leaf (Plus (FromPin 1)));
  right = Some (Leaf (Plus (FromPin 2)));
}

abbrev pub or_shape : Shape
or_shape = record {
  style = WithPrecharge;
  clocking = Together;
  pins = 3;
  clocks = 1;
  complements = [];
  cells = or_cell ∷ [];
  latches = [];
  outputs = FromDynamic 0 ∷ [];
}

-- its nets by number: the ports in the order of roles, then the others in order of first appearance
abbrev pub top_of : Side → ℕ
top_of Left = 13
top_of Right = 15

abbrev pub foot_of : Side → ℕ
foot_of Left = 14
foot_of Right = 16

abbrev pub or_net : Net → ℕ
or_net Vdd = 0
or_net Vss = 1
or_net (Clock i) = 2
or_net Lm = 3
or_net Lmb = 4
or_net Ls = 5
or_net Lsb = 6
or_net Rs = 7
or_net Rsb = 8
or_net (Pin zero) = 9
or_net (Pin (suc zero)) = 10
or_net (Pin (suc (suc p))) = 11
or_net (At (Sink i) Top) = 12
or_net (At (Dynamic k) Top) = top_of k.side
or_net (At (Dynamic k) (Inside i j)) = foot_of k.side
or_net (At (Output k) Top) = 17
or_net (At (Output k) (Inside i j)) = 18
or_net (At (Sink i) (Inside j k)) = 19
or_net (At (Complement l) spot) = 20
or_net (At (Master j) spot) = 20
or_net (At (Slave j) spot) = 20
or_net (At (Next j) spot) = 20

-- and its devices
abbrev pub or_links : LinksData
or_links = record {
  nets = 21;
  sources = 12;
  devices =
      record { kind = pch; drain = 13; gate = 2; source = 0 }
      ∷ record { kind = nch; drain = 13; gate = 9; source = 14 }
      ∷ record { kind = nch; drain = 13; gate = 10; source = 14 }
      ∷ record { kind = nch; drain = 14; gate = 2; source = 1 }
      ∷ record { kind = pch; drain = 15; gate = 2; source = 0 }
      ∷ record { kind = nch; drain = 15; gate = 11; source = 16 }
      ∷ record { kind = nch; drain = 16; gate = 2; source = 1 }
      ∷ record { kind = pch; drain = 17; gate = 13; source = 0 }
      ∷ record { kind = pch; drain = 17; gate = 15; source = 0 }
      ∷ record { kind = nch; drain = 17; gate = 13; source = 18 }
      ∷ record { kind = nch; drain = 18; gate = 15; source = 1 }
      ∷ record { kind = pch; drain = 12; gate = 13; source = 0 }
      ∷ record { kind = pch; drain = 12; gate = 15; source = 0 }
      ∷ record { kind = nch; drain = 12; gate = 13; source = 19 }
      ∷ record { kind = nch; drain = 19; gate = 15; source = 1 }
      ∷ [];
}

-- the deck meets what the laws ask of a deck, and its power state what they ask of one
abbrev pub or_power : World
or_power = record {
  place = Reset;
  risen = 0;
  fallen = none_fallen;
  past = [];
  pins = [];
  values = One ∷ Zero ∷ Zero ∷ Zero ∷ One ∷ Zero ∷ One ∷ One ∷ Zero ∷ Zero ∷ Zero ∷ Zero ∷ replicate 9 Unknown;
}

abbrev pub OrIsDeck : Type 0
OrIsDeck = IsSpelledDeck or_links or_net or_shape

abbrev pub OrHasPower : Type 0
OrHasPower = IsPower or_links or_net or_shape or_power

-- its own run reads the Or of the pins
abbrev pub OrRuns : Type 0
OrRuns =
    (outputs_of or_shape [] (false ∷ false ∷ false ∷ []) ≡ false ∷ [])
    × (outputs_of or_shape [] (true ∷ false ∷ false ∷ []) ≡ true ∷ [])
    × (outputs_of or_shape [] (false ∷ true ∷ false ∷ []) ≡ true ∷ [])
    × (outputs_of or_shape [] (false ∷ false ∷ true ∷ []) ≡ true ∷ [])
