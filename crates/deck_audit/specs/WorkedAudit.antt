-- The deck of one cell, the And of two pins, with its cards in reverse order and some drains and sources exchanged, gets a yes.
use Rattle.std.specs.Prelude.{[], codes, suc, zero, ℕ, ◌∷◌, None}
use Rattle.dom_base.specs.declared.kind.Kind.TheVariants.{Keep, N as nch, P as pch}
use Rattle.deck.specs.CircuitData.{CircuitData}
use Rattle.deck.specs.declared.role.Roles.{Roles}
use Rattle.sp_network.specs.Tree.{Leaf, Series}
use Rattle.domino_cell.specs.Stage.{Inside, Top}
use Rattle.domino_law.specs.Nets.{At, Clock, Complement, Dynamic, FromDynamic, FromPin, Lm, Lmb, Ls, Lsb, Master, Net, Next, Output, Pin, Plus, Rs, Rsb, Sink, Slave, Vdd, Vss}
use Rattle.domino_law.specs.Shape.{Shape}
use Rattle.domino_cell.specs.declared.style.Style.TheVariants.{Keeper as WithKeeper}
use Rattle.port_runs.specs.declared.clocking.Clocking.TheVariants.{Together}
use Rattle.deck_audit.specs.Audits.{IsYes}

abbrev pub and_roles : Roles
and_roles = record { clocks = 1; pins = 2; outs = 1 }

abbrev pub and_circuit : CircuitData
and_circuit = record {
  name = codes "and2";
  phases = [];
  ports = 12;
  nets =
      codes "vdd" ∷ codes "vss" ∷ codes "ck1" ∷ codes "lm" ∷ codes "lmb" ∷ codes "ls" ∷ codes "lsb" ∷ codes "rs" ∷ codes "rsb"
      ∷ codes "i_a" ∷ codes "i_b" ∷ codes "o_f" ∷ codes "y0" ∷ codes "y1" ∷ codes "y2" ∷ codes "y3" ∷ [];
  devices =
      record { kind = nch; drain = 11; gate = 12; source = 1 }
      ∷ record { kind = pch; drain = 0; gate = 12; source = 11 }
      ∷ record { kind = nch; drain = 1; gate = 12; source = 13 }
      ∷ record { kind = pch; drain = 13; gate = 12; source = 0 }
      ∷ record { kind = nch; drain = 14; gate = 2; source = 1 }
      ∷ record { kind = nch; drain = 15; gate = 10; source = 14 }
      ∷ record { kind = nch; drain = 15; gate = 9; source = 12 }
      ∷ record { kind = Keep; drain = 12; gate = 13; source = 0 }
      ∷ record { kind = pch; drain = 0; gate = 2; source = 12 }
      ∷ [];
}

abbrev pub and_shape : Shape
and_shape = record {
  style = WithKeeper;
  clocking = Together;
  pins = 2;
  clocks = 1;
  complements = [];
  cells = record { clock = 0; tree = Series (Leaf (Plus (FromPin 0))) (Leaf (Plus (FromPin 1))); right = None } ∷ [];
  latches = [];
  outputs = FromDynamic 0 ∷ [];
}

abbrev pub and_net : Net → ℕ
and_net Vdd = 0
and_net Vss = 1
and_net (Clock i) = 2
and_net Lm = 3
and_net Lmb = 4
and_net Ls = 5
and_net Lsb = 6
and_net Rs = 7
and_net Rsb = 8
and_net (Pin zero) = 9
and_net (Pin (suc p)) = 10
and_net (At (Sink i) spot) = 11
and_net (At (Dynamic k) Top) = 12
and_net (At (Output k) spot) = 13
and_net (At (Dynamic k) (Inside i zero)) = 14
and_net (At (Dynamic k) (Inside i (suc j))) = 15
and_net (At (Complement l) spot) = 16
and_net (At (Master j) spot) = 17
and_net (At (Slave j) spot) = 18
and_net (At (Next j) spot) = 19

abbrev pub WorkedDeckGetsYes : Type 0
WorkedDeckGetsYes = IsYes and_circuit and_roles (8 ∷ 7 ∷ 6 ∷ 5 ∷ 4 ∷ 3 ∷ 2 ∷ 1 ∷ 0 ∷ []) 1 1 2
