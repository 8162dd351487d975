-- The names of the nets of a latch as the code holds them.
use Rattle.std.specs.Prelude.{◌≡◌, ℕ, Bool, true, false, List, [], ◌∷◌, ◌++◌, codes}
use Rattle.dom_base.specs.declared.kind.Kind.TheVariants.{N as nch, P as pch}
use Rattle.deck.specs.NamedDevices.{NamedDevice}
use Rattle.latch_bind.specs.declared.names.LatchPorts.{LatchPorts}
use Rattle.latch_bind.specs.declared.names.StageNames.{StageNames}
use Rattle.latch_bind.specs.declared.names.SupplyNames.{SupplyNames}

-- the two supplies
pub record AreSupplies (names : SupplyNames) : Type 0 where
  pub vdd : names.vdd ≡ codes "vdd"
  pub vss : names.vss ≡ codes "vss"

-- the ports of latches by their names
pub record AreLatchPorts (ports : LatchPorts) : Type 0 where
  pub supplies : AreSupplies ports.supplies
  pub master : ports.master ≡ codes "lm"
  pub master_opposite : ports.master_opposite ≡ codes "lmb"
  pub slave : ports.slave ≡ codes "ls"
  pub slave_opposite : ports.slave_opposite ≡ codes "lsb"
  pub reset : ports.reset ≡ codes "rs"
  pub reset_opposite : ports.reset_opposite ≡ codes "rsb"

-- the nets of a clocked inverter with this output
pub record AreNamesOfStage (out : List ℕ) (names : StageNames) : Type 0 where
  pub out_is : names.out ≡ out
  pub upper : names.upper ≡ out ++ codes "p"
  pub lower : names.lower ≡ out ++ codes "n"

-- a clocked inverter: while its clock is 1, and the opposite 0, it drives its output to the opposite of its input
abbrev pub held_inverter : SupplyNames → StageNames → List ℕ → List ℕ → List ℕ → List (NamedDevice (List ℕ))
held_inverter supplies stage clock opposite input =
    record { kind = pch; drain = stage.out; gate = opposite; source = stage.upper }
    ∷ record { kind = pch; drain = stage.upper; gate = input; source = supplies.vdd }
    ∷ record { kind = nch; drain = stage.out; gate = clock; source = stage.lower }
    ∷ record { kind = nch; drain = stage.lower; gate = input; source = supplies.vss }
    ∷ []

-- the device that resets a net to the start value
abbrev pub held_reset : LatchPorts → List ℕ → Bool → NamedDevice (List ℕ)
held_reset ports out false = record { kind = nch; drain = out; gate = ports.reset; source = ports.supplies.vss }
held_reset ports out true = record { kind = pch; drain = out; gate = ports.reset_opposite; source = ports.supplies.vdd }
