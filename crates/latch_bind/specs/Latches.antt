-- Latches by the names of their nets: two clocked inverters and a reset device (Rabaey, Digital Integrated Circuits: clocked CMOS registers).
use Rattle.std.specs.Prelude.{ℕ, Bool, true, false, List, [], ◌∷◌, ◌++◌, codes}
use Rattle.std.specs.Fmt.{decimal}
use Rattle.dom_base.specs.declared.kind.Kind.TheVariants.{N as nch, P as pch}
use Rattle.deck.specs.CircuitData.{CircuitData}
use Rattle.deck.specs.NamedDevices.{NamedDevice}
use Rattle.domino_cell.specs.PushedNames.{IsNewNet}

abbrev pub data_net : ℕ → List ℕ
data_net j = codes "x" ++ decimal j

-- the device that resets the output of latch j to its start value
abbrev pub named_reset : ℕ → Bool → NamedDevice (List ℕ)
named_reset j false = record { kind = nch; drain = codes "q" ++ decimal j; gate = codes "rs"; source = codes "vss" }
named_reset j true = record { kind = pch; drain = codes "q" ++ decimal j; gate = codes "rsb"; source = codes "vdd" }

-- latch j with its start value: the master takes the data while `lm` is 1, and the output the master while `ls` is 1
abbrev pub named_latch : ℕ × Bool → List (NamedDevice (List ℕ))
named_latch (j, start) =
    record { kind = pch; drain = codes "m" ++ decimal j; gate = codes "lmb"; source = codes "m" ++ decimal j ++ codes "p" }
    ∷ record { kind = pch; drain = codes "m" ++ decimal j ++ codes "p"; gate = data_net j; source = codes "vdd" }
    ∷ record { kind = nch; drain = codes "m" ++ decimal j; gate = codes "lm"; source = codes "m" ++ decimal j ++ codes "n" }
    ∷ record { kind = nch; drain = codes "m" ++ decimal j ++ codes "n"; gate = data_net j; source = codes "vss" }
    ∷ record { kind = pch; drain = codes "q" ++ decimal j; gate = codes "lsb"; source = codes "q" ++ decimal j ++ codes "p" }
    ∷ record { kind = pch; drain = codes "q" ++ decimal j ++ codes "p"; gate = codes "m" ++ decimal j; source = codes "vdd" }
    ∷ record { kind = nch; drain = codes "q" ++ decimal j; gate = codes "ls"; source = codes "q" ++ decimal j ++ codes "n" }
    ∷ record { kind = nch; drain = codes "q" ++ decimal j ++ codes "n"; gate = codes "m" ++ decimal j; source = codes "vss" }
    ∷ named_reset j start
    ∷ []

-- the inner nets of latch j are new: its master, and the nets between the two devices in series of each branch
pub record HasRoomForLatch (c : CircuitData) (j : ℕ) : Type 0 where
  pub master : IsNewNet c (codes "m" ++ decimal j)
  pub master_upper : IsNewNet c (codes "m" ++ decimal j ++ codes "p")
  pub master_lower : IsNewNet c (codes "m" ++ decimal j ++ codes "n")
  pub output_upper : IsNewNet c (codes "q" ++ decimal j ++ codes "p")
  pub output_lower : IsNewNet c (codes "q" ++ decimal j ++ codes "n")
