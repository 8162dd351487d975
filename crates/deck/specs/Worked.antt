-- The cell of an And of two inputs, as it was worked by hand: a domino stage with keeper and foot, as in Rabaey, Digital
-- Integrated Circuits.
use Rattle.std.specs.Prelude.{List, [], ◌∷◌}
use Rattle.dom_base.specs.declared.kind.Kind.TheVariants.{N as nch, P as pch, Keep}
use Rattle.deck.specs.declared.device.Device.{Device}

-- The devices of the circuit of an And of two inputs. The nets are vdd, vss, ck1, lm, lmb, ls, lsb, rs, rsb, i_a, i_b,
-- o_f, d0, z0, t0_0 and f0, numbered from 0.
abbrev pub and_devices : List Device
and_devices =
    record { kind = pch; drain = 12; gate = 2; source = 0 }
    ∷ record { kind = Keep; drain = 12; gate = 13; source = 0 }
    ∷ record { kind = nch; drain = 12; gate = 9; source = 14 }
    ∷ record { kind = nch; drain = 14; gate = 10; source = 15 }
    ∷ record { kind = nch; drain = 15; gate = 2; source = 1 }
    ∷ record { kind = pch; drain = 13; gate = 12; source = 0 }
    ∷ record { kind = nch; drain = 13; gate = 12; source = 1 }
    ∷ record { kind = pch; drain = 11; gate = 12; source = 0 }
    ∷ record { kind = nch; drain = 11; gate = 12; source = 1 }
    ∷ []
