-- Circuits to which the parts of a latch are appended.
use Rattle.std.proofs.Common.{◌≡◌, ℕ, Bool, true, false, List, [], ◌∷◌, ◌++◌, sym, subst, ap, ◌∙◌}
use Rattle.std.specs.Prelude.{codes}
use Rattle.std.specs.Fmt.{decimal}
use Rattle.dom_base.specs.declared.kind.Kind.TheVariants.{N as nch, P as pch}
use Rattle.deck.specs.CircuitData.{CircuitData}
use Rattle.deck.specs.CircuitGrowth.{Grew}
use Rattle.deck.specs.NamedDevices.{NamedDevice, with_devices}
use Rattle.deck.proofs.CircuitGrowth.{Grew-trans, with_devices-append, with_devices-grew}
use Rattle.latch_bind.specs.HeldNames.{AreLatchPorts, AreNamesOfStage, held_inverter, held_reset}
use Rattle.latch_bind.specs.Latches.{data_net, named_latch}
use Rattle.latch_bind.specs.declared.names.LatchPorts.{LatchPorts}
use Rattle.latch_bind.specs.declared.names.StageNames.{StageNames}

-- devices appended in two parts
pub two_parts : (old between new : CircuitData) (xs ys : List (NamedDevice (List ℕ)))
    → between ≡ with_devices old xs → new ≡ with_devices between ys → new ≡ with_devices old (xs ++ ys)
two_parts old between new xs ys one two = two ∙ ap (λ c. with_devices c ys) one ∙ sym (with_devices-append old xs ys)

-- a circuit that grew and then got more devices
pub Grew-with : (old between new : CircuitData) (ds : List (NamedDevice (List ℕ))) → Grew old between → new ≡ with_devices between ds → Grew old new
Grew-with old between new ds grew more = Grew-trans old between new grew (subst (Grew between) (sym more) (with_devices-grew between ds))

-- the devices by the names that are held are those of the latch
pub held_latch : (ports : LatchPorts) (master slave : StageNames) (input : List ℕ) (j : ℕ) (start : Bool)
    → AreLatchPorts ports → AreNamesOfStage (codes "m" ++ decimal j) master → AreNamesOfStage (codes "q" ++ decimal j) slave → input ≡ data_net j
    → held_inverter ports.supplies master ports.master ports.master_opposite input
    ++ held_inverter ports.supplies slave ports.slave ports.slave_opposite master.out ++ held_reset ports slave.out start ∷ [] ≡ named_latch (j, start)
held_latch ports master slave input j false p m q x = λ i.
    record { kind = pch; drain = m.out_is i; gate = p.master_opposite i; source = m.upper i }
    ∷ record { kind = pch; drain = m.upper i; gate = x i; source = p.supplies.vdd i }
    ∷ record { kind = nch; drain = m.out_is i; gate = p.master i; source = m.lower i }
    ∷ record { kind = nch; drain = m.lower i; gate = x i; source = p.supplies.vss i }
    ∷ record { kind = pch; drain = q.out_is i; gate = p.slave_opposite i; source = q.upper i }
    ∷ record { kind = pch; drain = q.upper i; gate = m.out_is i; source = p.supplies.vdd i }
    ∷ record { kind = nch; drain = q.out_is i; gate = p.slave i; source = q.lower i }
    ∷ record { kind = nch; drain = q.lower i; gate = m.out_is i; source = p.supplies.vss i }
    ∷ record { kind = nch; drain = q.out_is i; gate = p.reset i; source = p.supplies.vss i }
    ∷ []
held_latch ports master slave input j true p m q x = λ i.
    record { kind = pch; drain = m.out_is i; gate = p.master_opposite i; source = m.upper i }
    ∷ record { kind = pch; drain = m.upper i; gate = x i; source = p.supplies.vdd i }
    ∷ record { kind = nch; drain = m.out_is i; gate = p.master i; source = m.lower i }
    ∷ record { kind = nch; drain = m.lower i; gate = x i; source = p.supplies.vss i }
    ∷ record { kind = pch; drain = q.out_is i; gate = p.slave_opposite i; source = q.upper i }
    ∷ record { kind = pch; drain = q.upper i; gate = m.out_is i; source = p.supplies.vdd i }
    ∷ record { kind = nch; drain = q.out_is i; gate = p.slave i; source = q.lower i }
    ∷ record { kind = nch; drain = q.lower i; gate = m.out_is i; source = p.supplies.vss i }
    ∷ record { kind = pch; drain = q.out_is i; gate = p.reset_opposite i; source = p.supplies.vdd i }
    ∷ []
