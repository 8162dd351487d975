-- The cards of the master and of the slave of a latch are those of its group, where the source nets have their port numbers.
use Rattle.std.proofs.Common.{Bool, List, [], arith, false, true, ℕ, ◌++◌, ◌+◌, ◌∷◌, ◌≡◌}
use Rattle.dom_base.specs.declared.kind.Kind.TheVariants.{N as nch, P as pch}
use Rattle.deck.specs.PortLayout.{master_pair, reset_pair, slave_pair}
use Rattle.deck.specs.declared.device.Device.{Device}
use Rattle.deck.specs.declared.role.Roles.{Roles}
use Rattle.port_runs.specs.Periods.{vdd_port, vss_port}
use Rattle.domino_law.specs.Branches.{master, slave}
use Rattle.domino_law.specs.LooseDeck.{IsSourceNet}
use Rattle.domino_law.specs.Nets.{Lm, Lmb, Ls, Lsb, Master, Net, Rs, Rsb, Slave, Vdd, Vss}
use Rattle.domino_law.specs.Settings.{port_number}
use Rattle.domino_law.specs.Shape.{Latch, Shape}
use Rattle.deck_audit.specs.Numbered.{group_of}
use Rattle.deck_audit.specs.Reading.{part_cards}
use Rattle.deck_audit.specs.Words.{Group, group_cards}

-- the cards of the master and of the slave
abbrev pub master_list : (Net → ℕ) → ℕ → List Device
master_list net j = part_cards net (Master j) (master net j) []

abbrev pub slave_list : (Net → ℕ) → ℕ → Latch → List Device
slave_list net j b = part_cards net (Slave j) (slave net j b) []

module _ (roles : Roles) (net : Net → ℕ) (s : Shape) (numbers : (a : Net) → IsSourceNet s a → net a ≡ port_number roles a) (j : ℕ) (b : Latch) where
  vdd : net Vdd ≡ vdd_port
  vdd = numbers Vdd tt

  vss : net Vss ≡ vss_port
  vss = numbers Vss tt

  lm : net Lm ≡ master_pair roles
  lm = numbers Lm tt

  lmb : net Lmb ≡ master_pair roles + 1
  lmb = omega (arith, numbers Lmb tt)

  ls : net Ls ≡ slave_pair roles
  ls = numbers Ls tt

  lsb : net Lsb ≡ slave_pair roles + 1
  lsb = omega (arith, numbers Lsb tt)

  rs : net Rs ≡ reset_pair roles
  rs = numbers Rs tt

  rsb : net Rsb ≡ reset_pair roles + 1
  rsb = omega (arith, numbers Rsb tt)

  abbrev g : Group
  g = group_of net j b

  pub group_same : master_list net j ++ slave_list net j b ≡ group_cards roles (group_of net j b)
  group_same = by b.init
    where
      by : (v : Bool) → master_list net j ++ slave_list net j (record { init = v; next = b.next }) ≡ group_cards roles (group_of net j (record { init = v; next = b.next }))
      by false = λ i.
          record { kind = pch; drain = g.master; gate = lmb i; source = g.master_up }
          ∷ record { kind = pch; drain = g.master_up; gate = g.data_net; source = vdd i }
          ∷ record { kind = nch; drain = g.master; gate = lm i; source = g.master_down }
          ∷ record { kind = nch; drain = g.master_down; gate = g.data_net; source = vss i }
          ∷ record { kind = pch; drain = g.output; gate = lsb i; source = g.output_up }
          ∷ record { kind = pch; drain = g.output_up; gate = g.master; source = vdd i }
          ∷ record { kind = nch; drain = g.output; gate = ls i; source = g.output_down }
          ∷ record { kind = nch; drain = g.output_down; gate = g.master; source = vss i }
          ∷ record { kind = nch; drain = g.output; gate = rs i; source = vss i }
          ∷ []
      by true = λ i.
          record { kind = pch; drain = g.master; gate = lmb i; source = g.master_up }
          ∷ record { kind = pch; drain = g.master_up; gate = g.data_net; source = vdd i }
          ∷ record { kind = nch; drain = g.master; gate = lm i; source = g.master_down }
          ∷ record { kind = nch; drain = g.master_down; gate = g.data_net; source = vss i }
          ∷ record { kind = pch; drain = g.output; gate = lsb i; source = g.output_up }
          ∷ record { kind = pch; drain = g.output_up; gate = g.master; source = vdd i }
          ∷ record { kind = nch; drain = g.output; gate = ls i; source = g.output_down }
          ∷ record { kind = nch; drain = g.output_down; gate = g.master; source = vss i }
          ∷ record { kind = pch; drain = g.output; gate = rsb i; source = vdd i }
          ∷ []
