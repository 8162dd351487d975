-- The names of ports, and the order of ports.
use Rattle.std.specs.Prelude.{ℕ, ◌≤◌, ◌≡◌, true, List, [], ◌∷◌, ◌++◌, nat_eq, take, codes, All}
use Rattle.std.specs.List.{starts_with}
use Rattle.deck.specs.Limits.{most_clocks}

-- the name of a pin begins with `i_`
abbrev pub IsPin : List ℕ → Type 0
IsPin name = starts_with nat_eq name (codes "i_") ≡ true

-- the name of an output begins with `o_`
abbrev pub IsOutput : List ℕ → Type 0
IsOutput name = starts_with nat_eq name (codes "o_") ≡ true

abbrev pub clock_ports : List (List ℕ)
clock_ports = codes "ck1" ∷ codes "ck2" ∷ codes "ck3" ∷ codes "ck4" ∷ []

abbrev pub latch_ports : List (List ℕ)
latch_ports = codes "lm" ∷ codes "lmb" ∷ codes "ls" ∷ codes "lsb" ∷ codes "rs" ∷ codes "rsb" ∷ []

-- the ports before the first pin: the supplies, so many clocks, the clocks and resets of latches
abbrev pub leading_ports : ℕ → List (List ℕ)
leading_ports clocks = codes "vdd" ∷ codes "vss" ∷ (take clocks clock_ports ++ latch_ports)

-- the ports in the order of roles, with 1 to 4 clocks
pub record HasRoles (ports : List (List ℕ)) (clocks : ℕ) (pins outs : List (List ℕ)) : Type 0 where
  pub some_clock : 1 ≤ clocks
  pub few_clocks : clocks ≤ most_clocks
  pub pins_are : All IsPin pins
  pub outs_are : All IsOutput outs
  pub order : ports ≡ leading_ports clocks ++ pins ++ outs

-- the ports in the order of roles, for some number of clocks, pins and outputs
pub record HasSomeRoles (ports : List (List ℕ)) : Type 0 where
  pub clocks : ℕ
  pub pins : List (List ℕ)
  pub outs : List (List ℕ)
  pub roles : HasRoles ports clocks pins outs
