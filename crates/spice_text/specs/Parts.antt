-- Parts of the text of a circuit, and ports in groups.
use Rattle.std.specs.Prelude.{ℕ, ◌≡◌, List, [], ◌∷◌, ◌++◌, codes}
use Rattle.std.specs.List.{flat_map}
use Rattle.deck.specs.Ports.{leading_ports, HasRoles}
use Rattle.spice_text.specs.Text.{deck_line, plus_lines}

-- the part of the text on ports: the line of `.subckt` with these ports, and these groups of
-- ports on lines that begin with `+`
abbrev pub subckt_with : List ℕ → List (List ℕ) → List (List (List ℕ)) → List ℕ
subckt_with name leading groups = deck_line (codes ".subckt") (name ∷ leading) ++ flat_map plus_lines groups

-- the part of the text on ports, after what stands before it
pub record IsSubckt (before name : List ℕ) (ports : List (List ℕ)) (text : List ℕ) : Type 0 where
  pub with_roles : (clocks : ℕ) (pins outs : List (List ℕ)) → HasRoles ports clocks pins outs
      → text ≡ before ++ subckt_with name (leading_ports clocks) (pins ∷ outs ∷ [])
  pub without_roles : ((clocks : ℕ) (pins outs : List (List ℕ)) → HasRoles ports clocks pins outs → ⊥)
      → text ≡ before ++ subckt_with name [] (ports ∷ [])

-- ports in the order of roles, cut before the first pin and before the first output
pub record ArePortGroups (ports leading pins outs : List (List ℕ)) : Type 0 where
  pub clocks : ℕ
  pub leading_are : leading ≡ leading_ports clocks
  pub roles : HasRoles ports clocks pins outs
