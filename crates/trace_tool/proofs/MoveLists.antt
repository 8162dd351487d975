-- The moves of power and of a cycle, put together from those of their parts.
use Rattle.std.proofs.Common.{◌≡◌, ℕ, zero, suc, ◌≤◌, Bool, false, List, [], ◌∷◌, ◌++◌, map, replicate, take, refl, arith, ap, ◌∙◌}
use Rattle.dom_base.specs.declared.tri.Tri.TheVariants.{Zero}
use Rattle.deck.specs.PortLayout.{first_clock, first_pin, master_pair, reset_pair, slave_pair}
use Rattle.deck.specs.declared.role.Roles.{Roles}
use Rattle.trace_tool.specs.RunData.{raised}
use Rattle.port_runs.specs.Environment.{bit}
use Rattle.port_runs.specs.declared.clocking.Clocking.{Clocking}
use Rattle.port_runs.specs.declared.clocking.Clocking.TheVariants.{Overlapping, Together}
use Rattle.port_runs.specs.Moves.{set_from}
use Rattle.trace_tool.specs.Moves.{close_pair, evaluation_by, latching_moves, open_pair, power_moves, set_bits}
use Rattle.trace_tool.proofs.RaisedClocks.{raised-overlapping, raised-together}

-- so many of four bits that are off
pub some_of_four : (n : ℕ) → n ≤ 4 → map bit (take n (false ∷ false ∷ false ∷ false ∷ [])) ≡ replicate n Zero
some_of_four zero le = refl
some_of_four (suc zero) le = refl
some_of_four (suc (suc zero)) le = refl
some_of_four (suc (suc (suc zero))) le = refl
some_of_four (suc (suc (suc (suc zero)))) le = refl
some_of_four (suc (suc (suc (suc (suc n))))) le = absurd (omega (arith, le))

pub latching_are : (roles : Roles) (m f s : ℕ) (bits : List Bool) → m ≡ master_pair roles → f ≡ first_clock → s ≡ slave_pair roles
    → map bit bits ≡ replicate roles.clocks Zero
    → ((open_pair m ∷ close_pair m ∷ []) ++ (set_bits f bits ∷ [])) ++ (open_pair s ∷ close_pair s ∷ []) ≡ latching_moves roles
latching_are roles m f s bits p c q z =
    λ i. open_pair (p i) ∷ close_pair (p i) ∷ set_from (c i) (z i) ∷ open_pair (q i) ∷ close_pair (q i) ∷ []

pub evaluation_are : (clocking : Clocking) (roles : Roles) (port : ℕ) (pins : List Bool) → 1 ≤ roles.clocks → port ≡ first_pin roles
    → (set_bits port pins ∷ []) ++ raised clocking 0 roles.clocks ≡ evaluation_by clocking roles pins
evaluation_are Together roles port pins some p =
    (λ i. set_bits (p i) pins ∷ raised Together 0 roles.clocks)
    ∙ ap (λ l. set_bits (first_pin roles) pins ∷ l) (raised-together 0 roles.clocks)
evaluation_are Overlapping roles port pins some p =
    (λ i. set_bits (p i) pins ∷ raised Overlapping 0 roles.clocks)
    ∙ ap (λ l. set_bits (first_pin roles) pins ∷ l) (raised-overlapping roles.clocks some)

pub power_are : (roles : Roles) (port : ℕ) → port ≡ reset_pair roles → ([] ∷ []) ++ (close_pair port ∷ []) ≡ power_moves roles
power_are roles port p = λ i. [] ∷ close_pair (p i) ∷ []
