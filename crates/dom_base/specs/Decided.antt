-- Facts that are decided, in the sense of constructive logic.
use Rattle.std.specs.Prelude.{◌⊎◌}

-- either a fact or its contrary
abbrev pub Decided : Type 0 → Type 0
Decided P = P ⊎ (P → ⊥)
