-- The first rule of an audit that is broken, and the smallest net at which it is.
use Rattle.std.specs.Prelude.{List, ℕ, ◌<◌}
use Rattle.deck.specs.declared.device.Device.{Device}
use Rattle.deck.specs.declared.role.Roles.{Roles}
use Rattle.deck_audit.specs.Audits.{Breaks}
use Rattle.audit_deck.specs.declared.rules.Broken.{Broken}

-- the rule is broken at the net, and at no smaller one
pub record IsSmallest (ds : List Device) (roles : Roles) (nets rule net : ℕ) : Type 0 where
  pub broken : Breaks ds roles nets rule net
  pub smallest : (m : ℕ) → m < net → Breaks ds roles nets rule m → ⊥

-- the rule is broken at no net
abbrev pub IsKept : List Device → Roles → ℕ → ℕ → Type 0
IsKept ds roles nets rule = (n : ℕ) → Breaks ds roles nets rule n → ⊥

-- the rule is the first that is broken, and the net the smallest
pub record IsFirst (ds : List Device) (roles : Roles) (nets : ℕ) (b : Broken) : Type 0 where
  pub smallest : IsSmallest ds roles nets b.rule b.net
  pub first : (r : ℕ) → r < b.rule → IsKept ds roles nets r
