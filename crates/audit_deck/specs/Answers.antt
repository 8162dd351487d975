-- The answer that is given of an audit, as one that the rules describe.
use Rattle.std.specs.Prelude.{List, length, ℕ, ◌≡◌}
use Rattle.deck.specs.CircuitData.{CircuitData}
use Rattle.deck.specs.declared.device.Device.{Device}
use Rattle.deck.specs.declared.role.Roles.{Roles}
use Rattle.deck_audit.specs.Audits.{Answer, IsAudit, No, Yes}
use Rattle.audit_deck.specs.declared.answer.Audit.{Audit}
use Rattle.audit_deck.specs.declared.answer.Audit.TheVariants as given

abbrev pub answer_of : Audit → Answer
answer_of (given.Yes order cells width height) = Yes order cells width height
answer_of (given.No rule net) = No rule net

-- it is the answer for each circuit with these devices between so many nets
abbrev pub IsAuditOf : List Device → ℕ → Roles → Answer → Type 0
IsAuditOf ds nets roles answer = (c : CircuitData) → c.devices ≡ ds → length c.nets ≡ nets → IsAudit c roles answer
