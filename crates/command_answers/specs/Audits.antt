-- What `audit` says of a deck: whether its circuit is built of domino cells with keepers, or which rule is broken first and at which net.
use Rattle.std.specs.Prelude.{ℕ, ◌++◌, Bool, List, codes, false, true}
use Rattle.std.specs.Fmt.{decimal}
use Rattle.deck.specs.CircuitData.{CircuitData}
use Rattle.deck.specs.DeckFaults.{IsDeckFaultAt}
use Rattle.deck.specs.DeckText.{IsDeckOf}
use Rattle.deck.specs.Nets.{net_name}
use Rattle.deck.specs.Roles.{AreRoles, ports_of}
use Rattle.deck.specs.declared.role.Roles.{Roles}
use Rattle.deck_audit.specs.Audits.{Answer, IsAudit, No, Yes}
use Rattle.trace_tool.specs.Refusals.{HasBadPorts}
use Rattle.trace_tool.specs.declared.fault.TraceFault.{TraceFault}
use Rattle.trace_tool.specs.declared.fault.TraceFault.TheVariants as trace_fault

-- the line of a yes: the number of cells, and the greatest width and height of their trees
abbrev pub yes_line : (cells width height : ℕ) → List ℕ
yes_line cells width height =
    codes "yes cells " ++ decimal cells ++ codes " width " ++ decimal width ++ codes " height " ++ decimal height ++ codes "\n"

-- the line of a rule that is broken at a net of this name
abbrev pub no_line : ℕ → List ℕ → List ℕ
no_line rule name = codes "no rule " ++ decimal rule ++ codes " net " ++ name ++ codes "\n"

-- the line of an answer, for a circuit with these nets
abbrev pub audit_line : List (List ℕ) → Answer → List ℕ
audit_line nets (Yes order cells width height) = yes_line cells width height
audit_line nets (No rule net) = no_line rule (net_name nets net)

-- the answer is yes
abbrev pub is_yes : Answer → Bool
is_yes (Yes order cells width height) = true
is_yes (No rule net) = false

-- the text is a deck of this circuit, whose ports are in order, and this is the answer of its audit
pub record IsAuditOf (deck : List ℕ) (circuit : CircuitData) (answer : Answer) : Type 0 where
  pub is_deck : IsDeckOf deck circuit
  pub roles : Roles
  pub are_roles : AreRoles (ports_of circuit) roles
  pub is_audit : IsAudit circuit roles answer

-- a text isn't audited for this fault: it is no deck, or its ports leave their order; out of memory comes for any
abbrev pub IsUnaudited : (deck : List ℕ) → TraceFault → Type 0
IsUnaudited deck (trace_fault.Blif line kind) = ⊥
IsUnaudited deck (trace_fault.Flat fault) = ⊥
IsUnaudited deck (trace_fault.Deck line kind) = IsDeckFaultAt deck line kind
IsUnaudited deck (trace_fault.Ports place) = HasBadPorts deck place
IsUnaudited deck (trace_fault.NoNet name) = ⊥
IsUnaudited deck (trace_fault.Stim line kind) = ⊥
IsUnaudited deck trace_fault.Memory = Unit {0}
