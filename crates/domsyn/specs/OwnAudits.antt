-- What `audit` says of a deck that `synth` wrote of a text in cells with keepers, with its devices in any order, over files that are known.
use Rattle.std.specs.Prelude.{ℕ, ◌≡◌, ◌≢◌, IfSome, List, Some, length}
use Rattle.command_words.specs.Commands.{Asks, Audit}
use Rattle.command_words.specs.SynthOptionWords.{SuitsMethod}
use Rattle.command_words.specs.declared.command.Method.{Method}
use Rattle.deck.specs.CircuitData.{CircuitData}
use Rattle.deck.specs.DeckText.{IsDeckOf}
use Rattle.deck.specs.Roles.{AreRoles, ports_of}
use Rattle.deck.specs.declared.role.Roles.{Roles}
use Rattle.deck_audit.specs.OwnDecks.{greatest_of}
use Rattle.deck_form.specs.NamedDecks.{IsNamedDeck}
use Rattle.deck_form.specs.declared.options.SynthOptions.{SynthOptions}
use Rattle.domino_cell.specs.declared.style.Style.TheVariants.{Keeper as WithKeeper}
use Rattle.planned_audit.specs.PlannedAudits.{IsReordered}
use Rattle.sp_network.specs.Tree.{height, width}
use Rattle.command_answers.specs.Audits.{yes_line}
use Rattle.command_answers.specs.RightDecks.{IsRightBy}
use Rattle.domsyn.specs.Outcomes.{Files, IsFile, IsOutcome, Printed}

-- A right deck of a text of BLIF by a method, of this circuit, in cells with keepers; and a file that is known, of a deck with the same
-- ports, which has its devices in some order, each once, as it is or with drain and source exchanged, with other inner nets.
pub record AreReorderedFiles (known : List (List ℕ × List ℕ)) (deck : List ℕ) (circuit : CircuitData) : Type 0 where
  pub blif : List ℕ
  pub text : List ℕ
  pub options : SynthOptions
  pub method : Method
  pub right : IsRightBy method blif options text
  pub suited : SuitsMethod method options
  pub keepers : options.style ≡ WithKeeper
  pub is_text : IsDeckOf text circuit
  pub roles : Roles
  pub are_roles : AreRoles (ports_of circuit) roles
  pub bytes : List ℕ
  pub is_file : IsFile (Some known) deck bytes
  pub other : CircuitData
  pub is_deck : IsDeckOf bytes other
  pub same_ports : ports_of other ≡ ports_of circuit
  pub order : List ℕ
  pub reordered : IsReordered roles circuit other order

-- the line says yes of the cells of a circuit: how many there are, and the greatest width and height of their trees
pub record IsYesOf (circuit : CircuitData) (line : List ℕ) : Type 0 where
  pub named : IsNamedDeck WithKeeper circuit
  pub line_is : line ≡ yes_line (length named.cells) (greatest_of (λ cell. width cell.tree) named.cells)
      (greatest_of (λ cell. height cell.tree) named.cells)

-- the outcome of `audit` of it is such a line, with the status that all is well
abbrev pub OwnDeckGetsYes : Type 0
OwnDeckGetsYes = (known : List (List ℕ × List ℕ)) (deck : List ℕ) (circuit : CircuitData) → AreReorderedFiles known deck circuit
    → (line : List ℕ) × IsYesOf circuit line × IsOutcome (Some known) (Audit deck) (Printed 0 line)

-- where the words ask for `audit` of such a file, the status is neither that of a refusal nor that of a no, and at 0 such a line is put out
abbrev pub SaysYes : Files → List (List ℕ) → ℕ → (List ℕ → Type 0) → Type 0
SaysYes files words status Puts =
    IfSome files (λ known. (deck : List ℕ) (circuit : CircuitData) → Asks words (Audit deck) → AreReorderedFiles known deck circuit
    → (status ≢ 1) × (status ≢ 6) × (status ≡ 0 → (line : List ℕ) × IsYesOf circuit line × Puts line))
