-- What is proved where `audit` puts out a yes: the deck that was read is a deck of domino cells with keepers in another order, and it is
-- right in every run as it stands.
use Rattle.std.specs.Prelude.{ℕ, ◌≡◌, List}
use Rattle.deck.specs.CircuitData.{CircuitData}
use Rattle.deck.specs.DeckText.{IsDeckOf}
use Rattle.deck.specs.Roles.{AreRoles, ports_of}
use Rattle.deck.specs.declared.role.Roles.{Roles}
use Rattle.deck_audit.specs.AuditedDeck.{IsExchangedDeck}
use Rattle.deck_audit.specs.Audits.{IsYes}
use Rattle.deck_audit.specs.OwnRunRight.{IsRightByOwnRun}
use Rattle.command_answers.specs.Audits.{yes_line}

-- The text is a deck, and this line says of it that its circuit is built of domino cells with keepers: in an order that names each device
-- once, with drains and sources exchanged and inner nets named at will, it is a domino deck of so many cells, each behind those that it
-- reads, whose trees have at most this width and height. In every run and every order of its events it is right by its own run, as it
-- stands.
pub record IsAuditedDeck (deck line : List ℕ) : Type 0 where
  pub circuit : CircuitData
  pub is_deck : IsDeckOf deck circuit
  pub roles : Roles
  pub are_roles : AreRoles (ports_of circuit) roles
  pub order : List ℕ
  pub cells : ℕ
  pub width : ℕ
  pub height : ℕ
  pub yes : IsYes circuit roles order cells width height
  pub exchanged : IsExchangedDeck circuit roles yes.net yes.shape
  pub right : IsRightByOwnRun circuit roles yes.net yes.shape
  pub line_is : line ≡ yes_line cells width height
