-- What is proved of the text of a deck that is made of a text of Berkeley Logic Interchange Format, by any method, with options.
-- `IsRightDeck` says it by the ports of the deck alone (`deck_law/specs/Headline`): for every input stream and every order of net events.
-- Of a deck with chains of buffers `IsRightOverlappingDeck` says it where early clocks may fall while later ones still evaluate (Harris and
-- Horowitz, Skew-tolerant domino circuits; `skew_law/specs/BufferedDecks`), and of a deck with compound cells (Rabaey, Digital Integrated
-- Circuits: compound domino) `IsRightCompoundDeck`, that it joins the supplies never and has the least cost of all plans
-- (`compound_law/specs/Laws`).
use Rattle.std.specs.Prelude.{ℕ, List}
use Rattle.command_words.specs.declared.command.Method.{Method}
use Rattle.command_words.specs.declared.command.Method.TheVariants.{Compound, Skew}
use Rattle.compound_law.specs.CompoundDecks.{IsChosenDeck}
use Rattle.compound_law.specs.Laws.{IsLeastDeck}
use Rattle.compound_law.specs.Laws as compound_law
use Rattle.deck_law.specs.Headline.{IsRightDeck}
use Rattle.deck_form.specs.AskedOptions.{deck_options}
use Rattle.deck_form.specs.declared.options.SynthOptions.{SynthOptions}
use Rattle.skew_law.specs.BufferedDecks.{IsRightOverlappingDeck}

-- the text is a right deck of the bytes with simple and compound cells, with options: that of the chosen signs and the chosen plan, whose
-- cost is least of all plans with compound roots, and whose cells have so many devices
pub record IsRightCompoundDeck (bytes : List ℕ) (options : SynthOptions) (text : List ℕ) : Type 0 where
  pub right : compound_law.IsRightDeck bytes options.bounds.w options.bounds.h options.phases text
  pub is_chosen : IsChosenDeck right.network options.bounds.w options.bounds.h options.phases right.circuit
  pub least : IsLeastDeck is_chosen

-- the text, in either version, is a right deck of the bytes, with options; for clocks that overlap it is one whose clocks may, and with
-- compound cells one of least cost
abbrev pub IsRightBy : Method → (bytes : List ℕ) → SynthOptions → (text : List ℕ) → Type 0
IsRightBy Skew bytes options text = IsRightOverlappingDeck bytes options text
IsRightBy Compound bytes options text = IsRightCompoundDeck bytes options text
IsRightBy method bytes options text = IsRightDeck bytes (deck_options options) text
