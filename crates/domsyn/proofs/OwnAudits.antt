-- The outcome of `audit` of a right deck of a text with keepers, with its devices in any order, and what `top` answers to it.
use Rattle.std.specs.Prelude.{None, Some}
use Rattle.std.proofs.Common.{◌≡◌, ◌≢◌, ◌⊎◌, ◌∙◌, ℕ, List, [], ap, arith, inl, inr, length, refl, subst, sym}
use Rattle.blif_read.proofs.AcceptedIsGoodModels.{accepted_file}
use Rattle.command_words.specs.Commands.{Asks, Audit, Command}
use Rattle.command_words.specs.SynthOptionWords.{SuitsMethod}
use Rattle.command_words.specs.declared.command.Method.{Method}
use Rattle.command_words.specs.declared.command.Method.TheVariants.{Compound, Exact, Plain, Skew}
use Rattle.command_words.proofs.AskedOnce.{asks_one}
use Rattle.deck.specs.CircuitData.{CircuitData}
use Rattle.deck.specs.DeckText.{IsDeckOf}
use Rattle.deck.specs.Roles.{AreRoles, ports_of}
use Rattle.deck.specs.declared.role.Roles.{Roles}
use Rattle.deck.proofs.DeckCircuits.{IsDeckOf-circuit}
use Rattle.deck.proofs.PortLayout.{AreRoles-same}
use Rattle.deck_audit.specs.Audits.{Yes}
use Rattle.deck_audit.specs.OwnDecks.{greatest_of}
use Rattle.deck_form.specs.AskedOptions.{deck_options}
use Rattle.deck_form.specs.DeckNets.{CellPlan}
use Rattle.deck_form.specs.NamedDecks.{IsNamedDeck}
use Rattle.deck_form.specs.declared.options.SynthOptions.{SynthOptions}
use Rattle.deck_form.proofs.DeckForms.{domino_decks_are_loose}
use Rattle.deck_law.specs.Headline.{IsRightDeck}
use Rattle.deck_law.specs.Laws.{roles_of_deck}
use Rattle.domino_cell.specs.declared.style.Style.{Style}
use Rattle.domino_cell.specs.declared.style.Style.TheVariants.{Keeper as WithKeeper, Precharge as WithPrecharge}
use Rattle.net_flatten.proofs.Kept.{network_kept}
use Rattle.planned_audit.specs.PlannedAudits.{IsReordered}
use Rattle.planned_audit.proofs.PlannedAudits.{named_decks_get_yes}
use Rattle.skew_law.proofs.BufferedCircuits.{has_shape}
use Rattle.sp_network.specs.Tree.{height, width}
use Rattle.command_answers.specs.Audits.{yes_line}
use Rattle.command_answers.specs.RightDecks.{IsRightBy}
use Rattle.domsyn.specs.Outcomes.{Files, IsOutcome, Outcome, Printed, Refused, status_of}
use Rattle.domsyn.specs.OwnAudits.{AreReorderedFiles, IsYesOf, OwnDeckGetsYes, SaysYes}
use Rattle.domsyn.specs.Top.{HasOutcome}
use Rattle.domsyn.specs.declared.refusal.Refusal.{Refusal}
use Rattle.domsyn.proofs.OneOutcome.{one_outcome}
use Rattle.command_answers.proofs.OwnVerdicts.{roles_are}
use Rattle.domsyn.proofs.ReportedFailures.{FailureReported, refusal, unread, memory}

-- the circuit of a right deck in cells with keepers is a loose deck by names
right_named : (blif text : List ℕ) (options : SynthOptions) (circuit : CircuitData) → options.style ≡ WithKeeper → IsDeckOf text circuit
    → IsRightDeck blif (deck_options options) text → IsNamedDeck WithKeeper circuit
right_named blif text options circuit keepers is right =
    subst (IsNamedDeck WithKeeper) (sym (right.no_other circuit is))
    (subst (λ (style : Style). IsNamedDeck style right.circuit) keepers (domino_decks_are_loose right.network (deck_options options) right.circuit right.is_deck))

named_by : (blif text : List ℕ) (options : SynthOptions) (method : Method) (circuit : CircuitData) → SuitsMethod method options → options.style ≡ WithKeeper
    → IsDeckOf text circuit → IsRightBy method blif options text → IsNamedDeck WithKeeper circuit
named_by blif text options (Plain version) circuit suited keepers is right = right_named blif text options circuit keepers is right
named_by blif text options Exact circuit suited keepers is right = right_named blif text options circuit keepers is right
named_by blif text options Skew circuit suited keepers is right =
    let kept = network_kept right.file right.network (accepted_file blif right.file right.is_file) right.is_network in
    subst (IsNamedDeck WithKeeper) (sym (right.no_other circuit is))
    (has_shape right.network options right.circuit kept (right.form).some_clock (right.form).few_clocks right.is_deck).named
named_by blif text options Compound circuit suited keepers is right = let apart : WithKeeper ≡ WithPrecharge = sym keepers ∙ suited in absurd cc

module _ (known : List (List ℕ × List ℕ)) (deck : List ℕ) (circuit : CircuitData) (r : AreReorderedFiles known deck circuit) where
  named : IsNamedDeck WithKeeper circuit
  named = named_by r.blif r.text r.options r.method circuit r.suited r.keepers r.is_text r.right

  roles_same : r.roles ≡ roles_of_deck WithKeeper circuit named
  roles_same = AreRoles-same (ports_of circuit) r.roles (roles_of_deck WithKeeper circuit named) r.are_roles (roles_are WithKeeper circuit named)

  abbrev wide : ℕ
  wide = greatest_of (λ (cell : CellPlan). width cell.tree) named.cells

  abbrev high : ℕ
  high = greatest_of (λ (cell : CellPlan). height cell.tree) named.cells

  yes : (line : List ℕ) × IsYesOf circuit line × IsOutcome (Some known) (Audit deck) (Printed 0 line)
  yes =
      let made = named_decks_get_yes circuit named (IsDeckOf-circuit r.text circuit r.is_text) r.other r.order
      (subst (λ (roles : Roles). IsReordered roles circuit r.other r.order) roles_same r.reordered) in (
        yes_line (length named.cells) wide high,
        record { named = named; line_is = refl },
        record {
          bytes = r.bytes;
          is_file = r.is_file;
          circuit = r.other;
          answer = Yes r.order (length named.cells) wide high;
          is_audit = record {
            is_deck = r.is_deck;
            roles = roles_of_deck WithKeeper circuit named;
            are_roles = subst (λ (ports : List (List ℕ)). AreRoles ports (roles_of_deck WithKeeper circuit named)) (sym r.same_ports) (roles_are WithKeeper circuit named);
            is_audit = made;
          };
          text_is = refl;
          status_is = refl;
        },
      )

-- the text that is put out
abbrev put_out : Outcome → List ℕ
put_out (Printed status text) = text
put_out (Refused file why) = []

pub own_deck_gets_yes : OwnDeckGetsYes
own_deck_gets_yes known deck circuit r = yes known deck circuit r

module _ (known : List (List ℕ × List ℕ)) (words : List (List ℕ)) (deck : List ℕ) (circuit : CircuitData) (asks : Asks words (Audit deck))
    (own : AreReorderedFiles known deck circuit) where
  abbrev wanted : Outcome
  wanted = Printed 0 (own_deck_gets_yes known deck circuit own).0

  one : (outcome : Outcome) → HasOutcome (Some known) words outcome → wanted ≡ outcome
  one outcome has =
      let same = asks_one words has.command (Audit deck) has.asks asks in
      one_outcome known (Audit deck) wanted outcome (own_deck_gets_yes known deck circuit own).2 (subst (λ (c : Command). IsOutcome (Some known) c outcome) same has.outcome_is)

  never_refused : (name : List ℕ) (why : Refusal) → HasOutcome (Some known) words (Refused name why) → ⊥
  never_refused name why has = let same = one (Refused name why) has in cc

  status_is : (status : ℕ) (text : List ℕ) → HasOutcome (Some known) words (Printed status text) → 0 ≡ status
  status_is status text has = subst (λ (o : Outcome). 0 ≡ status_of o) (one (Printed status text) has) refl

  says : (status : ℕ) (text : List ℕ) → HasOutcome (Some known) words (Printed status text) → IsYesOf circuit text
  says status text has = subst (IsYesOf circuit) (ap put_out (one (Printed status text) has)) (own_deck_gets_yes known deck circuit own).1

-- a status of no outcome says nothing
unsaid : (files : Files) (words : List (List ℕ)) (result : ℕ) (Puts : List ℕ → Type 0) → result ≢ 0 → result ≢ 1 → result ≢ 6
    → SaysYes files words result Puts
unsaid None words result Puts zero one six = tt
unsaid (Some known) words result Puts zero one six = λ deck circuit asks own. (one, six, (λ none. absurd (zero none)))

-- a text was put out, or a part of it
pub finished_yes : (files : Files) (words : List (List ℕ)) (status : ℕ) (text : List ℕ) → HasOutcome files words (Printed status text) → (result : ℕ) (Puts : List ℕ → Type 0)
    → (result ≡ status) ⊎ (result ≡ 4) → (result ≢ 4 → Puts text) → SaysYes files words result Puts
finished_yes files words status text has result Puts (inr four) puts =
    unsaid files words result Puts (λ e. omega (arith, e, four)) (λ e. omega (arith, e, four)) (λ e. omega (arith, e, four))
finished_yes None words status text has result Puts (inl same) puts = tt
finished_yes (Some known) words status text has result Puts (inl same) puts = λ deck circuit asks own.
    let zero = status_is known words deck circuit asks own status text has in (
      (λ e. omega (arith, same, zero, e)),
      (λ e. omega (arith, same, zero, e)),
      (λ none. (text, says known words deck circuit asks own status text has, puts (λ e. omega (arith, none, e)))),
    )

-- a failure was reported
pub reported_yes : {files : Files} {words : List (List ℕ)} {Rises : Type 0} {status : ℕ} {Reports : List ℕ → Type 0} (Puts : List ℕ → Type 0)
    → FailureReported files words Rises status Reports → SaysYes files words status Puts
reported_yes {files = None} Puts (refusal name why comes one tells) = tt
reported_yes {files = Some known} {words = words} Puts (refusal name why comes one tells) = λ deck circuit asks own.
    absurd (never_refused known words deck circuit asks own name why comes)
reported_yes {files = files} {words = words} {status = status} Puts (unread name meets rises three tells) =
    unsaid files words status Puts (λ e. omega (arith, e, three)) (λ e. omega (arith, e, three)) (λ e. omega (arith, e, three))
reported_yes {files = files} {words = words} {status = status} Puts (memory five tells) =
    unsaid files words status Puts (λ e. omega (arith, e, five)) (λ e. omega (arith, e, five)) (λ e. omega (arith, e, five))
