use Rattle.std.proofs.Common.{refl}
use Rattle.std.proofs.lemmas.Result.{err_from_is_err_and}
use Rattle.command_answers.proofs.TextNetworks.{text_network}
use Rattle.command_answers.proofs.ExactDecks.{has_signs}
use Rattle.command_answers.proofs.LeastDecks.{least_deck}
use Rattle.command_answers.proofs.Methods.{unsuited_undecked}
use Rattle.command_answers.proofs.RightTexts.{text_is_right}
use Rattle.command_answers.proofs.synth_command.synth.Goals as goal

pub returns-clause-deck : goal.returns-clause-deck
returns-clause-deck c =
    let network = c.in_ok-network.network in
    let is = c.in_ok-text.ensures.text in (
      record {
        network = network;
        has = text_network c.args.bytes.now network c.requires.within c.in_ok-network.ensures.network;
        suited = c.in_ok-text.ensures.suited;
        is_text = record { circuit = is.circuit; is_chosen = is.is_chosen; written = is.written };
      },
      refl,
    )

pub returns-clause-right : goal.returns-clause-right
returns-clause-right c =
    let network = c.in_ok-network.network in
    let bytes = c.args.bytes.now in
    let text = c.in_ok-text.text.items in
    let found = c.in_ok-network.ensures.network in
    let good = c.requires.good_options in
    let is = c.in_ok-text.ensures.text in (
      text_is_right bytes text found.file network c.args.options found.accepted found.network_is good c.args.method c.in_ok-text.ensures.names is,
      has_signs c.args.method bytes text network c.args.options (text_network bytes network c.requires.within found) good is,
      least_deck c.args.method bytes network c.args.options text (text_network bytes network c.requires.within found)
          (record { circuit = is.circuit; is_chosen = is.is_chosen; written = is.written }),
    )

pub returns-in_err-text-clause-refused : goal.returns-in_err-text-clause-refused
returns-in_err-text-clause-refused c why is =
    let p = err_from_is_err_and c.from_residual-in_err-text.result c.from_residual-in_err-text.ensures.1 in
    let a = p.1 in
    let b = p.2 in
    unsuited_undecked c.args.method c.args.bytes.now c.in_ok-network.network why
    (text_network c.args.bytes.now c.in_ok-network.network c.requires.within c.in_ok-network.ensures.network)
    (c.in_err-text.ensures.refused why (cc))
