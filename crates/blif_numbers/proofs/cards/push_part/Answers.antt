use Rattle.std.proofs.Common.{ap, map, sym, ◌∙◌}
use Rattle.std.proofs.lemmas.List.{drop-map}
use Rattle.std.proofs.lemmas.Result.{on_ok_weaker}
use Rattle.blif_lines.specs.Cuts.{numbered_line}
use Rattle.blif_numbers.specs.BuilderData.{card_lists}
use Rattle.numbered_file.specs.OpenLists.{open_lists, with_inputs, with_outputs, with_words}
use Rattle.blif_numbers.proofs.cards.push_part.Goals as goal

pub returns-in-Inputs-clause-lists : goal.returns-in-Inputs-clause-lists
returns-in-Inputs-clause-lists c =
    let lists = open_lists c.args.file.now in
    on_ok_weaker c.push_inputs.result
    (λ e. e ∙ ap (with_inputs lists) (ap (map (λ w. w.now)) c.behind_first-behind.ensures ∙ sym (drop-map (λ w. w.now) 1 c.args.words.now))
    ∙ ap (λ card. card_lists lists card (numbered_line c.args.line (map (λ w. w.now) c.args.words.now))) (sym c.in-Inputs.is)) c.push_inputs.ensures.lists

pub returns-in-Outputs-clause-lists : goal.returns-in-Outputs-clause-lists
returns-in-Outputs-clause-lists c =
    let lists = open_lists c.args.file.now in
    on_ok_weaker c.push_outputs.result
    (λ e. e ∙ ap (with_outputs lists) (ap (map (λ w. w.now)) c.behind_first-behind.ensures ∙ sym (drop-map (λ w. w.now) 1 c.args.words.now))
    ∙ ap (λ card. card_lists lists card (numbered_line c.args.line (map (λ w. w.now) c.args.words.now))) (sym c.in-Outputs.is)) c.push_outputs.ensures.lists

pub returns-in-Names-clause-lists : goal.returns-in-Names-clause-lists
returns-in-Names-clause-lists c =
    let lists = open_lists c.args.file.now in
    on_ok_weaker c.push_words.result
    (λ e. e ∙ ap (with_words lists) (ap (map (λ w. w.now)) c.behind_first-behind.ensures ∙ sym (drop-map (λ w. w.now) 1 c.args.words.now))
    ∙ ap (λ card. card_lists lists card (numbered_line c.args.line (map (λ w. w.now) c.args.words.now))) (sym c.in-Names.is)) c.push_words.ensures.lists

pub returns-in-Latch-clause-lists : goal.returns-in-Latch-clause-lists
returns-in-Latch-clause-lists c =
    let lists = open_lists c.args.file.now in
    on_ok_weaker c.push_latch.result
    (λ e. e ∙ ap (λ card. card_lists lists card (numbered_line c.args.line (map (λ w. w.now) c.args.words.now))) (sym c.in-Latch.is)) c.push_latch.ensures.lists

pub returns-in-Subckt-clause-lists : goal.returns-in-Subckt-clause-lists
returns-in-Subckt-clause-lists c =
    let lists = open_lists c.args.file.now in
    on_ok_weaker c.push_instance.result
    (λ e. e ∙ ap (λ card. card_lists lists card (numbered_line c.args.line (map (λ w. w.now) c.args.words.now))) (sym c.in-Subckt.is)) c.push_instance.ensures.lists
