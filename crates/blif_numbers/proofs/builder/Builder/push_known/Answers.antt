use Rattle.std.proofs.Common.{Some, ap, map, sym, ◌∙◌}
use Rattle.std.proofs.lemmas.Result.{on_ok_weaker}
use Rattle.blif_numbers.specs.Build.{Built, built_by}
use Rattle.blif_lines.specs.Cuts.{numbered_line}
use Rattle.blif_numbers.specs.BuilderData.{built_in, card_taken, model_closed, model_taken}
use Rattle.blif_numbers.proofs.Builds.{taken-is}
use Rattle.blif_numbers.proofs.BuilderSteps.{clean_closed, inner_is, known-end, known-model}
use Rattle.blif_numbers.proofs.builder.Builder.push_known.Goals as goal

pub next_model-requires-clause-table : goal.next_model-requires-clause-table
next_model-requires-clause-table c = ap (λ (x : Built). x.table) c.in_ok-close_table.ensures.built

pub close_model-requires-clause-table : goal.close_model-requires-clause-table
close_model-requires-clause-table c = ap (λ (x : Built). x.table) c.in_ok-close_table.ensures.built

pub push_card-requires-clause-table : goal.push_card-requires-clause-table
push_card-requires-clause-table c = ap (λ (x : Built). x.table) c.in_ok-close_table.ensures.built

pub push_card-requires-clause-inner : goal.push_card-requires-clause-inner
push_card-requires-clause-inner c = inner_is c.args.card c.in_default.not-Model c.in_default.not-End

pub push_card-requires-clause-clean : goal.push_card-requires-clause-clean
push_card-requires-clause-clean c =
    clean_closed (built_in c.args.self.now) (built_in c.close_table.new.self) c.args.card (map (λ w. w.now) c.args.words.now) c.in_ok-close_table.ensures.built c.requires.clean

pub returns-in-Model-clause-built : goal.returns-in-Model-clause-built
returns-in-Model-clause-built c =
    let line = numbered_line c.args.line (map (λ w. w.now) c.args.words.now) in
    on_ok_weaker c.next_model.result
    (λ e. e ∙ ap (λ b. model_taken (model_closed b) line) c.in_ok-close_table.ensures.built ∙ sym (known-model (built_in c.args.self.now) line)
    ∙ ap (λ card. built_by (built_in c.args.self.now) (Some card) line) (sym c.in-Model.is)) c.next_model.ensures.built

pub returns-in-Model-clause-text : goal.returns-in-Model-clause-text
returns-in-Model-clause-text c = on_ok_weaker c.next_model.result (λ e. e ∙ c.in_ok-close_table.ensures.text) c.next_model.ensures.text

pub returns-in-End-clause-built : goal.returns-in-End-clause-built
returns-in-End-clause-built c =
    let line = numbered_line c.args.line (map (λ w. w.now) c.args.words.now) in
    on_ok_weaker c.close_model.result
    (λ e. e ∙ ap model_closed c.in_ok-close_table.ensures.built ∙ sym (known-end (built_in c.args.self.now) line)
    ∙ ap (λ card. built_by (built_in c.args.self.now) (Some card) line) (sym c.in-End.is)) c.close_model.ensures.built

pub returns-in-End-clause-text : goal.returns-in-End-clause-text
returns-in-End-clause-text c = on_ok_weaker c.close_model.result (λ e. e ∙ c.in_ok-close_table.ensures.text) c.close_model.ensures.text

pub returns-in_default-clause-built : goal.returns-in_default-clause-built
returns-in_default-clause-built c =
    let line = numbered_line c.args.line (map (λ w. w.now) c.args.words.now) in
    on_ok_weaker c.push_card.result
    (λ e. e ∙ ap (λ b. card_taken b c.args.card line) c.in_ok-close_table.ensures.built
    ∙ sym (taken-is (built_in c.args.self.now) c.args.card line (inner_is c.args.card c.in_default.not-Model c.in_default.not-End))) c.push_card.ensures.built

pub returns-in_default-clause-text : goal.returns-in_default-clause-text
returns-in_default-clause-text c = on_ok_weaker c.push_card.result (λ e. e ∙ c.in_ok-close_table.ensures.text) c.push_card.ensures.text
