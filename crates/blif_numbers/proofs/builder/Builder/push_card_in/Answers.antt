use Rattle.std.proofs.Common.{ap, map, subst, sym, Some, ◌∙◌}
use Rattle.std.proofs.lemmas.List.{length-map}
use Rattle.blif_lines.specs.Cuts.{numbered_line}
use Rattle.blif_numbers.specs.BuilderData.{BuilderData, card_lists, opened_table, table_of_open}
use Rattle.numbered_file.specs.NameNumbers.{Grows}
use Rattle.numbered_file.specs.NumberedData.{NumberedData}
use Rattle.numbered_file.specs.OpenLists.{OpenLists, open_lists}
use Rattle.blif_numbers.specs.declared.open_model.OpenModel.{OpenModel}
use Rattle.blif_numbers.proofs.BuilderSteps.{card-step, card_text, no_table_open, table_where}
use Rattle.blif_numbers.proofs.builder.Builder.push_card_in.Goals as goal

pub push_part-requires-clause-words : goal.push_part-requires-clause-words
push_part-requires-clause-words c =
    ap (λ (x : BuilderData). (open_lists x.file).words) c.self.view_is
    ∙ (table_where c.requires.builder c.requires.model (sym (ap table_of_open c.requires.model) ∙ no_table_open c.args.self.now c.requires.table)).0

pub push_part-requires-clause-rows : goal.push_part-requires-clause-rows
push_part-requires-clause-rows c =
    ap (λ (x : BuilderData). (open_lists x.file).rows) c.self.view_is
    ∙ (table_where c.requires.builder c.requires.model (sym (ap table_of_open c.requires.model) ∙ no_table_open c.args.self.now c.requires.table)).1

pub returns : goal.returns
returns c =
    let file = c.in_ok-push_part.ensures in
    let same_file = ap (λ (x : BuilderData). x.file) c.self.view_is in
    let line = numbered_line c.args.line (map (λ w. w.now) c.args.words.now) in
    let table_is = c.opened_table.ensures ∙ ap (opened_table c.args.card c.args.line) (sym (length-map c.args.words.now (λ w. w.now))) in
    let open_is = c.with_table-after.ensures ∙ ap (λ t. record { name = c.args.model.name; line = c.args.model.line; table = t }) table_is in
    let lists = file.lists ∙ ap (λ f. card_lists (open_lists f) c.args.card line) same_file in
    let done = card-step c.args.card line c.requires.builder c.requires.model c.requires.table c.requires.inner c.requires.clean
    (subst (λ (f : NumberedData). Grows f.names c.push_part.new.file.names) same_file file.grown) lists
    (ap (λ (m : OpenModel). Some m) open_is) in
    record {
      built = done.built_is;
      builder = done.builder;
      text = ap (λ (l : OpenLists). l.text) lists ∙ card_text (open_lists c.args.self.now.file) c.args.card line;
    }
