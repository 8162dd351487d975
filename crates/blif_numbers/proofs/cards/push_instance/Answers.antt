use Rattle.std.proofs.Common.{◌∷◌, [], ap, drop, map, refl, sym, ◌∙◌}
use Rattle.std.specs.Prelude.{slice_index_or}
use Rattle.std.proofs.lemmas.List.{drop-map}
use Rattle.std.proofs.lemmas.Result.{on_ok_weaker}
use Rattle.blif_numbers.specs.BuilderData.{binding_words}
use Rattle.numbered_file.specs.OpenLists.{with_parts, open_lists, with_words}
use Rattle.numbered_file.specs.declared.parts.PartKind.TheVariants as at
use Rattle.numbered_file.proofs.ListSteps.{grows-on, grows-same, part-taken, words-more}
use Rattle.blif_numbers.proofs.CardSteps.{instance-is}
use Rattle.blif_numbers.proofs.cards.push_instance.Goals as goal

pub returns-clause-lists : goal.returns-clause-lists
returns-clause-lists c =
    let words = map (λ w. w.now) c.args.words.now in
    let lists = open_lists c.args.file.now in
    let unit = slice_index_or words 1 [] in
    let bindings = binding_words (drop 2 words) in
    let behind = ap (map (λ w. w.now)) c.behind_second.ensures ∙ sym (drop-map (λ w. w.now) 2 c.args.words.now) in
    let first = c.in_ok-add_word.ensures.lists ∙ ap (λ w. with_words lists (w ∷ [])) c.word_at.ensures in
    let filled = words-more lists (open_lists c.add_word.new.self) (open_lists c.push_bindings.new.file) (unit ∷ []) bindings (unit ∷ bindings) refl first
    (c.in_ok-push_bindings.ensures.lists ∙ ap (λ ws. with_words (open_lists c.add_word.new.self) (binding_words ws)) behind) in
    on_ok_weaker c.add_part.result
    (λ e. e ∙ part-taken lists (open_lists c.push_bindings.new.file) at.Instance c.args.line (unit ∷ bindings) filled c.requires.words c.requires.rows
    ∙ ap (with_parts lists) (instance-is lists.text c.args.line words)) c.add_part.ensures.lists

pub returns-clause-grown : goal.returns-clause-grown
returns-clause-grown c = on_ok_weaker c.add_part.result
    (λ e. grows-on c.args.file.now.names c.push_bindings.new.file.names c.add_part.new.self.names
    (grows-on c.args.file.now.names c.add_word.new.self.names c.push_bindings.new.file.names c.in_ok-add_word.ensures.grown c.in_ok-push_bindings.ensures.grown)
    (grows-same c.push_bindings.new.file.names c.add_part.new.self.names c.add_part.ensures.names)) c.add_part.ensures.lists
