use Rattle.std.proofs.Common.{◌<◌, ◌+◌, ◌∷◌, ◌++◌, [], ap, arith, length, map, sym, take, ◌∙◌}
use Rattle.std.proofs.lemmas.List.{length-map, take_all, take_more}
use Rattle.numbered_file.specs.OpenLists.{open_lists, with_words}
use Rattle.numbered_file.proofs.ListSteps.{grows-none, grows-on, words-more, words-none}
use Rattle.blif_numbers.proofs.cards.push_words.Goals as goal

pub loop-index-init : goal.loop-index-init
loop-index-init c = record { lists = words-none (open_lists c.args.file.now); grown = grows-none c.args.file.now.names }

pub loop-index-preserved : goal.loop-index-preserved
loop-index-preserved c =
    let names = map (λ w. w.now) c.args.words.now in
    let i = c.loop-index.index in
    let lt : i < length names = omega (arith, c.loop-index-test.true, length-map c.args.words.now (λ w. w.now)) in
    record {
      lists = words-more (open_lists c.args.file.now) (open_lists c.loop-index.file) (open_lists c.add_word.new.self) (take i names) (c.word_at.result.now ∷ []) (take (i + 1) names)
          (take_more names i [] lt ∙ ap (λ w. take i names ++ w ∷ []) (sym c.word_at.ensures)) c.loop-index.invariant.lists c.in_ok-add_word.ensures.lists;
      grown = grows-on c.args.file.now.names c.loop-index.file.names c.add_word.new.self.names c.loop-index.invariant.grown c.in_ok-add_word.ensures.grown;
    }

pub returns-clause-lists : goal.returns-clause-lists
returns-clause-lists c =
    let names = map (λ w. w.now) c.args.words.now in
    c.loop-index.invariant.lists ∙ ap (λ l. with_words (open_lists c.args.file.now) l)
    (take_all c.loop-index.index names (omega (arith, c.loop-index-test.false, length-map c.args.words.now (λ w. w.now))))
