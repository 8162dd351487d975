use Rattle.std.proofs.Common.{◌<◌, ◌+◌, ◌∷◌, ◌++◌, [], ap, arith, length, map, sym, take, ◌∙◌}
use Rattle.std.proofs.lemmas.List.{length-map, take_all, take_more}
use Rattle.blif_ast.specs.Cards.{actual_of, formal_of}
use Rattle.blif_numbers.specs.BuilderData.{binding_words}
use Rattle.numbered_file.specs.OpenLists.{open_lists, with_words}
use Rattle.blif_numbers.proofs.CardSteps.{binding_words-push}
use Rattle.numbered_file.proofs.ListSteps.{grows-none, grows-on, words-more, words-none}
use Rattle.blif_numbers.proofs.cards.push_bindings.Goals as goal

pub loop-index-init : goal.loop-index-init
loop-index-init c = record { lists = words-none (open_lists c.args.file.now); grown = grows-none c.args.file.now.names }

pub loop-index-preserved : goal.loop-index-preserved
loop-index-preserved c =
    let words = map (λ w. w.now) c.args.words.now in
    let i = c.loop-index.index in
    let word = c.word_at.result.now in
    let lt : i < length words = omega (arith, c.loop-index-test.true, length-map c.args.words.now (λ w. w.now)) in
    record {
      lists = words-more (open_lists c.args.file.now) (open_lists c.loop-index.file) (open_lists c.push_binding.new.file) (binding_words (take i words))
          (formal_of word ∷ actual_of word ∷ []) (binding_words (take (i + 1) words))
          (ap binding_words (take_more words i [] lt ∙ ap (λ w. take i words ++ w ∷ []) (sym c.word_at.ensures)) ∙ binding_words-push (take i words) word)
          c.loop-index.invariant.lists c.in_ok-push_binding.ensures.lists;
      grown = grows-on c.args.file.now.names c.loop-index.file.names c.push_binding.new.file.names c.loop-index.invariant.grown c.in_ok-push_binding.ensures.grown;
    }

pub returns-clause-lists : goal.returns-clause-lists
returns-clause-lists c =
    let words = map (λ w. w.now) c.args.words.now in
    c.loop-index.invariant.lists ∙ ap (λ ws. with_words (open_lists c.args.file.now) (binding_words ws))
    (take_all c.loop-index.index words (omega (arith, c.loop-index-test.false, length-map c.args.words.now (λ w. w.now))))
