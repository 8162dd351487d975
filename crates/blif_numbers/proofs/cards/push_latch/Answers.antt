use Rattle.std.proofs.Common.{ap, arith, map, ◌∙◌}
use Rattle.std.proofs.lemmas.List.{length-map}
use Rattle.std.proofs.lemmas.Result.{on_ok_weaker}
use Rattle.numbered_file.specs.OpenLists.{with_parts, open_lists, with_part}
use Rattle.blif_numbers.specs.LatchWords.{edge_in, init_in, latch_words}
use Rattle.numbered_file.specs.declared.parts.PartKind.TheVariants as at
use Rattle.numbered_file.proofs.ListSteps.{grows-none, grows-on, grows-same, part-taken, parts-none}
use Rattle.blif_numbers.proofs.CardSteps.{latch-is, no-latch}
use Rattle.blif_numbers.proofs.cards.push_latch.Goals as goal

pub returns-then-words-lt3-clause-lists : goal.returns-then-words-lt3-clause-lists
returns-then-words-lt3-clause-lists c =
    let words = map (λ w. w.now) c.args.words.now in
    parts-none (open_lists c.args.file.now)
    ∙ ap (with_parts (open_lists c.args.file.now)) (no-latch c.args.line words (λ low high. omega (arith, low, c.if-words-lt3.true, length-map c.args.words.now (λ w. w.now))))

pub returns-then-words-lt3-clause-grown : goal.returns-then-words-lt3-clause-grown
returns-then-words-lt3-clause-grown c = grows-none c.args.file.now.names

pub returns-clause-lists : goal.returns-clause-lists
returns-clause-lists c =
    let words = map (λ w. w.now) c.args.words.now in
    let lists = open_lists c.args.file.now in
    let kind = at.Latch (edge_in words) (init_in words) in
    on_ok_weaker c.add_part.result
    (λ e. e ∙ ap (λ k. with_part (open_lists c.push_latch_words.new.file) k c.args.line) c.latch_kind.ensures
    ∙ part-taken lists (open_lists c.push_latch_words.new.file) kind c.args.line (latch_words words) c.in_ok-push_latch_words.ensures.lists c.requires.words c.requires.rows
    ∙ ap (with_parts lists) (latch-is lists.text c.args.line words (omega (arith, c.if-words-lt3.false, length-map c.args.words.now (λ w. w.now)))
    (omega (arith, c.if-words-gt6.false, length-map c.args.words.now (λ w. w.now))))) c.add_part.ensures.lists

pub returns-clause-grown : goal.returns-clause-grown
returns-clause-grown c = on_ok_weaker c.add_part.result
    (λ e. grows-on c.args.file.now.names c.push_latch_words.new.file.names c.add_part.new.self.names c.in_ok-push_latch_words.ensures.grown
    (grows-same c.push_latch_words.new.file.names c.add_part.new.self.names c.add_part.ensures.names)) c.add_part.ensures.lists
