use Rattle.std.proofs.Common.{map, sym, ap, ◌∙◌, subst}
use Rattle.std.specs.List.{AllByRecursion}
use Rattle.numbered_file.specs.Places.{of_part}
use Rattle.dom_base.proofs.Options.{if_ok-weaker}
use Rattle.numbered_signals.specs.PartRoots.{part_of_roots}
use Rattle.numbered_signals.specs.ScopeRoots.{HasRoot, local_root}
use Rattle.numbered_signals.proofs.PartsByRoots.{part_within, rooted_words_at, same_part_at, some_place}
use Rattle.numbered_signals.proofs.parts.number_part.Goals as goal

pub card_place-place-requires : goal.card_place-place-requires
card_place-place-requires c = record {
  there = some_place c.args.file.now c.args.places.now c.args.names.now c.args.roots.now c.requires.places c.requires.names c.requires.good c.args.part c.requires.numbered;
}

pub part_at-at-requires : goal.part_at-at-requires
part_at-at-requires c = record {
  within = part_within c.args.file.now c.args.places.now c.args.names.now c.args.roots.now c.requires.places c.requires.names c.requires.good c.args.part c.requires.numbered
      c.card_place-place.result c.card_place-place.ensures;
}

pub number_words-requires : goal.number_words-requires
number_words-requires c = record {
  there = subst (AllByRecursion (HasRoot c.args.roots.now c.args.part.scope)) (sym (c.of_part-words.ensures ∙ ap (of_part c.args.file.now c.card_place-place.result) c.words.ensures))
      (rooted_words_at c.args.file.now c.args.places.now c.args.names.now c.args.roots.now c.requires.places c.requires.names c.requires.good c.args.part c.requires.numbered
      c.card_place-place.result c.card_place-place.ensures);
}

pub returns : goal.returns
returns c = if_ok-weaker c.number_words.result
    (λ numbered is. is
    ∙ ap (λ words. part_of_roots c.args.part c.part_at-at.result.kind (map (local_root c.args.roots.now c.args.part.scope) words))
    (c.of_part-words.ensures ∙ ap (of_part c.args.file.now c.card_place-place.result) c.words.ensures)
    ∙ same_part_at c.args.file.now c.args.places.now c.args.names.now c.args.roots.now c.requires.places c.requires.names c.requires.good c.args.part c.requires.numbered
    c.card_place-place.result c.card_place-place.ensures c.part_at-at.result c.part_at-at.ensures)
    c.number_words.ensures
