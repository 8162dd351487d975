use Rattle.std.proofs.Common.{◌∙◌, ◌++◌, ◌∷◌, [], ap, map}
use Rattle.std.specs.Str.{str_to_ascii_lowercase}
use Rattle.std.proofs.lemmas.List.{map-append}
use Rattle.deck.specs.DeckCards.{NumberedCard}
use Rattle.spice_read.proofs.WordLists.{one_more_word}
use Rattle.spice_read.proofs.cards.Card.push_word.Goals as goal

pub invariant_of-self-2 : goal.invariant_of-self-2
invariant_of-self-2 c =
    c.either-self-inside.ensures
    ∙ one_more_word (λ w. w.now) c.self.inside.words.items c.push.new.self.items c.args.word c.self.inside.unclean c.args.unclean (c.in_ok-push.ensures.items) c.self.invariant c.requires

pub returns-clause-words : goal.returns-clause-words
returns-clause-words c =
    let word = str_to_ascii_lowercase c.args.word.now in
    ap (map (λ w. str_to_ascii_lowercase w.now)) c.in_ok-push.ensures.items
    ∙ map-append (λ w. str_to_ascii_lowercase w.now) c.self.inside.words.items (c.args.word ∷ [])
    ∙ ap (λ (k : NumberedCard). k.words ++ word ∷ []) c.self.view_is
