use Rattle.std.proofs.Common.{◌≡◌, ◌∙◌, ◌-◌, ℕ, ap, sym, arith, drop, length, map, take}
use Rattle.std.specs.Str.{str_to_ascii_lowercase}
use Rattle.std.proofs.lemmas.List.{drop-map, length-map, take-map}
use Rattle.deck.specs.DeckCards.{NumberedCard}
use Rattle.spice_read.proofs.cards.Card.passed.Goals as goal

pub returns : goal.returns
returns c =
    let xs = c.deref.result.now in
    let number : ℕ = c.len-last.result - 1 - 1 in
    let words = ap (map (λ w. str_to_ascii_lowercase w.now)) c.deref.ensures.value ∙ ap (λ (k : NumberedCard). k.words) c.self.view_is in
    let count : c.len-last.result - 1 - 1 ≡ length c.args.self.now.words - 2 = omega (arith, c.len-last.ensures, c.deref.ensures.len, length-map xs (λ w. str_to_ascii_lowercase w.now), ap length words) in
    sym (take-map (λ w. str_to_ascii_lowercase w.now) (c.len-last.result - 1 - 1) (drop 1 xs))
    ∙ ap (take (c.len-last.result - 1 - 1)) (sym (drop-map (λ w. str_to_ascii_lowercase w.now) 1 xs) ∙ ap (drop 1) words)
    ∙ ap (λ (n : ℕ). take n (drop 1 c.args.self.now.words)) count
