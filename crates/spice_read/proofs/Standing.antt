-- What the cards before a card say, card by card.
use Rattle.std.proofs.Common.{◌≡◌, ℕ, true, false, List, [], ◌∷◌, ◌++◌, nat_eq, find, Option, Some, None, refl, ap, ◌∙◌}
use Rattle.std.specs.List.{AllByRecursion}
use Rattle.std.specs.Cmp.Lexicographic.{pointwise}
use Rattle.deck.specs.DeckCards.{NumberedCard, has_first_word, dot_subckt, dot_ends, port_names, is_open, has_subckt, word_at}
use Rattle.deck.specs.Subckts.{SubcktPart, Subckt}
use Rattle.deck.specs.SubcktCards.{card_parts, open_parts, opened_subckt, open_subckt, closed_subckts, is_named_before}
use Rattle.spice_read.proofs.CleanCards.{IsOf}

-- none of some subcircuits has this name
abbrev pub NoneNamed : List ℕ → List Subckt → Type 0
NoneNamed name done = AllByRecursion (λ (t : Subckt). pointwise nat_eq t.name name ≡ false) done

-- between subcircuits: these are closed, and none is open
pub record StandsBetween (before : List NumberedCard) (done : List Subckt) : Type 0 where
  pub closed_are : closed_subckts before ≡ done
  pub none_open : is_open before ≡ false
  pub none_named : (name : List ℕ) → NoneNamed name done → is_named_before name before ≡ false
  pub begun : (s : Subckt) (rest : List Subckt) → done ≡ s ∷ rest → has_subckt before ≡ true

-- inside a subcircuit, behind these parts of it
pub record StandsInside (before : List NumberedCard) (done : List Subckt) (s : Subckt) : Type 0 where
  pub closed_are : closed_subckts before ≡ done
  pub one_open : is_open before ≡ true
  pub open_is : open_subckt before ≡ s
  pub none_named : (name : List ℕ) → NoneNamed name done → pointwise nat_eq s.name name ≡ false → is_named_before name before ≡ false
  pub begun : has_subckt before ≡ true

pub starts : StandsBetween [] []
starts = record { closed_are = refl; none_open = refl; none_named = λ name h. refl; begun = λ s rest e. absurd (cc) }

pub between_skipped : (before : List NumberedCard) (card : NumberedCard) (done : List Subckt) → IsOf card false false false false → StandsBetween before done → StandsBetween (card ∷ before) done
between_skipped before card done o s = record {
  closed_are = rw o.ending_is s.closed_are;
  none_open = rw (o.opening_is, o.ending_is) s.none_open;
  none_named = λ name h. rw o.opening_is (s.none_named name h);
  begun = λ t rest e. rw o.opening_is (s.begun t rest e);
}

opened_more : (o : Option NumberedCard) (parts more : List SubcktPart) → opened_subckt o (parts ++ more) ≡ record { name = (opened_subckt o parts).name; ports = (opened_subckt o parts).ports; parts = (opened_subckt o parts).parts ++ more }
opened_more None parts more = refl
opened_more (Some card) parts more = refl

-- a card that is neither `.subckt` nor `.ends` adds its parts
pub inside_more : (before : List NumberedCard) (card : NumberedCard) (done : List Subckt) (s : Subckt) → has_first_word dot_subckt card ≡ false → has_first_word dot_ends card ≡ false → StandsInside before done s
    → StandsInside (card ∷ before) done (record { name = s.name; ports = s.ports; parts = s.parts ++ card_parts card })
inside_more before card done s no_sub no_ends t =
    let more = card_parts card in
    let same : open_subckt (card ∷ before) ≡ opened_subckt (find (has_first_word dot_subckt) before) (open_parts before ++ more) = rw no_sub refl in
    record {
      closed_are = rw no_ends t.closed_are;
      one_open = rw (no_sub, no_ends) t.one_open;
      open_is = same ∙ opened_more (find (has_first_word dot_subckt) before) (open_parts before) more ∙ ap (λ (u : Subckt). record { name = u.name; ports = u.ports; parts = u.parts ++ more }) t.open_is;
      none_named = λ name h e. rw no_sub (t.none_named name h e);
      begun = rw no_sub t.begun;
    }

-- `.subckt`
pub opens : (before : List NumberedCard) (card : NumberedCard) (done : List Subckt) → IsOf card false false true false → StandsBetween before done
    → StandsInside (card ∷ before) done (record { name = word_at card 1; ports = port_names card; parts = [] })
opens before card done o s = record {
  closed_are = rw o.ending_is s.closed_are;
  one_open = rw (o.opening_is, o.opening_is) refl;
  open_is = rw o.opening_is refl;
  none_named = λ name h e. rw (o.opening_is, e) (s.none_named name h);
  begun = rw o.opening_is refl;
}

-- `.ends`
pub closes : (before : List NumberedCard) (card : NumberedCard) (done : List Subckt) (s : Subckt) → IsOf card false false false true → StandsInside before done s → StandsBetween (card ∷ before) (s ∷ done)
closes before card done s o t =
    let open_is = t.open_is in
    let closed_are = t.closed_are in
    record {
      closed_are = rw o.ending_is (cc);
      none_open = rw (o.opening_is, o.ending_is) o.opening_is;
      none_named = λ name h. rw o.opening_is (t.none_named name h.1 h.0);
      begun = λ u rest e. rw o.opening_is t.begun;
    }
