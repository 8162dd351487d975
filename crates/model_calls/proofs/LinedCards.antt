-- What is kept while the cards of a model are put in order of their lines.
use Rattle.std.proofs.Common.{◌≡◌, ℕ, ◌+◌, Bool, true, false, List, [], ◌∷◌, ◌++◌, map, take, Some, ap, sym, ◌∙◌, subst, append_assoc}
use Rattle.std.specs.Prelude.{nat_lt, slice_get, if◌then◌else◌}
use Rattle.blif_ast.specs.BlifModelData.{BlifModelData}
use Rattle.dom_base.proofs.Lists.{map-push}
use Rattle.graph_order.proofs.Lists.{take_next}
use Rattle.model_calls.specs.declared.lined.LinedCard.{LinedCard}
use Rattle.model_calls.specs.Expanded.{BodyCard, card_line}
use Rattle.model_calls.specs.LinedCards.{AreLinedCards, AreNumberedCards, IsNumberedCard}
use Rattle.model_calls.specs.Ordered.{in_order, with_element}

module _ (m : BlifModelData) (callees : List ℕ) where
  abbrev IsLined : LinedCard → BodyCard → Type 0
  IsLined p c = (p.line ≡ card_line c) × IsNumberedCard m callees p.card c

  pub lined_push : (ps : List LinedCard) (cs : List BodyCard) (p : LinedCard) (c : BodyCard) → AreLinedCards m callees ps cs → IsLined p c → AreLinedCards m callees (ps ++ p ∷ []) (cs ++ c ∷ [])
  lined_push [] [] p c are is = (is, tt)
  lined_push [] (d ∷ cs) p c are is = absurd are
  lined_push (q ∷ ps) [] p c are is = absurd are
  lined_push (q ∷ ps) (d ∷ cs) p c are is = (are.0, lined_push ps cs p c are.1 is)

  -- one more of the cards of a kind
  pub lined_next : {Card : Type 0} (card : Card → BodyCard) (all : List Card) (k : ℕ) (x : Card) (before : List BodyCard) (ps after : List LinedCard) (p : LinedCard)
      → slice_get all k ≡ Some x → AreLinedCards m callees ps (before ++ map card (take k all)) → after ≡ ps ++ p ∷ [] → IsLined p (card x)
      → AreLinedCards m callees after (before ++ map card (take (k + 1) all))
  lined_next card all k x before ps after p there are pushed is =
      subst (λ l. AreLinedCards m callees l (before ++ map card (take (k + 1) all))) (sym pushed)
      (subst (AreLinedCards m callees (ps ++ p ∷ []))
      (append_assoc before (map card (take k all)) (card x ∷ []) ∙ ap (λ l. before ++ l) (sym (ap (map card) (take_next all k x there) ∙ map-push card (take k all) x)))
      (lined_push ps (before ++ map card (take k all)) p (card x) are is))

  -- cards in order of lines
  with_lined : (ps : List LinedCard) (cs : List BodyCard) (p : LinedCard) (c : BodyCard) → IsLined p c → AreLinedCards m callees ps cs
      → AreLinedCards m callees (with_element (λ q. q.line) p ps) (with_element card_line c cs)
  with_lined [] [] p c is are = (is, tt)
  with_lined [] (d ∷ cs) p c is are = absurd are
  with_lined (q ∷ ps) [] p c is are = absurd are
  with_lined (q ∷ ps) (d ∷ cs) p c is are =
      subst (λ b. AreLinedCards m callees (with_element (λ r. r.line) p (q ∷ ps)) (if b then d ∷ with_element card_line c cs else c ∷ d ∷ cs)) same
      (by (with_lined ps cs p c is are.1) (nat_lt q.line p.line))
    where
      same : nat_lt q.line p.line ≡ nat_lt (card_line d) (card_line c)
      same = ap (λ n. nat_lt n p.line) are.0.0 ∙ ap (nat_lt (card_line d)) is.0

      by : AreLinedCards m callees (with_element (λ r. r.line) p ps) (with_element card_line c cs) → (b : Bool)
          → AreLinedCards m callees (if b then q ∷ with_element (λ r. r.line) p ps else p ∷ q ∷ ps) (if b then d ∷ with_element card_line c cs else c ∷ d ∷ cs)
      by rest true = (are.0, rest)
      by rest false = (is, (are.0, are.1))

  pub lined_in_order : (ps : List LinedCard) (cs : List BodyCard) → AreLinedCards m callees ps cs → AreLinedCards m callees (in_order (λ q. q.line) ps) (in_order card_line cs)
  lined_in_order [] [] are = tt
  lined_in_order [] (c ∷ cs) are = absurd are
  lined_in_order (p ∷ ps) [] are = absurd are
  lined_in_order (p ∷ ps) (c ∷ cs) are = with_lined (in_order (λ q. q.line) ps) (in_order card_line cs) p c are.0 (lined_in_order ps cs are.1)

  pub without_lines : (ps : List LinedCard) (cs : List BodyCard) → AreLinedCards m callees ps cs → AreNumberedCards m callees (map (λ (p : LinedCard). p.card) ps) cs
  without_lines [] [] are = tt
  without_lines [] (c ∷ cs) are = absurd are
  without_lines (p ∷ ps) [] are = absurd are
  without_lines (p ∷ ps) (c ∷ cs) are = (are.0.1, without_lines ps cs are.1)
