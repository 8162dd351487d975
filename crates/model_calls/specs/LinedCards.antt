-- The cards of a model with their lines, by the indices of the cards in the model and by the numbers of the models that its
-- instances name.
use Rattle.std.specs.Prelude.{ℕ, ◌≡◌, List, [], ◌∷◌, Some, slice_get}
use Rattle.blif_ast.specs.BlifModelData.{BlifModelData}
use Rattle.model_calls.specs.declared.plan.CardAt.{CardAt}
use Rattle.model_calls.specs.declared.plan.CardAt.TheVariants.{Table, Latch, Instance}
use Rattle.model_calls.specs.declared.lined.LinedCard.{LinedCard}
use Rattle.model_calls.specs.Expanded.{BodyCard, InstanceCard, LatchCard, TableCard, card_line}

-- a card by its numbers is this card of a model whose instances name the models of these numbers
abbrev pub IsNumberedCard : BlifModelData → List ℕ → CardAt → BodyCard → Type 0
IsNumberedCard m callees (Table k) (TableCard t) = slice_get m.tables k ≡ Some t
IsNumberedCard m callees (Latch k) (LatchCard l) = slice_get m.latches k ≡ Some l
IsNumberedCard m callees (Instance k u) (InstanceCard i) = (slice_get m.instances k ≡ Some i) × (slice_get callees k ≡ Some u)
IsNumberedCard m callees _ _ = ⊥

abbrev pub AreNumberedCards : BlifModelData → List ℕ → List CardAt → List BodyCard → Type 0
AreNumberedCards m callees [] [] = Unit {0}
AreNumberedCards m callees (at ∷ ats) (c ∷ cs) = IsNumberedCard m callees at c × AreNumberedCards m callees ats cs
AreNumberedCards m callees _ _ = ⊥

-- the same with the lines of the cards
abbrev pub AreLinedCards : BlifModelData → List ℕ → List LinedCard → List BodyCard → Type 0
AreLinedCards m callees [] [] = Unit {0}
AreLinedCards m callees (p ∷ ps) (c ∷ cs) = ((p.line ≡ card_line c) × IsNumberedCard m callees p.card c) × AreLinedCards m callees ps cs
AreLinedCards m callees _ _ = ⊥
