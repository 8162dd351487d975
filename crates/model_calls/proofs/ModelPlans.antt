-- The plans of all models, and what they are for a file where nothing is wrong with the models.
use Rattle.std.proofs.Common.{◌≡◌, ℕ, ◌+◌, ◌⊎◌, inl, inr, List, [], ◌∷◌, ◌++◌, length, length-take-le, take, Some, ap, sym, ◌∙◌, subst, arith}
use Rattle.std.specs.Prelude.{slice_get}
use Rattle.std.proofs.lemmas.List.{length-append}
use Rattle.std.proofs.lemmas.Option.{get_or_from_slice_get, slice_get_within}
use Rattle.dom_base.proofs.Lists.{slice_get-push_cases}
use Rattle.blif_ast.specs.BlifModelData.{BlifModelData}
use Rattle.graph_order.proofs.Lists.{take_next}
use Rattle.graph_order.specs.Orders.{successors}
use Rattle.model_calls.proofs.Scans.{take_none}
use Rattle.model_calls.specs.declared.plan.CardAt.{CardAt}
use Rattle.model_calls.specs.Expanded.{ordered_cards}
use Rattle.model_calls.specs.LinedCards.{AreNumberedCards}
use Rattle.model_calls.specs.ModelCalls.{HavePlans}

pub node_at : (nodes : List (List ℕ)) (k : ℕ) (node : List ℕ) → slice_get nodes k ≡ Some node → successors nodes k ≡ node
node_at nodes k node at = get_or_from_slice_get nodes k node [] at

pub have_no_plans : (models : List BlifModelData) (nodes : List (List ℕ)) (plans : List (List CardAt)) → plans ≡ [] → HavePlans (take 0 models) nodes plans
have_no_plans models nodes plans none = subst (HavePlans (take 0 models) nodes) (sym none) (record {
  count = ap length (sym (take_none models));
  cards = λ k m plan there at. absurd cc;
})

pub have_plans_next : (models : List BlifModelData) (nodes : List (List ℕ)) (k : ℕ) (m : BlifModelData) (node : List ℕ) (plans after : List (List CardAt)) (plan : List CardAt)
    → slice_get models k ≡ Some m → slice_get nodes k ≡ Some node → HavePlans (take k models) nodes plans → AreNumberedCards m node plan (ordered_cards m) → after ≡ plans ++ plan ∷ []
    → HavePlans (take (k + 1) models) nodes after
have_plans_next models nodes k m node plans after plan there at have numbered pushed =
    subst (HavePlans (take (k + 1) models) nodes) (sym pushed) (subst (λ l. HavePlans l nodes (plans ++ plan ∷ [])) (sym (take_next models k m there)) (record {
      count = length-append plans (plan ∷ []) ∙ ap (λ n. n + 1) have.count ∙ sym (length-append (take k models) (m ∷ []));
      cards = λ j n p e f. by j n p (slice_get-push_cases (take k models) m j n e) (slice_get-push_cases plans plan j p f);
    }))
  where
    index : length (take k models) ≡ k
    index = length-take-le k models (omega (arith, slice_get_within models k m there))

    by : (j : ℕ) (n : BlifModelData) (p : List CardAt) → (slice_get (take k models) j ≡ Some n) ⊎ ((j ≡ length (take k models)) × (m ≡ n))
        → (slice_get plans j ≡ Some p) ⊎ ((j ≡ length plans) × (plan ≡ p)) → AreNumberedCards n (successors nodes j) p (ordered_cards n)
    by j n p (inl e) (inl f) = have.cards j n p e f
    by j n p (inl e) (inr f) = absurd (omega (arith, slice_get_within (take k models) j n e, f.0, have.count))
    by j n p (inr e) (inl f) = absurd (omega (arith, slice_get_within plans j p f, e.0, have.count))
    by j n p (inr e) (inr f) =
        subst (λ callees. AreNumberedCards n callees p (ordered_cards n)) (sym (ap (successors nodes) (e.0 ∙ index) ∙ node_at nodes k node at))
        (subst (λ q. AreNumberedCards n node q (ordered_cards n)) f.1 (subst (λ b. AreNumberedCards b node plan (ordered_cards b)) e.1 numbered))
